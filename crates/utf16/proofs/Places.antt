-- The unpaired units by their places are those that the list of them has: a unit in no pair is, between its neighbours, `unpaired`.
--     first_is       the first of the list is the first unpaired unit
--     is_first       the first unpaired unit is the first of the list
--     some, any, some_listed          a unit is unpaired exactly if the list is not empty
--     first_inside   the first unpaired unit is one of the units
--     start_paired, longer_unpaired   the units before the first unpaired one hold none, and those of any longer start do
use Prim.Native.Nat.{ℕ, zero, suc, ◌+◌, ◌-◌, ◌≤◌, ◌<◌}
use mathlib.Core.Path.{◌≡◌, refl, sym, ap, ◌∙◌}
use mathlib.Core.Bool.{Bool, true, false, not, ◌&&◌, ◌||◌}
use mathlib.Core.List.{List, [], ◌∷◌}
use native.Mathlib.Omega.{arith}
use native.Mathlib.Numerals.{add-one}
use borrow.Author.Tests.{lt-ltb}
use lib.ListN.{length, get_or, take, length-take, get_or-eq_default}
use lib.Seq.{get_or-take}
use Rattle.common.proofs.Kit.{never, by, by_lt}
use Rattle.utf16.specs.Reading.{is_high, is_low, unpaired_at, FirstUnpaired, unpaired, next, unpaired_from, unpaired_in}
use Rattle.utf16.proofs.Pairs.{high_not_low, low_not_high, zero_plain, zero_no_low}

-- ---- one place
-- the unit before a place: `before` where it is the first
abbrev before_at : ℕ → List ℕ → ℕ → ℕ
before_at before us zero = before
before_at before us (suc j) = get_or us j 0

-- whether the unit at a place is unpaired between its neighbours
abbrev flag : ℕ → List ℕ → ℕ → Bool
flag before us j = unpaired (before_at before us j) (get_or us j 0) (get_or us (suc j) 0)

-- by whether the unit is a high (h) or a low (l) surrogate, which none is both, the one behind it a low (a), and the one before a high (b)
by_flags : (h l a b : Bool) → (h ≡ true → l ≡ false) →
    (h || l) && (not (h && a) && not (b && l)) ≡ (h && not a) || (l && not b)
by_flags true true a b e = never (sym (e refl))
by_flags true false true b e = refl
by_flags true false false true e = refl
by_flags true false false false e = refl
by_flags false true a true e = refl
by_flags false true a false e = refl
by_flags false false a b e = refl

flag_is : (us : List ℕ) (j : ℕ) → unpaired_at us j ≡ flag 0 us j
unfolding unpaired
flag_is us zero =
    let u = get_or us 0 0 in
    rw zero_plain (by_flags (is_high u) (is_low u) (is_low (get_or us 1 0)) false (high_not_low u))
flag_is us (suc j) =
    let u = get_or us (suc j) 0 in
    let e : suc j - 1 ≡ j = omega arith in
    rw (lt-ltb 0 (suc j) (omega arith), e, add-one, add-one)
    (by_flags (is_high u) (is_low u) (is_low (get_or us (suc (suc j)) 0)) (is_high (get_or us j 0)) (high_not_low u))

-- ---- the list
flag_more : (before u : ℕ) (us : List ℕ) (j : ℕ) → flag before (u ∷ us) (suc j) ≡ flag u us j
flag_more before u us zero = refl
flag_more before u us (suc j) = refl

none_flag : (before j : ℕ) → flag before [] j ≡ false
unfolding unpaired
none_flag before j = rw (zero_plain, zero_no_low)

-- what a list of places says of the flags: none holds, or the first place's does and none before it
abbrev Tells : ℕ → ℕ → List ℕ → List ℕ → Type 0
Tells i before us [] = (j : ℕ) → flag before us j ≡ false
Tells i before us (x ∷ later) = (j : ℕ) × ((x ≡ i + j) × ((flag before us j ≡ true) × ((k : ℕ) → k < j → flag before us k ≡ false)))

module _ (i before u : ℕ) (us : List ℕ) (n : flag before (u ∷ us) 0 ≡ false) where
  none_more : ((j : ℕ) → flag u us j ≡ false) → (j : ℕ) → flag before (u ∷ us) j ≡ false
  none_more t zero = n
  none_more t (suc j) = flag_more before u us j ∙ t j

  below_more : (m : ℕ) → ((k : ℕ) → k < m → flag u us k ≡ false) → (k : ℕ) → k < suc m → flag before (u ∷ us) k ≡ false
  below_more m t zero h = n
  below_more m t (suc k) h = flag_more before u us k ∙ t k (omega arith)

  tells_more : (l : List ℕ) → Tells (suc i) u us l → Tells i before (u ∷ us) l
  tells_more [] t = none_more t
  tells_more (x ∷ later) t =
      (suc t.0, (omega (arith, t.1.0), (flag_more before u us t.0 ∙ t.1.1.0, below_more t.0 t.1.1.1)))

tells : (us : List ℕ) (i before : ℕ) → Tells i before us (unpaired_from i before us)
tells [] i before = none_flag before
tells (u ∷ us) i before =
    by (unpaired before u (next us))
    (λ h. rw h (0, (omega arith, (h, λ k l. absurd (omega arith)))))
    (λ h. rw h (tells_more i before u us h (unpaired_from (suc i) u us) (tells us (suc i) u)))

-- ---- all units
module _ (us : List ℕ) where
  of_tells : (l : List ℕ) → Tells 0 0 us l → (x : ℕ) (later : List ℕ) → l ≡ x ∷ later → FirstUnpaired us x
  of_tells [] t x later e = absurd (omega (arith, ap length e))
  of_tells (y ∷ l) t x later e =
      let z : y ≡ x = cc in
      let j : t.0 ≡ x = omega (arith, t.1.0) in
      rw (← j) record { is = flag_is us t.0 ∙ t.1.1.0; none_before = λ k h. flag_is us k ∙ t.1.1.1 k h }

  pub first_is : (x : ℕ) (later : List ℕ) → unpaired_in us ≡ x ∷ later → FirstUnpaired us x
  unfolding unpaired_in
  first_is x later e = of_tells (unpaired_from 0 0 us) (tells us 0 0) x later e

  to_tells : (l : List ℕ) → Tells 0 0 us l → (x : ℕ) → FirstUnpaired us x → (later : List ℕ) × (l ≡ x ∷ later)
  to_tells [] t x f = never (sym (flag_is us x ∙ t x) ∙ f.is)
  to_tells (y ∷ l) t x f =
      let j = t.0 in
      by_lt j x (λ h. never (sym (f.none_before j h) ∙ flag_is us j ∙ t.1.1.0))
      (λ h. by_lt x j (λ g. never (sym (flag_is us x ∙ t.1.1.1 x g) ∙ f.is))
      (λ g. let e : y ≡ x = omega (arith, t.1.0) in (l, rw e refl)))

  pub is_first : (x : ℕ) → FirstUnpaired us x → (later : List ℕ) × (unpaired_in us ≡ x ∷ later)
  unfolding unpaired_in
  is_first x f = to_tells (unpaired_from 0 0 us) (tells us 0 0) x f

-- ---- whether any unit is unpaired
-- whether f holds at a place below n
abbrev pub some : (ℕ → Bool) → ℕ → Bool
some f zero = false
some f (suc n) = f n || some f n

some_none : (f : ℕ → Bool) (n : ℕ) → ((j : ℕ) → f j ≡ false) → some f n ≡ false
some_none f zero h = refl
some_none f (suc n) h = rw (h n, some_none f n h)

some_at : (f : ℕ → Bool) (n j : ℕ) → j < n → f j ≡ true → some f n ≡ true
some_at f zero j l h = absurd (omega arith)
some_at f (suc n) j l h =
    by (f n) (λ e. rw e)
    (λ e. rw e (some_at f n j (by_lt j n (λ k. k) (λ k. let z : n ≡ j = omega arith in never (sym (rw z at e) ∙ h))) h))

flag_inside : (us : List ℕ) (j : ℕ) → flag 0 us j ≡ true → j < length us
unfolding unpaired
flag_inside us j h =
    by_lt j (length us) (λ l. l)
    (λ l. never (rw (get_or-eq_default us 0 l, zero_plain, zero_no_low) at h))

-- whether a list has any
abbrev pub any : List ℕ → Bool
any [] = false
any (x ∷ xs) = true

some_tells : (us l : List ℕ) → Tells 0 0 us l → any l ≡ some (unpaired_at us) (length us)
some_tells us [] t = sym (some_none (unpaired_at us) (length us) (λ j. flag_is us j ∙ t j))
some_tells us (x ∷ l) t =
    let j = t.0 in
    let f = t.1.1.0 in
    sym (some_at (unpaired_at us) (length us) j (flag_inside us j f) (flag_is us j ∙ f))

pub some_listed : (us : List ℕ) → any (unpaired_in us) ≡ some (unpaired_at us) (length us)
unfolding unpaired_in
some_listed us = some_tells us (unpaired_from 0 0 us) (tells us 0 0)

-- ---- the units before the first unpaired one, and longer starts
-- with u before v, of which u is not unpaired and v is: u is no high surrogate, and so is not unpaired as the last either
by_last : (hu lu hb hv lv x : Bool) → (lv ≡ true → hv ≡ false) → (hu && not lv) || (lu && not hb) ≡ false →
    (hv && x) || (lv && not hu) ≡ true → (hu && true) || (lu && not hb) ≡ false
by_last true lu hb hv true x e p q = never (rw (e refl) at q)
by_last true lu hb hv false x e p q = never (sym p)
by_last false lu hb hv lv x e p q = p

-- what is unpaired is so as the last
by_end : (hu lu hb lv : Bool) → (hu && not lv) || (lu && not hb) ≡ true → (hu && true) || (lu && not hb) ≡ true
by_end true lu hb lv p = refl
by_end false lu hb lv p = p

past_start : (m : ℕ) (us : List ℕ) (j : ℕ) → m ≤ j → get_or (take m us) j 0 ≡ 0
past_start m us j h = get_or-eq_default (take m us) 0 (omega (arith, length-take m us))

before_start : (m : ℕ) (us : List ℕ) (j : ℕ) → j < m → before_at 0 (take m us) j ≡ before_at 0 us j
before_start m us zero h = refl
before_start m us (suc j) h = get_or-take m us j 0 (omega arith)

-- inside a start, but for its last unit, a flag is that of the whole
flag_start : (m : ℕ) (us : List ℕ) (j : ℕ) → suc j < m → flag 0 (take m us) j ≡ flag 0 us j
flag_start m us j h =
    rw (before_start m us j (omega arith), get_or-take m us j 0 (omega arith), get_or-take m us (suc j) 0 h)

-- its last unit has none behind it
flag_last : (m : ℕ) (us : List ℕ) (j : ℕ) → suc j ≡ m → flag 0 (take m us) j ≡ unpaired (before_at 0 us j) (get_or us j 0) 0
flag_last m us j h =
    rw (before_start m us j (omega arith), get_or-take m us j 0 (omega arith), past_start m us (suc j) (omega arith))

none_listed : (us : List ℕ) → ((j : ℕ) → flag 0 us j ≡ false) → unpaired_in us ≡ []
unfolding unpaired_in
none_listed us h = by_list (unpaired_from 0 0 us) (tells us 0 0)
  where
    by_list : (l : List ℕ) → Tells 0 0 us l → l ≡ []
    by_list [] t = refl
    by_list (x ∷ l) t = never (sym (h t.0) ∙ t.1.1.0)

listed_none : (us : List ℕ) → unpaired_in us ≡ [] → (j : ℕ) → flag 0 us j ≡ false
unfolding unpaired_in
listed_none us e = by_list (unpaired_from 0 0 us) (tells us 0 0) e
  where
    by_list : (l : List ℕ) → Tells 0 0 us l → l ≡ [] → (j : ℕ) → flag 0 us j ≡ false
    by_list [] t e = t
    by_list (x ∷ l) t e = absurd (omega (arith, ap length e))

module _ (us : List ℕ) (i : ℕ) (f : FirstUnpaired us i) where
  first_flag : flag 0 us i ≡ true
  first_flag = sym (flag_is us i) ∙ f.is

  pub first_inside : i < length us
  first_inside = flag_inside us i first_flag

  none_before_flag : (j : ℕ) → j < i → flag 0 us j ≡ false
  none_before_flag j h = sym (flag_is us j) ∙ f.none_before j h

  last_before : (j : ℕ) → suc j ≡ i → flag 0 (take i us) j ≡ false
  unfolding unpaired
  last_before j e =
      let u = get_or us j 0 in
      let v = get_or us (suc j) 0 in
      flag_last i us j e
      ∙ rw zero_no_low
      (by_last (is_high u) (is_low u) (is_high (before_at 0 us j)) (is_high v) (is_low v) (not (is_low (get_or us (suc (suc j)) 0))) (low_not_high v)
      (none_before_flag j (omega arith)) (rw (← e) at first_flag))

  start_flag : (j : ℕ) → flag 0 (take i us) j ≡ false
  start_flag j =
      by (flag 0 (take i us) j)
      (λ t.
      let l = flag_inside (take i us) j t in
      by_lt (suc j) i (λ h. never (sym (flag_start i us j h ∙ none_before_flag j (omega arith)) ∙ t))
      (λ h. never (sym (last_before j (omega (arith, l, length-take i us))) ∙ t)))
      (λ t. t)

  pub start_paired : unpaired_in (take i us) ≡ []
  start_paired = none_listed (take i us) start_flag

  longer_flag : (m : ℕ) → i < m → flag 0 (take m us) i ≡ true
  unfolding unpaired
  longer_flag m h =
      let u = get_or us i 0 in
      by_lt (suc i) m (λ l. flag_start m us i l ∙ first_flag)
      (λ l.
      flag_last m us i (omega arith)
      ∙ rw zero_no_low (by_end (is_high u) (is_low u) (is_high (before_at 0 us i)) (is_low (get_or us (suc i) 0)) first_flag))

  pub longer_unpaired : (m : ℕ) → i < m → unpaired_in (take m us) ≡ [] → ⊥
  longer_unpaired m h e = never (sym (listed_none (take m us) e i) ∙ longer_flag m h)
