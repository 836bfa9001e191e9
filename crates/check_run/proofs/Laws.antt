-- The first of the listed faults is the first in reading order, and there is none exactly where all rules hold. A run is taken
-- character by character: a fault is one of the first character, by four flags in the order of their kinds, or one of the rest.
--     says         what the answer says, on every page and run
--     kind_back    a kind read back from its number
use Prim.Native.Nat.{ℕ, zero, suc, ◌+◌, ◌≤◌, ◌<◌}
use mathlib.Core.Bool.{Bool, true, false, not, cond, ◌&&◌, ◌||◌}
use mathlib.Core.List.{List, [], ◌∷◌, ◌++◌}
use mathlib.Core.Logic.{inl, inr, ⊎_elim}
use mathlib.Core.Path.{◌≡◌, refl, sym, ap, ◌∙◌}
use native.Mathlib.Omega.{arith}
use lib.Dec.{eqb, ltb}
use lib.ListN.{length, get_or}
use borrow.Author.Tests.{eq-eqb, ne_eqb, eqb-true, eqb-false, ltb-true, not-true}
use Rattle.common.proofs.Kit.{by, by_lt, never, both, both_true}
use Rattle.scalars.specs.Chars.{are_chars}
use Rattle.page.specs.Page.{accepted}
use Rattle.text_utils.specs.Classes.{basic_text_start}
use Rattle.check_char.specs.Check.{reason_of}
use Rattle.check_run.specs.declared.FaultKind.{FaultKind}
use Rattle.check_run.specs.declared.FaultKind.TheVariants.{Char, Start, End, Newline}
use Rattle.check_run.specs.Rules.{Rules, allowed, Broken, kind_number, Before, First}
use Rattle.check_run.specs.Check.{Found, fault, is_last, broken_by, kinds, faults_at, faults_from, faults, fault_numbers, first_numbers, check_run_of, Says}

not_of : (b : Bool) → b ≡ false → not b ≡ true
not_of b e = rw e

-- ---- kinds and their numbers
abbrev pub kind_of : ℕ → FaultKind
kind_of n = cond (eqb n (kind_number Char)) Char (cond (eqb n (kind_number Start)) Start (cond (eqb n (kind_number End)) End Newline))

pub kind_back : (k : FaultKind) → kind_of (kind_number k) ≡ k
kind_back Char = refl
kind_back Start = refl
kind_back End = refl
kind_back Newline = refl

same_kind : (k m : FaultKind) → kind_number k ≡ kind_number m → k ≡ m
same_kind k m e = sym (kind_back k) ∙ ap kind_of e ∙ kind_back m

-- every kind of a list has a number above n; the numbers of a list rise; a list has a kind
abbrev above : ℕ → List FaultKind → Bool
above n [] = true
above n (k ∷ ks) = ltb n (kind_number k) && above n ks

abbrev rising : List FaultKind → Bool
rising [] = true
rising (k ∷ ks) = above (kind_number k) ks && rising ks

abbrev has : FaultKind → List FaultKind → Bool
has m [] = false
has m (k ∷ ks) = eqb (kind_number m) (kind_number k) || has m ks

has_none : (ks : List FaultKind) (n : ℕ) (m : FaultKind) → above n ks ≡ true → kind_number m ≤ n → has m ks ≡ false
has_none [] n m a l = refl
has_none (k ∷ ks) n m a l =
    let x = both_true _ _ a in
    let g = ltb-true n (kind_number k) x.0 in
    rw (ne_eqb (kind_number m) (kind_number k) (λ e. omega arith)) (has_none ks n m x.1 l)

kinds_rise : rising kinds ≡ true
kinds_rise = refl

kinds_have : (m : FaultKind) → has m kinds ≡ true
kinds_have Char = refl
kinds_have Start = refl
kinds_have End = refl
kinds_have Newline = refl

-- ---- the faults at a place, by a flag for each kind
-- what is told of the first kind whose flag is true, where no earlier one's is, or else of what comes later, is told of the list
module _ (f : FaultKind → Bool) (i : ℕ) (later : List Found) (P : List Found → Type 0)
    (here : (k : FaultKind) → f k ≡ true → ((m : FaultKind) → kind_number m < kind_number k → f m ≡ false) → (l : List Found) → P (fault i k ∷ l))
    (rest : ((m : FaultKind) → f m ≡ false) → P later) where
  -- the flags of all kinds that the list has not are false
  by_list : (ks : List FaultKind) → rising ks ≡ true → ((m : FaultKind) → has m ks ≡ false → f m ≡ false) → P (faults_at f i ks ++ later)
  by_list [] r others = rest (λ m. others m refl)
  by_list (k ∷ ks) r others =
      by (f k)
      (λ b. rw b (here k b (λ m l. others m (rw (ne_eqb (kind_number m) (kind_number k) (λ e. omega arith)) (has_none ks (kind_number k) m x.0 (omega arith)))) (faults_at f i ks ++ later)))
      (λ b. rw b (by_list ks x.1 (λ m h. by (eqb (kind_number m) (kind_number k)) (λ e. rw (same_kind m k (eqb-true _ _ e)) b) (λ e. others m (rw e h)))))
    where
      x : (above (kind_number k) ks ≡ true) × (rising ks ≡ true)
      x = both_true _ _ r

  by_kinds : P (faults_at f i kinds ++ later)
  by_kinds = by_list kinds kinds_rise (λ m h. never (sym h ∙ kinds_have m))

module _ (p : List ℕ) where
  -- ---- the characters cs stand from place i on
  -- a rule is broken at place i + j
  abbrev BrokenFrom : ℕ → List ℕ → ℕ → FaultKind → Type 0
  BrokenFrom i cs j Char = Broken p cs j Char
  BrokenFrom i cs j Start = (i + j ≡ 0) × ((j < length cs) × (basic_text_start p (get_or cs j 0) ≡ false))
  BrokenFrom i cs j End = Broken p cs j End
  BrokenFrom i cs j Newline = Broken p cs j Newline

  last_is : (c : ℕ) (cs : List ℕ) → is_last cs ≡ true → 0 + 1 ≡ length (c ∷ cs)
  last_is c [] h = omega arith
  last_is c (d ∷ cs) h = never h

  is_last_lem : (c : ℕ) (cs : List ℕ) → 0 + 1 ≡ length (c ∷ cs) → is_last cs ≡ true
  is_last_lem c [] h = refl
  is_last_lem c (d ∷ cs) h = absurd (omega arith)

  module _ (i c : ℕ) (cs : List ℕ) where
    here_of : (k : FaultKind) → broken_by p i c cs k ≡ true → BrokenFrom i (c ∷ cs) 0 k
    here_of Char h = (omega arith, not-true _ h)
    here_of Start h =
        let x = both_true _ _ h in
        let e : i ≡ 0 = eqb-true i 0 x.0 in
        (omega arith, (omega arith, not-true _ x.1))
    here_of End h = let x = both_true _ _ h in (last_is c cs x.0, not-true _ x.1)
    here_of Newline h = let x = both_true _ _ h in (last_is c cs x.0, not-true _ x.1)

    here_to : (k : FaultKind) → BrokenFrom i (c ∷ cs) 0 k → broken_by p i c cs k ≡ true
    here_to Char h = not_of _ h.1
    here_to Start h = let e : i ≡ 0 = omega (arith, h.0) in both (eq-eqb i 0 e) (not_of _ h.1.1)
    here_to End h = both (is_last_lem c cs h.0) (not_of _ h.1)
    here_to Newline h = both (is_last_lem c cs h.0) (not_of _ h.1)

    next_of : (j : ℕ) (k : FaultKind) → BrokenFrom (suc i) cs j k → BrokenFrom i (c ∷ cs) (suc j) k
    next_of j Char h = (omega (arith, h.0), h.1)
    next_of j Start h = absurd (omega (arith, h.0))
    next_of j End h = (omega (arith, h.0), h.1)
    next_of j Newline h = (omega (arith, h.0), h.1)

    next_to : (j : ℕ) (k : FaultKind) → BrokenFrom i (c ∷ cs) (suc j) k → BrokenFrom (suc i) cs j k
    next_to j Char h = (omega (arith, h.0), h.1)
    next_to j Start h = absurd (omega (arith, h.0))
    next_to j End h = (omega (arith, h.0), h.1)
    next_to j Newline h = (omega (arith, h.0), h.1)

  -- ---- what a list of faults tells of them: there is none, or the first of the list is one with none before it
  record FirstFrom (i : ℕ) (cs : List ℕ) (place : ℕ) (k : FaultKind) : Type 0 where
    at : ℕ
    place_is : place ≡ i + at
    is : BrokenFrom i cs at k
    no_other : (j : ℕ) (m : FaultKind) → Before j m at k → BrokenFrom i cs j m → ⊥

  abbrev Tells : ℕ → List ℕ → List Found → Type 0
  Tells i cs [] = (j : ℕ) (k : FaultKind) → BrokenFrom i cs j k → ⊥
  Tells i cs (fault place k ∷ later) = FirstFrom i cs place k

  module _ (i c : ℕ) (cs : List ℕ) where
    -- a fault of the first character, with none of an earlier kind
    first_here : (k : FaultKind) → broken_by p i c cs k ≡ true →
        ((m : FaultKind) → kind_number m < kind_number k → broken_by p i c cs m ≡ false) → FirstFrom i (c ∷ cs) i k
    first_here k h g =
        record {
          at = 0;
          place_is = omega arith;
          is = here_of i c cs k h;
          no_other =
              λ j m b x. ⊎_elim (λ l. omega (arith, l)) (λ l. never (sym (g m l.1) ∙ here_to i c cs m (rw l.0 at x))) b;
        }

    -- no fault of it: the faults are those of the rest
    module _ (g : (m : FaultKind) → broken_by p i c cs m ≡ false) where
      none_later : ((j : ℕ) (k : FaultKind) → BrokenFrom (suc i) cs j k → ⊥) → (j : ℕ) (k : FaultKind) → BrokenFrom i (c ∷ cs) j k → ⊥
      none_later t zero k x = never (sym (g k) ∙ here_to i c cs k x)
      none_later t (suc j) k x = t j k (next_to i c cs j k x)

      module _ (place : ℕ) (k : FaultKind) (t : FirstFrom (suc i) cs place k) where
        no_earlier : (j : ℕ) (m : FaultKind) → Before j m (suc t.at) k → BrokenFrom i (c ∷ cs) j m → ⊥
        no_earlier zero m b x = never (sym (g m) ∙ here_to i c cs m x)
        no_earlier (suc j) m b x =
            t.no_other j m (⊎_elim (λ l. inl (omega (arith, l))) (λ l. inr (omega (arith, l.0), l.1)) b) (next_to i c cs j m x)

        first_later : FirstFrom i (c ∷ cs) place k
        first_later =
            record {
              at = suc t.at;
              place_is = omega (arith, t.place_is);
              is = next_of i c cs t.at k t.is;
              no_other = no_earlier;
            }

      later : (l : List Found) → Tells (suc i) cs l → Tells i (c ∷ cs) l
      later [] t = none_later t
      later (fault place k ∷ l) t = first_later place k t

    tells_more : Tells (suc i) cs (faults_from p (suc i) cs) → Tells i (c ∷ cs) (faults_from p i (c ∷ cs))
    tells_more t =
        by_kinds (broken_by p i c cs) i (faults_from p (suc i) cs) (Tells i (c ∷ cs)) (λ k b g l. first_here k b g) (λ g. later g (faults_from p (suc i) cs) t)

  none_broken : (i j : ℕ) (k : FaultKind) → BrokenFrom i [] j k → ⊥
  none_broken i j Char x = omega (arith, x.0)
  none_broken i j Start x = omega (arith, x.1.0)
  none_broken i j End x = omega (arith, x.0)
  none_broken i j Newline x = omega (arith, x.0)

  tells : (cs : List ℕ) (i : ℕ) → Tells i cs (faults_from p i cs)
  tells [] i = none_broken i
  tells (c ∷ cs) i = tells_more i c cs (tells cs (suc i))

  -- ---- the whole run
  module _ (cs : List ℕ) where
    of_run : (j : ℕ) (k : FaultKind) → BrokenFrom 0 cs j k → Broken p cs j k
    of_run j Char x = x
    of_run j Start x = (omega (arith, x.0), x.1)
    of_run j End x = x
    of_run j Newline x = x

    to_run : (j : ℕ) (k : FaultKind) → Broken p cs j k → BrokenFrom 0 cs j k
    to_run j Char x = x
    to_run j Start x = (omega (arith, x.0), x.1)
    to_run j End x = x
    to_run j Newline x = x

    -- no fault: all rules hold
    module _ (t : (j : ℕ) (k : FaultKind) → Broken p cs j k → ⊥) where
      holds_by : (b : Bool) → (b ≡ false → ⊥) → b ≡ true
      holds_by b n = by b (λ e. e) (λ e. absurd (n e))

      is_allowed : (i : ℕ) → i < length cs → allowed (get_or cs i 0) ≡ true
      is_allowed i h = holds_by _ (λ e. t i Char (h, e))

      rules_of : Rules p cs
      rules_of =
          record {
            all_accepted = λ i h. eqb-true _ _ (both_true (eqb (reason_of (get_or cs i 0)) 0) _ (is_allowed i h)).0;
            none_escape = λ i h. eqb-false _ _ (not-true _ (both_true (eqb (reason_of (get_or cs i 0)) 0) _ (is_allowed i h)).1);
            first_start = λ h. holds_by _ (λ e. t 0 Start (refl, (h, e)));
            last_end = λ i h. holds_by _ (λ e. t i End (h, e));
            last_newline = λ i h. eqb-true _ _ (holds_by _ (λ e. t i Newline (h, e)));
          }

    -- all rules hold: no fault
    rules_none : Rules p cs → (j : ℕ) (k : FaultKind) → Broken p cs j k → ⊥
    rules_none r j Char x =
        let a : allowed (get_or cs j 0) ≡ true = both (eq-eqb _ _ (r.all_accepted j x.0)) (not_of _ (ne_eqb _ _ (r.none_escape j x.0))) in
        never (sym x.1 ∙ a)
    rules_none r j Start x = never (sym (rw x.0 at x.1.1) ∙ r.first_start (omega (arith, x.0, x.1.0)))
    rules_none r j End x = never (sym x.1 ∙ r.last_end j x.0)
    rules_none r j Newline x = never (sym x.1 ∙ eq-eqb _ _ (r.last_newline j x.0))

    -- the first of a list that tells of the run is the first fault, and there is no other first
    module _ (place : ℕ) (k : FaultKind) (t : FirstFrom 0 cs place k) where
      place_at : t.at ≡ place
      place_at = omega (arith, t.place_is)

      first_of : First p cs place k
      first_of =
          rw (← place_at)
          record { is = of_run t.at k t.is; no_earlier = λ j m b x. t.no_other j m b (to_run j m x) }

      only_first : (q : ℕ) (m : FaultKind) → First p cs q m → fault_numbers place k ≡ fault_numbers q m
      only_first q m f =
          let g = first_of in
          by_lt place q (λ l. absurd (f.no_earlier place k (inl l) g.is))
          (λ l.
          by_lt q place (λ r. absurd (g.no_earlier q m (inl r) f.is))
          (λ r.
          let e : place ≡ q = omega arith in
          by_lt (kind_number k) (kind_number m) (λ a. absurd (f.no_earlier place k (inr (e, a)) g.is))
          (λ a.
          by_lt (kind_number m) (kind_number k) (λ b. absurd (g.no_earlier q m (inr (sym e, b)) f.is))
          (λ b.
          let d : kind_number k ≡ kind_number m = omega arith in
          rw (e, d)))))

    says_by : (l : List Found) → Tells 0 cs l → Says p cs (first_numbers l)
    says_by [] t =
        record {
          yes_rules = λ e. rules_of (λ j k x. t j k (to_run j k x));
          rules_yes = λ a b r. refl;
          fault_first = λ place kind e. absurd (unlike e);
          first_fault = λ a b place kind f. absurd (t place kind (to_run place kind f.is));
        }
      where
        unlike : {place kind : ℕ} → 0 ∷ 0 ∷ [] ≡ 0 ∷ 1 ∷ place ∷ kind ∷ [] → ⊥
        unlike e = let z : ◌≡◌ {A = ℕ} 0 1 = cc in omega arith
    says_by (fault place k ∷ l) t =
        record {
          yes_rules = λ e. absurd (unlike e);
          rules_yes = λ a b r. absurd (rules_none r t.at k (of_run t.at k t.is));
          fault_first = same;
          first_fault = λ a b. only_first place k t;
        }
      where
        unlike : {place kind : ℕ} → 0 ∷ 1 ∷ place ∷ kind ∷ [] ≡ 0 ∷ 0 ∷ [] → ⊥
        unlike e = let z : ◌≡◌ {A = ℕ} 1 0 = cc in omega arith

        same : (q : ℕ) (m : FaultKind) → fault_numbers place k ≡ fault_numbers q m → First p cs q m
        same q m e =
            let a : place ≡ q = cc in
            let b : kind_number k ≡ kind_number m = cc in
            let c : k ≡ m = same_kind k m b in
            rw (← a, ← c) (first_of place k t)

    -- a refusal is neither yes nor a fault
    refused_says : (n : ℕ) → (accepted p ≡ true → are_chars cs ≡ true → ⊥) → Says p cs (n ∷ [])
    refused_says n h =
        record {
          yes_rules = λ e. absurd (not_yes e);
          rules_yes = λ a b r. absurd (h a b);
          fault_first = λ place kind e. absurd (not_fault e);
          first_fault = λ a b place kind f. absurd (h a b);
        }
      where
        not_yes : n ∷ [] ≡ 0 ∷ 0 ∷ [] → ⊥
        not_yes e = omega (arith, ap length e)

        not_fault : {place kind : ℕ} → n ∷ [] ≡ 0 ∷ 1 ∷ place ∷ kind ∷ [] → ⊥
        not_fault e = omega (arith, ap length e)

    pub says : Says p cs (check_run_of p cs)
    unfolding check_run_of faults
    says =
        by (accepted p)
        (λ a.
        by (are_chars cs) (λ b. rw (a, b) (says_by (faults_from p 0 cs) (tells cs 0)))
        (λ b. rw (a, b) (refused_says 1 (λ c d. never (sym b ∙ d)))))
        (λ a. rw a (refused_says 2 (λ c d. never (sym a ∙ c))))
