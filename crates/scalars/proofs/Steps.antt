-- The step finds a character exactly where its encoding stands.
-- The code's tests, as the function `machine` on lists, find each encoding that stands (`complete`), and nothing else
-- (`sound`). So no two characters stand at one place, and the first found by `utf8_step_of` is the one.
--     step_exactly    the step answers c and the place after it exactly where c stands
--     stands_same     no two characters stand at one place
--     step_stops      it stops exactly where nothing stands
--     past_step, lead_step    the code's tests come to the step
use Prim.Native.Nat.{ℕ, zero, suc, ◌+◌, ◌-◌, ◌*◌, ◌/◌, ◌%◌, ◌≤◌, ◌<◌}
use mathlib.Core.Path.{◌≡◌, refl, sym, ap, ◌∙◌}
use mathlib.Core.Bool.{Bool, true, cond, ◌&&◌}
use mathlib.Core.Logic.{◌↔◌}
use mathlib.Core.List.{List, [], ◌∷◌}
use native.Mathlib.Omega.{arith}
use native.Mathlib.Nat.{add-zero, le_of_suc-le-suc, not-suc-le-zero}
use native.Mathlib.Numerals.{add-one}
use borrow.Author.Tests.{eq-eqb, eqb-true, lt-ltb, le-ltb, le-leb, lt-leb, ltb-true, ltb-false, leb-true, leb-false}
use lib.ListN.{length, get_or, drop, length-drop, get_or-eq_default}
use lib.Seq.{get_or-drop, drop-cons}
use lib.Dec.{ltb, leb, eqb}
use Rattle.scalars.specs.Chars.{is_char}
use Rattle.scalars.specs.Utf8.{encode_of, continuation, begins, Stands, step_below, utf8_step_of}
use Rattle.scalars.specs.Inner.{more_of, on_bits, kept_of, two_of, three_of, four_of}
use Rattle.common.proofs.Kit.{never, by, by_lt, split, both_true, both}
use Rattle.scalars.proofs.Rows.{char_lt, char_low, row1, row2, row3, row4, length_encode}
use Rattle.std.specs.Prelude.{Option, Some, None}

-- ---- bytes with which a list begins
pub begins_long : (ws bs : List ℕ) → begins ws bs ≡ true → length ws ≤ length bs
begins_long [] bs h = omega arith
begins_long (w ∷ ws) [] h = never h
begins_long (w ∷ ws) (b ∷ bs) h = let p = both_true (eqb w b) (begins ws bs) h in omega (arith, begins_long ws bs p.1)

begins_byte : (ws bs : List ℕ) → begins ws bs ≡ true → (i : ℕ) → i < length ws → get_or bs i 0 ≡ get_or ws i 0
begins_byte [] bs h i l = absurd (not-suc-le-zero l)
begins_byte (w ∷ ws) [] h i l = never h
begins_byte (w ∷ ws) (b ∷ bs) h zero l = sym (eqb-true w b (both_true (eqb w b) (begins ws bs) h).0)
begins_byte (w ∷ ws) (b ∷ bs) h (suc i) l =
    begins_byte ws bs (both_true (eqb w b) (begins ws bs) h).1 i (le_of_suc-le-suc l)

begins_cons : (w : ℕ) (ws bs : List ℕ) (at next : ℕ) → at < length bs → next ≡ at + 1 → get_or bs at 0 ≡ w
    → begins ws (drop next bs) ≡ true → begins (w ∷ ws) (drop at bs) ≡ true
begins_cons w ws bs at next h n e r = rw (drop-cons bs at 0 h, ← add-one at, ← n) (both (eq-eqb w (get_or bs at 0) (sym e)) r)

-- ---- the code's tests
abbrev pub lead_of : ℕ → List ℕ → ℕ → Option (ℕ × ℕ)
lead_of b bs at =
    cond (ltb b 0x80) (Some (b, (at + 1)))
    (cond (ltb b 0xE0) (cond (ltb b 0xC0) None (two_of bs at (b - 0xC0)))
    (cond (ltb b 0xF0) (three_of bs at (b - 0xE0)) (cond (ltb b 0xF8) (four_of bs at (b - 0xF0)) None)))

abbrev machine : List ℕ → ℕ → Option (ℕ × ℕ)
machine bs at = cond (leb (length bs) at) None (lead_of (get_or bs at 0) bs at)

-- ---- from an encoding that stands there to what the tests find
more_of_lem : (bs : List ℕ) (i v t w : ℕ) → t < 64 → get_or bs i 0 ≡ 0x80 + t → v * 64 + t ≡ w → more_of bs i v ≡ Some w
unfolding more_of continuation
more_of_lem bs i v t w h e k =
    let q : 0x80 + t - 0x80 ≡ t = omega arith in
    simp (e, le-leb 0x80 (0x80 + t) (omega arith), le-leb (0x80 + t) 0xBF (omega arith), q, k)

kept_of_lem : (least c next : ℕ) → least ≤ c → is_char c ≡ true → kept_of least c next ≡ Some (c, next)
unfolding kept_of
kept_of_lem least c next h s = simp (le-leb least c h, s)

module _ (bs : List ℕ) (at c : ℕ) (s : Stands bs at c) where
  pub stands_inside : at + length (encode_of c) ≤ length bs
  stands_inside = omega (arith, length_encode c, simp length-drop at (begins_long (encode_of c) (drop at bs) s.bytes))

  byte : (l : List ℕ) → encode_of c ≡ l → (i : ℕ) → i < length l → get_or bs (at + i) 0 ≡ get_or l i 0
  byte l e i h = sym (get_or-drop at bs i 0) ∙ begins_byte l (drop at bs) (rw e at s.bytes) i h

  lead : (l : List ℕ) → encode_of c ≡ l → (b : ℕ) → 0 < length l → get_or l 0 0 ≡ b → machine bs at ≡ lead_of b bs at
  lead l e b h k =
      let p : get_or bs at 0 ≡ b = rw add-zero at (byte l e 0 h) ∙ k in
      simp (lt-leb (length bs) at (omega (arith, stands_inside, length_encode c)), p)

  tail : (l : List ℕ) → encode_of c ≡ l → (i v t w : ℕ) → i < length l → t < 64 → get_or l i 0 ≡ 0x80 + t → v * 64 + t ≡ w → more_of bs (at + i) v ≡ Some w
  tail l e i v t w h k p q = more_of_lem bs (at + i) v t w k (byte l e i h ∙ p) q

  kept : (least n : ℕ) (l : List ℕ) → encode_of c ≡ l → length l ≡ n → least ≤ c → kept_of least c (at + n) ≡ Some (c, (at + length (encode_of c)))
  kept least n l e k g = rw (← k, ← e) (kept_of_lem least c (at + length (encode_of c)) g s.char)

  one : c < 0x80 → machine bs at ≡ Some (c, (at + length (encode_of c)))
  one h = let e = row1 c h in lead _ e c (omega arith) refl ∙ simp (lt-ltb c 0x80 h, e)

  two : 0x80 ≤ c → c < 0x800 → machine bs at ≡ Some (c, (at + length (encode_of c)))
  two g h =
      let e = row2 c g h in
      let b : ℕ = 0xC0 + c / 64 in
      lead _ e b (omega arith) refl
      ∙ simp (
        le-ltb b 0x80 (omega arith),
        le-ltb b 0xC0 (omega arith),
        lt-ltb b 0xE0 (omega arith),
        tail _ e 1 (b - 0xC0) (c % 64) c (omega arith) (omega arith) refl (omega arith),
      ) (kept 0x80 2 _ e refl g)

  three : 0x800 ≤ c → c < 0x10000 → machine bs at ≡ Some (c, (at + length (encode_of c)))
  three g h =
      let e = row3 c g h in
      let b : ℕ = 0xE0 + c / 4096 in
      lead _ e b (omega arith) refl
      ∙ simp (
        le-ltb b 0x80 (omega arith),
        le-ltb b 0xE0 (omega arith),
        lt-ltb b 0xF0 (omega arith),
        tail _ e 1 (b - 0xE0) (c / 64 % 64) (c / 64) (omega arith) (omega arith) refl (omega arith),
        tail _ e 2 (c / 64) (c % 64) c (omega arith) (omega arith) refl (omega arith),
      ) (kept 0x800 3 _ e refl g)

  four : 0x10000 ≤ c → machine bs at ≡ Some (c, (at + length (encode_of c)))
  four g =
      let e = row4 c g in
      let b : ℕ = 0xF0 + c / 262144 in
      let top : c < 0x110000 = char_lt c s.char in
      lead _ e b (omega arith) refl
      ∙ simp (
        le-ltb b 0x80 (omega arith),
        le-ltb b 0xE0 (omega arith),
        le-ltb b 0xF0 (omega arith),
        lt-ltb b 0xF8 (omega arith),
        tail _ e 1 (b - 0xF0) (c / 4096 % 64) (c / 4096) (omega arith) (omega arith) refl (omega arith),
        tail _ e 2 (c / 4096) (c / 64 % 64) (c / 64) (omega arith) (omega arith) refl (omega arith),
        tail _ e 3 (c / 64) (c % 64) c (omega arith) (omega arith) refl (omega arith),
      ) (kept 0x10000 4 _ e refl g)

  complete : machine bs at ≡ Some (c, (at + length (encode_of c)))
  complete = by_lt c 0x80 one (λ g. by_lt c 0x800 (two g) (λ g. by_lt c 0x10000 (three g) four))

-- ---- from what the tests find to an encoding that stands there
-- the byte at i is a continuation byte, and its bits stand behind v in w
record Goes (bs : List ℕ) (i v w : ℕ) : Type 0 where
  inside : i < length bs
  low : 0x80 ≤ get_or bs i 0
  high : get_or bs i 0 ≤ 0xBF
  value : w ≡ v * 64 + (get_or bs i 0 - 0x80)

pub more_is : (bs : List ℕ) (i v w : ℕ) → more_of bs i v ≡ Some w → (0x80 ≤ get_or bs i 0) × (get_or bs i 0 ≤ 0xBF) × (w ≡ v * 64 + (get_or bs i 0 - 0x80))
unfolding more_of continuation
more_is bs i v w =
    let b = get_or bs i 0 in
    by_lt b 0x80 (λ p. simp (lt-leb 0x80 b p) (λ e. let z : ◌≡◌ {A = ℕ} 0 1 = cc in omega arith))
    (λ p. by_lt 0xBF b (λ q. simp (le-leb 0x80 b p, lt-leb b 0xBF q) (λ e. let z : ◌≡◌ {A = ℕ} 0 1 = cc in omega arith))
    (λ q. simp (le-leb 0x80 b p, le-leb b 0xBF q) (λ e. let z : v * 64 + (b - 0x80) ≡ w = cc in (p, q, sym z))))

goes : (bs : List ℕ) (i v w : ℕ) → more_of bs i v ≡ Some w → Goes bs i v w
goes bs i v w e =
    let p = more_is bs i v w e in
    record {
      inside = by_lt i (length bs) (λ h. h) (λ h. omega (arith, get_or-eq_default bs 0 h));
      low = p.0;
      high = p.1;
      value = p.2;
    }

-- what is right of an answer: the character it names stands there, and ends before the place it names
abbrev Sound : List ℕ → ℕ → Option (ℕ × ℕ) → Type 0
Sound bs at (Some (c, next)) = Stands bs at c × (next ≡ at + length (encode_of c))
Sound bs at None = Unit {0}

on_bits_lem : (P : Option (ℕ × ℕ) → Type 0) (t : Option ℕ) (go : ℕ → Option (ℕ × ℕ)) → P None → ((v : ℕ) → t ≡ Some v → P (go v)) → P (on_bits t go)
on_bits_lem P (Some v) go s f = f v refl
on_bits_lem P None go s f = s

module _ (bs : List ℕ) (at : ℕ) where
  -- the bytes of a row, one by one, with which the list then begins
  stands : (n v : ℕ) (l : List ℕ) → encode_of v ≡ l → length l ≡ n → is_char v ≡ true → begins l (drop at bs) ≡ true → Sound bs at (Some (v, (at + n)))
  stands n v l e k s r = (record { char = s; bytes = rw e r }, rw (e, k))

  kept_sound : (least v next : ℕ) → (least ≤ v → is_char v ≡ true → Sound bs at (Some (v, next))) → Sound bs at (kept_of least v next)
  unfolding kept_of
  kept_sound least v next f =
      split (Sound bs at) (leb least v && is_char v)
      (λ p. let q = both_true (leb least v) (is_char v) p in f (leb-true least v q.0) q.1) (λ p. tt)

  module _ (b : ℕ) (e : get_or bs at 0 ≡ b) (here : at < length bs) where
    one_sound : b < 0x80 → Sound bs at (Some (b, (at + 1)))
    one_sound h = stands 1 b _ (row1 b h) refl (char_low b (omega arith)) (begins_cons b [] bs at (at + 1) here refl e refl)

    two_sound : 0xC0 ≤ b → b < 0xE0 → Sound bs at (two_of bs at (b - 0xC0))
    two_sound g h =
        on_bits_lem (Sound bs at) (more_of bs (at + 1) (b - 0xC0)) _ tt
        (λ v i. let p = goes bs (at + 1) (b - 0xC0) v i in
        kept_sound 0x80 v (at + 2)
        (λ k s. stands 2 v _ (row2 v k (omega arith)) refl s
        (begins_cons (0xC0 + v / 64) ((0x80 + v % 64) ∷ []) bs at (at + 1) here refl (omega arith)
        (begins_cons (0x80 + v % 64) [] bs (at + 1) (at + 2) p.inside (omega arith) (omega arith) refl))))

    three_sound : 0xE0 ≤ b → b < 0xF0 → Sound bs at (three_of bs at (b - 0xE0))
    three_sound g h =
        on_bits_lem (Sound bs at) (more_of bs (at + 1) (b - 0xE0)) _ tt
        (λ v i. let p = goes bs (at + 1) (b - 0xE0) v i in
        on_bits_lem (Sound bs at) (more_of bs (at + 2) v) _ tt
        (λ w j. let q = goes bs (at + 2) v w j in
        kept_sound 0x800 w (at + 3)
        (λ k s. stands 3 w _ (row3 w k (omega arith)) refl s
        (begins_cons (0xE0 + w / 4096) ((0x80 + w / 64 % 64) ∷ (0x80 + w % 64) ∷ []) bs at (at + 1) here refl (omega arith)
        (begins_cons (0x80 + w / 64 % 64) ((0x80 + w % 64) ∷ []) bs (at + 1) (at + 2) p.inside (omega arith) (omega arith)
        (begins_cons (0x80 + w % 64) [] bs (at + 2) (at + 3) q.inside (omega arith) (omega arith) refl))))))

    four_sound : 0xF0 ≤ b → b < 0xF8 → Sound bs at (four_of bs at (b - 0xF0))
    four_sound g h =
        on_bits_lem (Sound bs at) (more_of bs (at + 1) (b - 0xF0)) _ tt
        (λ v i. let p = goes bs (at + 1) (b - 0xF0) v i in
        on_bits_lem (Sound bs at) (more_of bs (at + 2) v) _ tt
        (λ w j. let q = goes bs (at + 2) v w j in
        on_bits_lem (Sound bs at) (more_of bs (at + 3) w) _ tt
        (λ x l. let r = goes bs (at + 3) w x l in
        kept_sound 0x10000 x (at + 4)
        (λ k s. stands 4 x _ (row4 x k) refl s
        (begins_cons (0xF0 + x / 262144) ((0x80 + x / 4096 % 64) ∷ (0x80 + x / 64 % 64) ∷ (0x80 + x % 64) ∷ []) bs at (at + 1) here refl (omega arith)
        (begins_cons (0x80 + x / 4096 % 64) ((0x80 + x / 64 % 64) ∷ (0x80 + x % 64) ∷ []) bs (at + 1) (at + 2) p.inside (omega arith) (omega arith)
        (begins_cons (0x80 + x / 64 % 64) ((0x80 + x % 64) ∷ []) bs (at + 2) (at + 3) q.inside (omega arith) (omega arith)
        (begins_cons (0x80 + x % 64) [] bs (at + 3) (at + 4) r.inside (omega arith) (omega arith) refl))))))))

    lead_sound : Sound bs at (lead_of b bs at)
    lead_sound =
        split (Sound bs at) (ltb b 0x80) (λ p. one_sound (ltb-true b 0x80 p))
        (λ _. split (Sound bs at) (ltb b 0xE0)
        (λ q. split (Sound bs at) (ltb b 0xC0) (λ _. tt) (λ p. two_sound (ltb-false b 0xC0 p) (ltb-true b 0xE0 q)))
        (λ q. split (Sound bs at) (ltb b 0xF0) (λ r. three_sound (ltb-false b 0xE0 q) (ltb-true b 0xF0 r))
        (λ r. split (Sound bs at) (ltb b 0xF8) (λ t. four_sound (ltb-false b 0xF0 r) (ltb-true b 0xF8 t)) (λ _. tt))))

  sound : Sound bs at (machine bs at)
  sound = split (Sound bs at) (leb (length bs) at) (λ _. tt) (λ p. lead_sound _ refl (leb-false (length bs) at p))

-- ---- the step
-- the character that a step finds
abbrev char_in : Option (ℕ × ℕ) → ℕ
char_in (Some (c, next)) = c
char_in None = 0

-- no two characters stand at one place
pub stands_same : (bs : List ℕ) (at c d : ℕ) → Stands bs at c → Stands bs at d → c ≡ d
stands_same bs at c d s t = ap char_in (sym (complete bs at c s) ∙ complete bs at d t)

module _ (bs : List ℕ) (at : ℕ) where
  abbrev test : ℕ → Bool
  test c = is_char c && begins (encode_of c) (drop at bs)

  stands_test : (c : ℕ) → test c ≡ true → Stands bs at c
  stands_test c h = let p = both_true (is_char c) (begins (encode_of c) (drop at bs)) h in record { char = p.0; bytes = p.1 }

  below_found : (n c : ℕ) → c < n → Stands bs at c → step_below n (drop at bs) at ≡ Some (c, (at + length (encode_of c)))
  unfolding step_below
  below_found zero c h s = absurd (not-suc-le-zero h)
  below_found (suc m) c h s =
      by (test m) (λ p. let e : m ≡ c = stands_same bs at m c (stands_test m p) s in rw p (rw e refl))
      (λ p. rw p (below_found m c (by_lt c m (λ k. k) (λ k. let e : m ≡ c = omega arith in never (sym (rw e at p) ∙ both s.char s.bytes))) s))

  below_none : (n : ℕ) → ((c : ℕ) → Stands bs at c → ⊥) → step_below n (drop at bs) at ≡ None
  unfolding step_below
  below_none zero f = refl
  below_none (suc m) f = by (test m) (λ p. absurd (f m (stands_test m p))) (λ p. rw p (below_none m f))

  step_found : (c : ℕ) → Stands bs at c → utf8_step_of bs at ≡ Some (c, (at + length (encode_of c)))
  unfolding utf8_step_of
  step_found c s = below_found 0x110000 c (char_lt c s.char) s

  -- what the tests find is the step
  found : (r : Option (ℕ × ℕ)) → machine bs at ≡ r → Sound bs at r → r ≡ utf8_step_of bs at
  unfolding utf8_step_of
  found (Some (c, next)) e s = rw s.1 (sym (step_found c s.0))
  found None e s =
      sym (below_none 0x110000 (λ c t. let f = complete bs at c t in let z : ◌≡◌ {A = ℕ} 0 1 = cc in omega arith))

  machine_step : machine bs at ≡ utf8_step_of bs at
  machine_step = found (machine bs at) refl (sound bs at)

  pub past_step : length bs ≤ at → None ≡ utf8_step_of bs at
  past_step h = rw (le-leb (length bs) at h) at machine_step

  pub lead_step : (b : ℕ) → at < length bs → b ≡ get_or bs at 0 → lead_of b bs at ≡ utf8_step_of bs at
  lead_step b h e = rw (lt-leb (length bs) at h, ← e) at machine_step

  pub step_exactly : (c next : ℕ) → (utf8_step_of bs at ≡ Some (c, next)) ↔ (Stands bs at c × (next ≡ at + length (encode_of c)))
  step_exactly c next = (λ e. rw (machine_step ∙ e) at (sound bs at), λ s. rw s.1 (step_found c s.0))

  pub step_stops : (utf8_step_of bs at ≡ None) ↔ ((c : ℕ) → Stands bs at c → ⊥)
  unfolding utf8_step_of
  step_stops = (
    λ e c s. let f = step_found c s in let z : ◌≡◌ {A = ℕ} 0 1 = cc in omega arith,
    λ f. below_none 0x110000 f,
  )
