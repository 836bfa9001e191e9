-- The first of a run's faults, by how many of its characters are allowed: what the code goes by. Characters that are allowed, the first
-- of them a start, have no fault before the last; so the run's first fault is that of the first character, of the first one that is not
-- allowed, or of the last.
--     no_char        an empty run has no fault
--     first_char     the first character is not allowed
--     first_start    the first character is allowed, and no start
--     later_char     all before a place are allowed, and the one there is not
--     last_char      all are allowed: the faults of the last character
use Prim.Native.Nat.{ℕ, zero, suc, ◌+◌, ◌≤◌, ◌<◌}
use mathlib.Core.Bool.{true, false, not, cond, ◌&&◌}
use mathlib.Core.List.{List, [], ◌∷◌, append-nil}
use mathlib.Core.Path.{◌≡◌, refl, sym}
use native.Mathlib.Nat.{zero-add, add-zero}
use native.Mathlib.Omega.{arith}
use lib.Dec.{eqb}
use lib.ListN.{length, get_or}
use borrow.Author.Tests.{ne_eqb}
use Rattle.text_utils.specs.Classes.{basic_text_start, basic_text_end}
use Rattle.check_run.specs.declared.FaultKind.TheVariants.{Char, Start, End, Newline}
use Rattle.check_run.specs.Rules.{allowed}
use Rattle.check_run.specs.Check.{Found, fault, faults_from, faults, yes_numbers, fault_numbers, first_numbers}
use Rattle.check_run.specs.Inner.{AllowedUpTo}

-- the faults of a last character that is allowed, and is a start where it is the first
abbrev pub last_faults : ℕ → ℕ → List Found
last_faults c place =
    cond (not (basic_text_end c)) (fault place End ∷ cond (not (eqb c 0x0A)) (fault place Newline ∷ []) [])
    (cond (not (eqb c 0x0A)) (fault place Newline ∷ []) [])

module _ (p : List ℕ) where
  -- the characters from place i on have no start fault
  abbrev Begins : ℕ → List ℕ → Type 0
  Begins i cs = eqb i 0 && not (basic_text_start p (get_or cs 0 0)) ≡ false

  abbrev Each : List ℕ → ℕ → Type 0
  Each cs n = (x : ℕ) → x < n → allowed (get_or cs x 0) ≡ true

  begins_later : (i : ℕ) (cs : List ℕ) → Begins (suc i) cs
  begins_later i cs = rw (ne_eqb (suc i) 0 (λ e. omega arith))

  none_from : (cs : List ℕ) → length cs ≡ 0 → yes_numbers ≡ first_numbers (faults_from p 0 cs)
  none_from [] h = refl
  none_from (c ∷ cs) h = absurd (omega arith)

  start_from : (cs : List ℕ) → 0 < length cs → allowed (get_or cs 0 0) ≡ true → basic_text_start p (get_or cs 0 0) ≡ false →
      fault_numbers 0 Start ≡ first_numbers (faults_from p 0 cs)
  start_from [] h a e = absurd (omega arith)
  start_from (c ∷ cs) h a e = rw (a, e)

  char_from : (n : ℕ) (cs : List ℕ) (i : ℕ) → n < length cs → Each cs n → allowed (get_or cs n 0) ≡ false → (0 < n → Begins i cs) →
      first_numbers (faults_from p i cs) ≡ fault_numbers (i + n) Char
  char_from n [] i l each bad start = absurd (omega arith)
  char_from zero (c ∷ cs) i l each bad start = rw (bad, add-zero)
  char_from (suc n) (c ∷ []) i l each bad start = absurd (omega arith)
  char_from (suc n) (c ∷ d ∷ cs) i l each bad start =
      let k : suc i + n ≡ i + suc n = omega arith in
      rw (each 0 (omega arith), start (omega arith), ← k)
      (char_from n (d ∷ cs) (suc i) (omega arith) (λ x h. each (suc x) (omega arith)) bad (λ h. begins_later i (d ∷ cs)))

  last_from : (n : ℕ) (cs : List ℕ) (i : ℕ) → n + 1 ≡ length cs → Each cs (length cs) → Begins i cs →
      first_numbers (faults_from p i cs) ≡ first_numbers (last_faults (get_or cs n 0) (i + n))
  last_from n [] i l each start = absurd (omega arith)
  last_from zero (c ∷ []) i l each start = rw (each 0 (omega arith), start, append-nil, add-zero)
  last_from (suc n) (c ∷ []) i l each start = absurd (omega arith)
  last_from zero (c ∷ d ∷ cs) i l each start = absurd (omega arith)
  last_from (suc n) (c ∷ d ∷ cs) i l each start =
      let k : suc i + n ≡ i + suc n = omega arith in
      rw (each 0 (omega arith), start, ← k)
      (last_from n (d ∷ cs) (suc i) (omega arith) (λ x h. each (suc x) (omega arith)) (begins_later i (d ∷ cs)))

  module _ (cs : List ℕ) where
    pub no_char : length cs ≡ 0 → yes_numbers ≡ first_numbers (faults p cs)
    unfolding faults
    no_char = none_from cs

    module _ (some : 0 < length cs) where
      pub first_char : allowed (get_or cs 0 0) ≡ false → fault_numbers 0 Char ≡ first_numbers (faults p cs)
      unfolding faults
      first_char bad = sym (char_from 0 cs 0 some (λ x l. absurd (omega arith)) bad (λ l. absurd (omega arith)))

      pub first_start : allowed (get_or cs 0 0) ≡ true → basic_text_start p (get_or cs 0 0) ≡ false → fault_numbers 0 Start ≡ first_numbers (faults p cs)
      unfolding faults
      first_start = start_from cs some

    module _ (start : basic_text_start p (get_or cs 0 0) ≡ true) (n : ℕ) (u : AllowedUpTo cs n) where
      pub later_char : n < length cs → fault_numbers n Char ≡ first_numbers (faults p cs)
      unfolding faults
      later_char h = sym (rw zero-add at (char_from n cs 0 h u.each (u.then h) (λ l. rw start)))

      pub last_char : length cs ≤ n → (k : ℕ) → k + 1 ≡ length cs → first_numbers (last_faults (get_or cs k 0) k) ≡ first_numbers (faults p cs)
      unfolding faults
      last_char h k e = sym (rw zero-add at (last_from k cs 0 e (λ x l. u.each x (omega arith)) (rw start)))
