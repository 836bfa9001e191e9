-- From the check's answer to those of the entry and of `Categorize`.
--     reason_listed        a reason is 0 or one of the listed numbers
--     ok_only              only Ok lists as 0 alone
--     accepted, refused    an answer is Ok exactly where the reason is 0
use Prim.Native.Nat.{ℕ}
use mathlib.Core.Path.{◌≡◌, refl, sym, ap, ◌∙◌}
use mathlib.Core.Bool.{Bool, true, false}
use mathlib.Core.List.{List, [], ◌∷◌}
use native.Mathlib.Omega.{arith}
use borrow.Author.Tests.{eq-eqb, ne_eqb}
use lib.Dec.{T, eqb}
use mir.Val.{has_key}
use Rattle.scalars.specs.Chars.{is_char}
use Rattle.replace.proofs.Rows.{any_finds}
use Rattle.check_char.specs.declared.BasicTextError.{BasicTextError}
use Rattle.check_char.specs.declared.BasicTextError.TheVariants.{ColorEscapeSequence, ControlCode, DeprecatedFormatChar, Escape, BidiFormatChar, Interlinear, LanguageTag, LineSeparation, NonChar, ParaSeparation, UnneededBOM, OutOfBand, Omit, Beyyal, UnrecognizedEscape, Replacement}
use Rattle.check_char.specs.declared.Categorize.{Categorize}
use Rattle.check_char.specs.Check.{refusals, reason_of, error_numbers, reason_numbers, carried, check_by, check_numbers, check_answer_numbers, check_answer, categorize_of}
use Rattle.std.specs.Prelude.{⊤, Result, Ok, Err, IsErrAnd}
use Rattle.check_char.specs.declared.CheckError.{CheckError}
use Rattle.check_char.specs.declared.CheckError.TheVariants.{Unwritable}

-- the numbers of the reasons that the check gives, after 0
abbrev pub reasons : List ℕ
reasons = 0 ∷ 2 ∷ 3 ∷ 5 ∷ 6 ∷ 7 ∷ 8 ∷ 9 ∷ 10 ∷ 11 ∷ 12 ∷ 13 ∷ 14 ∷ 16 ∷ []

pub reason_listed : (c : ℕ) → T (has_key reasons (reason_of c))
unfolding reason_of
reason_listed c = any_finds (has_key reasons) refusals 0 c tt tt

-- a reason and what it carries
pub says : (units : Bool) (r k c : ℕ) → r ≡ reason_of c → r ≡ k → k ∷ carried units k c ≡ check_by units c
says units r k c e h = cc

abbrev head : List ℕ → ℕ
head [] = 0
head (n ∷ ns) = n

-- no reason's number is 0
error_number : (e : BasicTextError) → head (error_numbers e) ≡ 0 → ⊥
error_number ColorEscapeSequence h = omega arith
error_number (ControlCode c) h = omega arith
error_number (DeprecatedFormatChar c) h = omega arith
error_number Escape h = omega arith
error_number BidiFormatChar h = omega arith
error_number Interlinear h = omega arith
error_number LanguageTag h = omega arith
error_number LineSeparation h = omega arith
error_number NonChar h = omega arith
error_number ParaSeparation h = omega arith
error_number UnneededBOM h = omega arith
error_number OutOfBand h = omega arith
error_number (Omit c) h = omega arith
error_number Beyyal h = omega arith
error_number UnrecognizedEscape h = omega arith
error_number (Replacement y n) h = omega arith

pub ok_only : (r : Result ⊤ BasicTextError) → reason_numbers r ≡ 0 ∷ [] → r ≡ Ok tt
ok_only (Ok u) h = refl
ok_only (Err e) h = absurd (error_number e (ap head h))

-- by the number of the reason, whatever it carries
module _ (c : ℕ) (r : Result ⊤ BasicTextError) (ns : List ℕ) (says_so : reason_numbers r ≡ reason_of c ∷ ns) where
  accepted_by : r ≡ Ok tt → eqb (reason_of c) 0 ≡ true
  accepted_by e = eq-eqb (reason_of c) 0 (sym (ap head (rw e at says_so)))

  refused_by_lem : (e : BasicTextError) → r ≡ Err e → eqb (reason_of c) 0 ≡ false
  refused_by_lem e p = ne_eqb (reason_of c) 0 (λ z. error_number e (ap head (rw p at says_so) ∙ z))

-- the entry
module _ (units : Bool) (c : ℕ) (r : Result ⊤ BasicTextError) (says_so : reason_numbers r ≡ check_by units c) where
  pub answer_accepted : r ≡ Ok tt → is_char c ≡ true → 0 ∷ [] ≡ check_answer units c
  answer_accepted e p = simp (p, accepted_by c r _ says_so e)

  pub answer_refused : (e : BasicTextError) → r ≡ Err e → is_char c ≡ true → 4 ∷ error_numbers e ≡ check_answer units c
  answer_refused e q p = simp (p, refused_by_lem c r _ says_so e q) (ap (λ (l : List ℕ). 4 ∷ l) (rw q at says_so))

-- what `?` makes of the check's answer
pub made_of : (r : Result ⊤ CheckError) (e : BasicTextError) → IsErrAnd r (λ x. x ≡ Unwritable e) → check_answer_numbers r ≡ 4 ∷ error_numbers e
made_of (Ok _) e h = elim h [ ]
made_of (Err x) e h = rw h

-- the check with the option off
module _ (c : ℕ) (r : Result ⊤ BasicTextError) (says_so : reason_numbers r ≡ check_numbers c) where
  pub accepted : r ≡ Ok tt → eqb (reason_of c) 0 ≡ true
  unfolding check_numbers
  accepted = accepted_by c r _ says_so

  pub refused : (e : BasicTextError) → r ≡ Err e → eqb (reason_of c) 0 ≡ false
  unfolding check_numbers
  refused = refused_by_lem c r _ says_so

  pub category_kept : (s : Categorize) → r ≡ Ok tt → 0 ∷ c ∷ reason_numbers s.error ≡ categorize_of s c
  category_kept s e = simp (accepted e)

  pub category_refused : (s : Categorize) (e : BasicTextError) → r ≡ Err e → 4 ∷ 0x1a ∷ error_numbers e ≡ categorize_of s c
  category_refused s e q = simp (refused e q) (ap (λ (l : List ℕ). 4 ∷ 0x1a ∷ l) (rw q at says_so))
