-- An answer can be read back from its numbers and from whether it tells the caller to abandon, so that no two answers list alike and
-- a contract on these is one on the answer itself. Each variant by itself, by computing.
--     answer_back    of a flush or a close
--     wrote_back     of a write
--     four_fails     a refusal by 4 is no success
use Prim.Native.Nat.{ℕ}
use mathlib.Core.Bool.{Bool, true, false, cond}
use mathlib.Core.List.{List, [], ◌∷◌}
use mathlib.Core.Path.{◌≡◌, refl}
use Rattle.check_char.specs.declared.BasicTextError.{BasicTextError}
use Rattle.check_char.specs.declared.BasicTextError.TheVariants.{ColorEscapeSequence, ControlCode, DeprecatedFormatChar, Escape, BidiFormatChar, Interlinear, LanguageTag, LineSeparation, NonChar, ParaSeparation, UnneededBOM, OutOfBand, Omit, Beyyal, UnrecognizedEscape, Replacement}
use Rattle.check_char.specs.Check.{error_numbers}
use Rattle.check_char.proofs.Back.{error_of}
use Rattle.text_output.specs.Writer.{wrote_numbers, wrote_tells, answer_numbers, answer_tells}
use Rattle.text_output.specs.Write.{succeeds}
use Rattle.text_output.specs.declared.WriteError.{WriteError}
use Rattle.text_output.specs.declared.WriteError.TheVariants.{Refused, Abandon, Unwritable}
use Rattle.std.specs.Prelude.{⊤, Result, Ok, Err}
use Rattle.text_output.specs.declared.CloseError.{CloseError}
use Rattle.text_output.specs.declared.CloseError.TheVariants.{Refused as Denied, Abandon as Abandoned}
use Rattle.common.specs.declared.Refusal.{Refusal}
use Rattle.common.specs.declared.Refusal.TheVariants.{NotAChar}
use Rattle.common.proofs.Answers.{refusal_by, refusal_back}

-- the answer of these numbers, by whether it tells the caller to abandon
abbrev pub answer_of : List ℕ → Bool → Result ⊤ CloseError
answer_of [] tells = Ok tt
answer_of (n ∷ ns) tells = cond tells (Err (Abandoned (refusal_by n))) (Err (Denied (refusal_by n)))

pub answer_back : (a : Result ⊤ CloseError) → answer_of (answer_numbers a) (answer_tells a) ≡ a
answer_back (Ok u) = refl
answer_back (Err (Denied e)) = rw (refusal_back e)
answer_back (Err (Abandoned e)) = rw (refusal_back e)

-- the same of a write
abbrev pub wrote_of : List ℕ → Bool → Result ℕ WriteError
wrote_of [] tells = Err (Refused NotAChar)
wrote_of (n ∷ []) tells = cond tells (Err (Abandon (refusal_by n))) (Err (Refused (refusal_by n)))
wrote_of (n ∷ k ∷ ns) tells = cond tells (Err (Unwritable (error_of (k ∷ ns)))) (Ok k)

unwritable_back : (e : BasicTextError) → wrote_of (4 ∷ error_numbers e) true ≡ Err (Unwritable e)
unwritable_back ColorEscapeSequence = refl
unwritable_back (ControlCode c) = refl
unwritable_back (DeprecatedFormatChar c) = refl
unwritable_back Escape = refl
unwritable_back BidiFormatChar = refl
unwritable_back Interlinear = refl
unwritable_back LanguageTag = refl
unwritable_back LineSeparation = refl
unwritable_back NonChar = refl
unwritable_back ParaSeparation = refl
unwritable_back UnneededBOM = refl
unwritable_back OutOfBand = refl
unwritable_back (Omit c) = refl
unwritable_back Beyyal = refl
unwritable_back UnrecognizedEscape = refl
unwritable_back (Replacement y n) = refl

pub wrote_back : (a : Result ℕ WriteError) → wrote_of (wrote_numbers a) (wrote_tells a) ≡ a
wrote_back (Ok k) = refl
wrote_back (Err (Refused e)) = rw (refusal_back e)
wrote_back (Err (Abandon e)) = rw (refusal_back e)
wrote_back (Err (Unwritable e)) = unwritable_back e

pub four_fails : (values : List ℕ) → succeeds (4 ∷ values) ≡ false
four_fails [] = refl
four_fails (n ∷ ns) = refl
