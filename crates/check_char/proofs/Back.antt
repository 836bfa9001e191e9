-- An answer of the check, and a reason, can be read back from its numbers, so that no two list alike and a contract on these is one on
-- the answer itself. Each variant by itself, by computing.
--     error_of, error_back       a reason, by its place in the Rust's `BasicTextError`
--     checked_of, checked_back   what the check says
--     answer_of, check_back      the entry's answer
--     named                     the reasons by name, at one character each, as the Rust's `check_basic_text_char` has them
--     reason_back               a reason as plain numbers: the first of them, so many as it says, are the reason's
use Prim.Native.Nat.{ℕ}
use mathlib.Core.Bool.{Bool, true, false, cond}
use mathlib.Core.List.{List, [], ◌∷◌, map}
use mathlib.Core.Path.{◌≡◌, refl, ap}
use lib.Dec.{eqb}
use lib.ListN.{get_or, take}
use Rattle.scalars.specs.Chars.{is_char}
use Rattle.replace.specs.Replace.{replace_of}
use Rattle.check_char.specs.declared.BasicTextError.{BasicTextError}
use Rattle.check_char.specs.declared.BasicTextError.TheVariants.{ColorEscapeSequence, ControlCode, DeprecatedFormatChar, Escape, BidiFormatChar, Interlinear, LanguageTag, LineSeparation, NonChar, ParaSeparation, UnneededBOM, OutOfBand, Omit, Beyyal, UnrecognizedEscape, Replacement}
use Rattle.check_char.specs.declared.CheckError.{CheckError}
use Rattle.check_char.specs.declared.CheckError.TheVariants.{NotAChar, Unwritable}
use Rattle.check_char.specs.declared.numbers.Reason.{Reason}
use Rattle.check_char.specs.Check.{reason_of, error_numbers, reason_numbers, check_answer_numbers, check_answer}
use Rattle.check_char.specs.Numbers.{reason_by}
use Rattle.std.specs.Prelude.{⊤, Result, Ok, Err}

-- the reason of these numbers
-- "the reason as the place in `BasicTextError` counted from 1 (2 to 16; 1 is unused)"
abbrev pub error_of : List ℕ → BasicTextError
error_of ns =
    let r = get_or ns 0 0 in
    let c = get_or ns 1 0 in
    cond (eqb r 1) ColorEscapeSequence
    (cond (eqb r 2) (ControlCode c)
    (cond (eqb r 3) (DeprecatedFormatChar c)
    (cond (eqb r 4) Escape
    (cond (eqb r 5) BidiFormatChar
    (cond (eqb r 6) Interlinear
    (cond (eqb r 7) LanguageTag
    (cond (eqb r 8) LineSeparation
    (cond (eqb r 9) NonChar
    (cond (eqb r 10) ParaSeparation
    (cond (eqb r 11) UnneededBOM
    (cond (eqb r 12) OutOfBand
    (cond (eqb r 13) (Omit c)
    (cond (eqb r 14) Beyyal
    (cond (eqb r 15) UnrecognizedEscape
    (Replacement (record { count = get_or ns 2 0; first = get_or ns 3 0; second = get_or ns 4 0; third = get_or ns 5 0 }) c)))))))))))))))

-- each is read back, and none has the number 0
told : (e : BasicTextError) → (error_of (error_numbers e) ≡ e) × (eqb (get_or (error_numbers e) 0 0) 0 ≡ false)
told ColorEscapeSequence = (refl, refl)
told (ControlCode c) = (refl, refl)
told (DeprecatedFormatChar c) = (refl, refl)
told Escape = (refl, refl)
told BidiFormatChar = (refl, refl)
told Interlinear = (refl, refl)
told LanguageTag = (refl, refl)
told LineSeparation = (refl, refl)
told NonChar = (refl, refl)
told ParaSeparation = (refl, refl)
told UnneededBOM = (refl, refl)
told OutOfBand = (refl, refl)
told (Omit c) = (refl, refl)
told Beyyal = (refl, refl)
told UnrecognizedEscape = (refl, refl)
told (Replacement y n) = (refl, refl)

pub error_back : (e : BasicTextError) → error_of (error_numbers e) ≡ e
error_back e = (told e).0

-- what the check says, by these numbers
abbrev pub checked_of : List ℕ → Result ⊤ BasicTextError
checked_of ns = cond (eqb (get_or ns 0 0) 0) (Ok tt) (Err (error_of ns))

pub checked_back : (r : Result ⊤ BasicTextError) → checked_of (reason_numbers r) ≡ r
checked_back (Ok u) = refl
checked_back (Err e) = rw (told e).1 (ap Err (error_back e))

-- the entry's answer of these numbers
abbrev pub answer_of : List ℕ → Result ⊤ CheckError
answer_of [] = Ok tt
answer_of (n ∷ ns) = cond (eqb n 0) (Ok tt) (cond (eqb n 1) (Err NotAChar) (Err (Unwritable (error_of ns))))

pub check_back : (a : Result ⊤ CheckError) → answer_of (check_answer_numbers a) ≡ a
check_back (Ok u) = refl
check_back (Err NotAChar) = refl
check_back (Err (Unwritable e)) = ap (λ (r : BasicTextError). Err (Unwritable r)) (error_back e)

-- a character and the reason for which it is refused
abbrev Named : Type 0
Named = ℕ × BasicTextError

abbrev names : Bool → List Named
names units =
    (0x7f, ControlCode 0x7f) ∷
    (0x206a, DeprecatedFormatChar 0x206a) ∷
    (0x202a, BidiFormatChar) ∷
    (0xfff9, Interlinear) ∷
    (0xe0001, LanguageTag) ∷
    (0x2028, LineSeparation) ∷
    (0xfffe, NonChar) ∷
    (0x2029, ParaSeparation) ∷
    (0xfeff, UnneededBOM) ∷
    (0xfffc, OutOfBand) ∷
    (0x17b4, Omit 0x17b4) ∷
    (0x17d8, Beyyal) ∷
    (0x2126, Replacement (record { count = 1; first = cond units 0x3a9 0x2126; second = 0; third = 0 }) 0x2126) ∷
    []

-- "4 a character refused by `check_basic_text_char` .. with the reason"
pub named : (units : Bool) →
    map (λ (r : Named). check_answer_numbers (Err (Unwritable r.1))) (names units) ≡ map (λ (r : Named). check_answer units r.0) (names units)
unfolding is_char replace_of reason_of
named true = refl
named false = refl

-- the fields in order
abbrev listed : Reason → List ℕ
listed r = take r.size (r.number ∷ r.character ∷ r.count ∷ r.first ∷ r.second ∷ r.third ∷ [])

pub reason_back : (e : BasicTextError) → listed (reason_by (error_numbers e)) ≡ error_numbers e
reason_back ColorEscapeSequence = refl
reason_back (ControlCode c) = refl
reason_back (DeprecatedFormatChar c) = refl
reason_back Escape = refl
reason_back BidiFormatChar = refl
reason_back Interlinear = refl
reason_back LanguageTag = refl
reason_back LineSeparation = refl
reason_back NonChar = refl
reason_back ParaSeparation = refl
reason_back UnneededBOM = refl
reason_back OutOfBand = refl
reason_back (Omit c) = refl
reason_back Beyyal = refl
reason_back UnrecognizedEscape = refl
reason_back (Replacement y n) = refl
