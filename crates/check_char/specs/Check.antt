-- Which characters are refused, and why: `check_basic_text_char` of internals/src/check.rs, and beyond it, by the option for units, what
-- the reason for three signs names.
use Rattle.std.specs.Prelude.{ℕ, Bool, true, false, cond, not, ◌&&◌, ◌||◌, List, [], ◌∷◌, ◌++◌, eqb, ⊤, Result, Ok, Err}
use Rattle.scalars.specs.Chars.{is_char}
use Rattle.replace.specs.declared.Replaced.{Replaced}
use Rattle.replace.specs.declared.Replaced.TheVariants.{One, Two, Three}
use Rattle.replace.specs.Table.{Span, ◌to◌, one, Row, ◌gives◌, lookup, each, in_spans}
use Rattle.replace.specs.Replace.{unassigned_replaced, nonchars, replace_of}
use Rattle.check_char.specs.declared.Replacements.{Replacements}
use Rattle.check_char.specs.declared.BasicTextError.{BasicTextError}
use Rattle.check_char.specs.declared.BasicTextError.TheVariants.{ColorEscapeSequence, ControlCode, DeprecatedFormatChar, Escape, BidiFormatChar, Interlinear, LanguageTag, LineSeparation, NonChar, ParaSeparation, UnneededBOM, OutOfBand, Omit, Beyyal, UnrecognizedEscape, Replacement}
use Rattle.check_char.specs.declared.CheckError.{CheckError}
use Rattle.check_char.specs.declared.CheckError.TheVariants.{NotAChar, Unwritable}
use Rattle.check_char.specs.declared.Categorize.{Categorize}
use Rattle.check_char.specs.declared.Categorized.{Categorized}
use Rattle.check_char.specs.declared.Categorized.TheVariants.{Char, Sub}

-- the signs for ohm, kelvin and angstrom: refused, and replaced with the option for units on alone
abbrev pub signs : List Span
signs = one 0x2126 ∷ one 0x212a ∷ one 0x212b ∷ []

-- "The ideographs excepted are those that `check_basic_text_char` lists": refused, though nothing replaces them
abbrev pub ideographs : List Span
ideographs =
    0xf900 to 0xfa0d ∷ one 0xfa10 ∷ one 0xfa12 ∷ 0xfa15 to 0xfa1e ∷ one 0xfa20 ∷ one 0xfa22 ∷
    0xfa25 to 0xfa26 ∷ 0xfa2a to 0xfa6d ∷ 0xfa70 to 0xfad9 ∷ 0x2f800 to 0x2fa1d ∷ []

-- the Rust's arms in order, that of `Replacement` in three lists; each with its reason's number
abbrev pub refusals : List (Row ℕ)
refusals =
    -- ControlCode: `c.is_control()` but for newline, tab and ESC
    each (0x0 to 0x8 ∷ 0xb to 0x1a ∷ 0x1c to 0x1f ∷ 0x7f to 0x9f ∷ []) 2
    -- Replacement: those with a row in `replace` that have no reason of their own
    (each
    (one 0x149 ∷ one 0x673 ∷ one 0xf77 ∷ one 0xf79 ∷ 0x17a3 to 0x17a4 ∷ 0x2329 to 0x232a ∷
    one 0x2df5 ∷ one 0x111c4 ∷ 0xfb00 to 0xfb06 ∷
    unassigned_replaced) 16
    (each signs 16
    (each ideographs 16
    (
    -- LanguageTag, Interlinear, Omit, Beyyal, DeprecatedFormatChar
    one 0xe0001 gives 7 ∷
    0xfff9 to 0xfffb gives 6 ∷
    0x17b4 to 0x17b5 gives 13 ∷
    one 0x17d8 gives 14 ∷
    0x206a to 0x206f gives 3 ∷
    -- LineSeparation, ParaSeparation, BidiFormatChar
    one 0x2028 gives 8 ∷
    one 0x2029 gives 10 ∷
    0x202a to 0x202e gives 5 ∷ 0x2066 to 0x2069 gives 5 ∷
    -- NonChar
    each nonchars 9
    (
    -- OutOfBand, UnneededBOM
    one 0xfffc gives 12 ∷
    one 0xfeff gives 11 ∷ [])))))

-- the reason's number, and 0 where c is accepted: "4 a character refused by `check_basic_text_char`". "`check_basic_text_char` accepts
-- 1B." The table is its list, so "a check that gives every character reason 16" does not pass.
unfoldable pub reason_of : ℕ → ℕ
reason_of c = lookup refusals 0 c

-- "`Box<[char]>`: three numbers and a count"
abbrev pub three_and_count : Replaced → Replacements
three_and_count (One a) = record { count = 1; first = a; second = 0; third = 0 }
three_and_count (Two a b) = record { count = 2; first = a; second = b; third = 0 }
three_and_count (Three a b c) = record { count = 3; first = a; second = b; third = c }

-- these four numbers
abbrev pub list_numbers : Replacements → List ℕ
list_numbers l = l.count ∷ l.first ∷ l.second ∷ l.third ∷ []

-- a reason's number and its values
-- "the reason as the place in `BasicTextError` counted from 1 (2 to 16; 1 is unused)"
abbrev pub error_numbers : BasicTextError → List ℕ
error_numbers ColorEscapeSequence = 1 ∷ []
error_numbers (ControlCode c) = 2 ∷ c ∷ []
error_numbers (DeprecatedFormatChar c) = 3 ∷ c ∷ []
error_numbers Escape = 4 ∷ []
error_numbers BidiFormatChar = 5 ∷ []
error_numbers Interlinear = 6 ∷ []
error_numbers LanguageTag = 7 ∷ []
error_numbers LineSeparation = 8 ∷ []
error_numbers NonChar = 9 ∷ []
error_numbers ParaSeparation = 10 ∷ []
error_numbers UnneededBOM = 11 ∷ []
error_numbers OutOfBand = 12 ∷ []
error_numbers (Omit c) = 13 ∷ c ∷ []
error_numbers Beyyal = 14 ∷ []
error_numbers UnrecognizedEscape = 15 ∷ []
error_numbers (Replacement list c) = 16 ∷ c ∷ list_numbers list

-- the check's answer: 0 where c is accepted, else the reason's number and its values
abbrev pub reason_numbers : Result ⊤ BasicTextError → List ℕ
reason_numbers (Ok u) = 0 ∷ []
reason_numbers (Err e) = error_numbers e

-- the values that reason r carries for c, with the option on or off: "reasons 2, 3, 13, 16 carry it, 16 also its one to three
-- replacements." A character without a row is its own: with it off "Reason 16 for 2126 names 2126 itself."; "with it on reason 16 for the
-- three names these replacements"
abbrev pub carried : Bool → ℕ → ℕ → List ℕ
carried units r c =
    cond (eqb r 16) (c ∷ list_numbers (three_and_count (replace_of units c))) (cond (eqb r 2 || eqb r 3 || eqb r 13) (c ∷ []) [])

-- what the check says of c: the reason's number and its values
abbrev pub check_by : Bool → ℕ → List ℕ
check_by units c = reason_of c ∷ carried units (reason_of c) c

-- and with the option off, as a write and the check of a run have it: "a write's 4 stays as it is"
unfoldable pub check_numbers : ℕ → List ℕ
check_numbers c = check_by false c

-- the entry's answer: 0 for accepted, 1 for no character, 4 with the reason's number and values
abbrev pub check_answer_numbers : Result ⊤ CheckError → List ℕ
check_answer_numbers (Ok u) = 0 ∷ []
check_answer_numbers (Err NotAChar) = 1 ∷ []
check_answer_numbers (Err (Unwritable e)) = 4 ∷ error_numbers e

-- "Entries on one character give 1 .. the check then 4."; "The check's own entry takes it too"
abbrev pub check_answer : Bool → ℕ → List ℕ
check_answer units c = cond (is_char c) (cond (eqb (reason_of c) 0) (0 ∷ []) (4 ∷ check_by units c)) (1 ∷ [])

-- ---- `Categorize`
-- `new`: no reason is kept
abbrev pub unrefused : Categorize
unrefused = record { error = Ok tt }

-- a step's answer: 0 or 4, the character handed on, and the reason that the record keeps
abbrev pub categorized_numbers : Categorized → List ℕ
categorized_numbers (Char c r) = 0 ∷ c ∷ reason_numbers r.error
categorized_numbers (Sub c r) = 4 ∷ c ∷ reason_numbers r.error

-- "Each character is checked, refused ones becoming 1A"; an accepted one leaves the record as it is
abbrev pub categorize_of : Categorize → ℕ → List ℕ
categorize_of r c = cond (eqb (reason_of c) 0) (0 ∷ c ∷ reason_numbers r.error) (4 ∷ 0x1a ∷ check_numbers c)

-- ---- a cleaned text
-- what is excepted, with the option on and off: refused, though nothing replaces it
-- "With it on, a cleaned text's only remaining exceptions are the CJK compatibility ideographs."
abbrev pub excepted : Bool → List Span
excepted true = ideographs
excepted false = signs ++ ideographs

-- what it may hold: x is accepted, or one of those excepted; and is no ESC
abbrev pub clean : Bool → ℕ → Bool
clean units x = (eqb (reason_of x) 0 || in_spans (excepted units) x) && not (eqb x 0x1b)

-- every number of a list passes a test
abbrev pub all : (ℕ → Bool) → List ℕ → Bool
all f [] = true
all f (x ∷ xs) = f x && all f xs
