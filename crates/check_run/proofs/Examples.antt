-- Runs with the answers of the comparison's oracle, which computes every fault by the original's check, start and end and takes the
-- least: the definition gives the same answer, by computing both. Characters are hexadecimal.
--     kinds_numbered    the kinds by name, in document 02's order
--     examples          the table
use Prim.Native.Nat.{ℕ}
use mathlib.Core.Path.{◌≡◌, refl}
use mathlib.Core.List.{List, [], ◌∷◌, ◌++◌, map}
use lib.ListN.{replicate}
use Rattle.scalars.specs.Chars.{is_char}
use Rattle.ranges.specs.Ranges.{member, rises}
use Rattle.page.specs.Page.{sized, rising, nonstarter, assigned, accepted}
use Rattle.text_utils.specs.Classes.{starter, grapheme_extend_not_cgj, spacing_mark_plus, basic_text_start, basic_text_end}
use Rattle.check_char.specs.Check.{reason_of}
use Rattle.check_run.specs.declared.FaultKind.{FaultKind}
use Rattle.check_run.specs.declared.FaultKind.TheVariants.{Char, Start, End, Newline}
use Rattle.check_run.specs.Rules.{kind_number}
use Rattle.check_run.specs.Check.{faults, verdict_numbers, check_run_of}
use Rattle.common.specs.declared.Refusal.{Refusal}
use Rattle.check_run.specs.declared.Fault.{Fault}
use Rattle.std.specs.Prelude.{Option, Result, Some, None, Ok, Err}
use Rattle.common.specs.declared.Refusal.TheVariants.{NotAChar, WrongPage}

-- "At one place a refused character or ESC (one kind) comes first, then a start, an end and a newline fault."
pub kinds_numbered : map kind_number (Char ∷ Start ∷ End ∷ Newline ∷ []) ≡ 1 ∷ 2 ∷ 3 ∷ 4 ∷ []
kinds_numbered = refl

-- a page, a run, and what the oracle says, as the code's answer has it
pub data Row : Type 0 where
  checking : List ℕ → List ℕ → Result (Option Fault) Refusal → Row

-- no fault, and one
abbrev yes : Result (Option Fault) Refusal
yes = Ok None

abbrev fault : ℕ → FaultKind → Result (Option Fault) Refusal
fault n k = Ok (Some (record { place = n; kind = k }))

-- document 01's page: no nonstarters, and 0..377 assigned
abbrev page : List ℕ
page = 0 ∷ 1 ∷ 0 ∷ 0x377 ∷ []

-- one nonstarter: 378; 61
abbrev marked : List ℕ
marked = 1 ∷ 1 ∷ 0x378 ∷ 0 ∷ 0x378 ∷ 0x377 ∷ []

abbrev ascii : List ℕ
ascii = 1 ∷ 1 ∷ 0x61 ∷ 0 ∷ 0x61 ∷ 0x377 ∷ []

-- one number too many
abbrev wrong : List ℕ
wrong = 0 ∷ 1 ∷ 0 ∷ 0x377 ∷ 0 ∷ []

-- "all accepted and none ESC, first a start, last an end, and a newline last unless empty. The reply is yes, or the place (from 0) and
-- kind of the first fault in reading order. End and newline faults are placed at the last character. At one place a refused character or
-- ESC (one kind) comes first, then a start, an end and a newline fault."
abbrev table : List Row
table =
    -- "unless empty"; a newline is a start and an end
    checking page [] yes
    ∷ checking page (0x0A ∷ []) yes
    ∷ checking page (0x61 ∷ 0x0A ∷ []) yes
    -- no newline last
    ∷ checking page (0x61 ∷ []) (fault 0 Newline)
    ∷ checking page (0x61 ∷ 0x62 ∷ []) (fault 1 Newline)
    ∷ checking page (0x61 ∷ 0x0A ∷ 0x62 ∷ []) (fault 2 Newline)
    -- ESC, which the check of one character accepts; characters that it refuses
    ∷ checking page (0x1B ∷ 0x0A ∷ []) (fault 0 Char)
    ∷ checking page (0x61 ∷ 0x1B ∷ 0x0A ∷ []) (fault 1 Char)
    ∷ checking page (0x61 ∷ 0x7F ∷ 0x0A ∷ []) (fault 1 Char)
    ∷ checking page (0x61 ∷ 0x0D ∷ 0x0A ∷ []) (fault 1 Char)
    ∷ checking page (0x2126 ∷ 0x0A ∷ []) (fault 0 Char)
    ∷ checking page (0xFEFF ∷ 0x61 ∷ 0x0A ∷ []) (fault 0 Char)
    -- no start: the first alone is asked, assigned or not, and no line's first
    ∷ checking page (0x301 ∷ 0x0A ∷ []) (fault 0 Start)
    ∷ checking page (0x5B0 ∷ 0x0A ∷ []) (fault 0 Start)
    ∷ checking page (0x61 ∷ 0x301 ∷ 0x0A ∷ []) yes
    ∷ checking page (0x61 ∷ 0x0A ∷ 0x301 ∷ 0x0A ∷ []) yes
    -- the page says which are nonstarters, but not of ASCII
    ∷ checking page (0x378 ∷ 0x0A ∷ []) yes
    ∷ checking marked (0x378 ∷ 0x0A ∷ []) (fault 0 Start)
    ∷ checking marked (0x61 ∷ 0x378 ∷ 0x0A ∷ []) yes
    ∷ checking ascii (0x61 ∷ 0x0A ∷ []) yes
    -- no end: the last alone is asked, and it is no newline either
    ∷ checking page (0x600 ∷ 0x0A ∷ []) yes
    ∷ checking page (0x61 ∷ 0x600 ∷ []) (fault 1 End)
    ∷ checking page (0x61 ∷ 0x200D ∷ []) (fault 1 End)
    ∷ checking page (0x61 ∷ 0x6DD ∷ []) (fault 1 End)
    ∷ checking page (0x61 ∷ 0xD4E ∷ []) (fault 1 End)
    ∷ checking page (0x61 ∷ 0x110BD ∷ []) (fault 1 End)
    ∷ checking page (0x61 ∷ 0x111C2 ∷ []) (fault 1 End)
    -- what the scanner makes of 200D
    ∷ checking page (0x34F ∷ 0x200D ∷ 0x34F ∷ 0x0A ∷ []) yes
    -- several faults at one place: a refused character that is no start and no newline; a refused one that is no newline; no start, no
    -- end and no newline; no start and no newline; no end and no newline
    ∷ checking page (0x17B4 ∷ []) (fault 0 Char)
    ∷ checking page (0x7F ∷ []) (fault 0 Char)
    ∷ checking page (0x61 ∷ 0x7F ∷ []) (fault 1 Char)
    ∷ checking page (0x200D ∷ []) (fault 0 Start)
    ∷ checking page (0x301 ∷ []) (fault 0 Start)
    ∷ checking page (0x600 ∷ []) (fault 0 End)
    -- faults at two places
    ∷ checking page (0x1B ∷ 0x7F ∷ 0x0A ∷ []) (fault 0 Char)
    ∷ checking page (0x61 ∷ 0x1B ∷ 0x600 ∷ []) (fault 1 Char)
    ∷ checking page (0x301 ∷ 0x1B ∷ 0x0A ∷ []) (fault 0 Start)
    ∷ checking page (0x301 ∷ 0x61 ∷ 0x600 ∷ []) (fault 0 Start)
    ∷ checking page (0x17B4 ∷ 0x600 ∷ []) (fault 0 Char)
    -- behind more characters
    ∷ checking page (replicate 17 0x61 ++ 0x7F ∷ 0x0A ∷ []) (fault 17 Char)
    ∷ checking page (replicate 19 0x61 ++ 0x600 ∷ []) (fault 19 End)
    -- no character (1), before any fault; a wrong page (2), before that
    ∷ checking page (0xD800 ∷ []) (Err NotAChar)
    ∷ checking page (0x61 ∷ 0x110000 ∷ 0x0A ∷ []) (Err NotAChar)
    ∷ checking page (0x1B ∷ 0xDFFF ∷ []) (Err NotAChar)
    ∷ checking wrong [] (Err WrongPage)
    ∷ checking wrong (0x61 ∷ 0x0A ∷ []) (Err WrongPage)
    ∷ checking wrong (0xD800 ∷ []) (Err WrongPage)
    ∷ []

-- the answer's numbers
abbrev expected : Row → List ℕ
expected (checking p run told) = verdict_numbers told

abbrev computed : Row → List ℕ
computed (checking p run told) = check_run_of p run

pub examples : map computed table ≡ map expected table
unfolding check_run_of faults reason_of is_char accepted sized rising rises nonstarter assigned member basic_text_start basic_text_end starter
    grapheme_extend_not_cgj spacing_mark_plus
examples = refl
