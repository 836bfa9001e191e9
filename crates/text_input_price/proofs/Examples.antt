-- Lists of calls on a fresh scanner with the answers of the comparison's oracle, which is the original Rust with what the documents add:
-- the definitions give the same, by computing both. Characters are hexadecimal.
--     prices            asking, and committing into as many places, one fewer and more; by the page 0 1 0 377, with all options off
--     prices-by-units   the same by a page by which the option for units changes the number
use Prim.Native.Nat.{ℕ}
use mathlib.Core.Bool.{Bool, true, false}
use mathlib.Core.List.{List, [], ◌∷◌, map}
use mathlib.Core.Path.{◌≡◌, refl}
use lib.ListN.{replicate}
use Rattle.common.specs.Answers.{refusal_in, wrote_in}
use Rattle.scalars.specs.Chars.{is_char}
use Rattle.ranges.specs.Ranges.{member, rises}
use Rattle.page.specs.Page.{sized, rising, nonstarter, assigned, accepted}
use Rattle.text_utils.specs.Classes.{starter, grapheme_extend_not_cgj, spacing_mark_plus, basic_text_start}
use Rattle.replace.specs.Replace.{replace_of}
use Rattle.text_input_parts.specs.Sets.{parameter, final, newline_char}
use Rattle.text_input_parts.specs.Refusals.{chunk_refusal, refusal_of}
use Rattle.text_input.specs.declared.Options.{Options}
use Rattle.text_input.specs.declared.TextInput.{TextInput}
use Rattle.text_input.specs.Sets.{optional_line}
use Rattle.text_input.specs.Step.{leave_of, meet_of, scan_step_of}
use Rattle.text_input.specs.Scan.{Outcome, fresh}
use Rattle.text_input_price.specs.Price.{ask_of, commit_of}

pub data Act : Type 0 where
  ask : List ℕ → Act
  commit : (room : ℕ) → List ℕ → Act

-- calls, and what each gives: of asking the answer's numbers; of a commit the refusal's number, or 0 and the characters written
pub record Row : Type 0 where
  pub acts : List Act
  pub expected : List (List ℕ)

abbrev row : List Act → List (List ℕ) → Row
row acts expected = record { acts = acts; expected = expected }

abbrev page : List ℕ
page = 0 ∷ 1 ∷ 0 ∷ 0x377 ∷ []

abbrev options_by : Bool → Options
options_by units = record { nel_compatibility = false; lsps_compatibility = false; units_compatibility = units }

abbrev options : Options
options = options_by false

-- ---- what a row's calls give
abbrev committed : TextInput → ℕ → List ℕ → Outcome
committed r room chunk = commit_of r page options chunk (replicate room 0xEEEEEEEE)

-- "Asking changes nothing": the next call gets the same record
abbrev given : TextInput → List Act → List (List ℕ)
given r [] = []
given r (ask chunk ∷ acts) = ask_of r page options chunk ∷ given r acts
given r (commit room chunk ∷ acts) =
    (refusal_in (committed r room chunk).numbers ∷ wrote_in (committed r room chunk).numbers (committed r room chunk).places)
    ∷ given (committed r room chunk).next acts

-- ---- the lists
unfoldable pub table : List Row
table =
    -- a dropped U+FEFF fills no place; asking does not spend the chance to drop it, nor does a refused commit
    row (ask (0xFEFF ∷ 0x61 ∷ []) ∷ commit 0 (0xFEFF ∷ 0x61 ∷ []) ∷ commit 1 (0xFEFF ∷ 0x61 ∷ []) ∷ ask (0xFEFF ∷ []) ∷ commit 1 (0xFEFF ∷ []) ∷ [])
    ((0 ∷ 1 ∷ []) ∷ (8 ∷ []) ∷ (0 ∷ 0x61 ∷ []) ∷ (0 ∷ 1 ∷ []) ∷ (0 ∷ 0x2060 ∷ []) ∷ [])
    -- an empty chunk fills none: asking about one spends no chance, committing one does
    ∷ row (ask [] ∷ commit 1 (0xFEFF ∷ 0x61 ∷ []) ∷ []) ((0 ∷ 0 ∷ []) ∷ (0 ∷ 0x61 ∷ []) ∷ [])
    ∷ row (commit 0 [] ∷ ask (0xFEFF ∷ 0x61 ∷ []) ∷ commit 2 (0xFEFF ∷ 0x61 ∷ []) ∷ [])
    ((0 ∷ []) ∷ (0 ∷ 2 ∷ []) ∷ (0 ∷ 0x2060 ∷ 0x61 ∷ []) ∷ [])
    -- after 0D the chunk FB03 fills four places: document 01's case 11
    ∷ row (commit 0 (0x0D ∷ []) ∷ ask (0xFB03 ∷ []) ∷ commit 3 (0xFB03 ∷ []) ∷ commit 4 (0xFB03 ∷ []) ∷ [])
    ((0 ∷ []) ∷ (0 ∷ 4 ∷ []) ∷ (8 ∷ []) ∷ (0 ∷ 0x0A ∷ 0x66 ∷ 0x66 ∷ 0x69 ∷ []) ∷ [])
    -- 0A after 0D is one line end with it
    ∷ row (commit 0 (0x0D ∷ []) ∷ ask (0x0A ∷ 0x61 ∷ []) ∷ commit 1 (0x0A ∷ 0x61 ∷ []) ∷ commit 5 (0x0A ∷ 0x61 ∷ []) ∷ [])
    ((0 ∷ []) ∷ (0 ∷ 2 ∷ []) ∷ (8 ∷ []) ∷ (0 ∷ 0x0A ∷ 0x61 ∷ []) ∷ [])
    -- the 34F before a first character that is no start fills a place
    ∷ row (ask (0x200D ∷ []) ∷ commit 1 (0x200D ∷ []) ∷ commit 2 (0x200D ∷ []) ∷ ask (0x200D ∷ []) ∷ [])
    ((0 ∷ 2 ∷ []) ∷ (8 ∷ []) ∷ (0 ∷ 0x34F ∷ 0x200D ∷ []) ∷ (0 ∷ 1 ∷ []) ∷ [])
    -- an escape fills none, also where it goes over two chunks
    ∷ row (ask (0x1B ∷ 0x5B ∷ 0x31 ∷ []) ∷ commit 0 (0x1B ∷ 0x5B ∷ 0x31 ∷ []) ∷ ask (0x6D ∷ 0x61 ∷ []) ∷ commit 1 (0x6D ∷ 0x61 ∷ []) ∷ [])
    ((0 ∷ 0 ∷ []) ∷ (0 ∷ []) ∷ (0 ∷ 1 ∷ []) ∷ (0 ∷ 0x61 ∷ []) ∷ [])
    -- a page run fills a place when what follows it is neither 0D nor 0A
    ∷ row (commit 0 (0x0C ∷ []) ∷ ask (0x61 ∷ []) ∷ ask (0x0A ∷ []) ∷ ask (0x0D ∷ []) ∷ commit 2 (0x61 ∷ []) ∷ [])
    ((0 ∷ []) ∷ (0 ∷ 2 ∷ []) ∷ (0 ∷ 1 ∷ []) ∷ (0 ∷ 0 ∷ []) ∷ (0 ∷ 0x20 ∷ 0x61 ∷ []) ∷ [])
    -- refused by 1, whatever the places
    ∷ row (ask (0x61 ∷ 0xD800 ∷ []) ∷ commit 0 (0x61 ∷ 0xD800 ∷ []) ∷ commit 9 (0x110000 ∷ []) ∷ []) ((1 ∷ []) ∷ (1 ∷ []) ∷ (1 ∷ []) ∷ [])
    ∷ []

pub prices : map (λ (x : Row). given fresh x.acts) table ≡ map (λ (x : Row). x.expected) table
unfolding table ask_of commit_of chunk_refusal refusal_of scan_step_of leave_of meet_of parameter final newline_char optional_line replace_of is_char
    basic_text_start starter grapheme_extend_not_cgj spacing_mark_plus accepted sized rising nonstarter assigned member rises
prices = refl

-- 3A9 is a nonstarter here, so that 34F goes before it
abbrev other_page : List ℕ
other_page = 1 ∷ 1 ∷ 0x3A9 ∷ 0 ∷ 0x3A9 ∷ 0x377 ∷ []

abbrev asked : Bool → List ℕ
asked units = ask_of fresh other_page (options_by units) (0x2126 ∷ [])

abbrev taken : Bool → ℕ → List ℕ
taken units room =
    let o = commit_of fresh other_page (options_by units) (0x2126 ∷ []) (replicate room 0xEEEEEEEE) in refusal_in o.numbers ∷ wrote_in o.numbers o.places

-- "Everything that uses replacement takes the option."
pub prices-by-units :
    asked true ∷ taken true 1 ∷ taken true 2 ∷ asked false ∷ taken false 1 ∷ []
    ≡ (0 ∷ 2 ∷ []) ∷ (8 ∷ []) ∷ (0 ∷ 0x34F ∷ 0x3A9 ∷ []) ∷ (0 ∷ 1 ∷ []) ∷ (0 ∷ 0x2126 ∷ []) ∷ []
unfolding ask_of commit_of chunk_refusal refusal_of scan_step_of leave_of meet_of optional_line replace_of is_char
    basic_text_start starter grapheme_extend_not_cgj spacing_mark_plus accepted sized rising nonstarter assigned member rises
prices-by-units = refl
