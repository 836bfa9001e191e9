-- Lists of calls on a fresh scanner, with the answers of the comparison's oracle, which is the original Rust with what the documents add:
-- the definitions give the same, character by character of what is written, by computing both. By the page 0 1 0 377; a scan of n
-- characters is lent the 3 × n + 1 places that it needs, an empty one none, and a finish 2. Characters are hexadecimal.
--     finishes    what is pending at a finish, 34F and 0A
--     chunks      the options, U+FEFF, line ends, page runs, and where escapes end
use Prim.Native.Nat.{ℕ, ◌+◌, ◌*◌}
use mathlib.Core.Bool.{Bool, true, false}
use mathlib.Core.List.{List, [], ◌∷◌, map}
use mathlib.Core.Path.{◌≡◌, refl}
use lib.ListN.{length, replicate}
use Rattle.common.specs.Answers.{refusal_in, wrote_in}
use Rattle.scalars.specs.Chars.{is_char}
use Rattle.ranges.specs.Ranges.{member, rises}
use Rattle.page.specs.Page.{sized, rising, nonstarter, assigned, accepted}
use Rattle.text_utils.specs.Classes.{starter, grapheme_extend_not_cgj, spacing_mark_plus, basic_text_start, basic_text_end}
use Rattle.replace.specs.Replace.{replace_of}
use Rattle.text_input_parts.specs.Sets.{parameter, final, string_end, up_to7_f, newline_char}
use Rattle.text_input_parts.specs.Refusals.{chunk_refusal, refusal_of}
use Rattle.text_input.specs.declared.Options.{Options}
use Rattle.text_input.specs.declared.TextInput.{TextInput}
use Rattle.text_input.specs.Sets.{optional_line}
use Rattle.text_input.specs.Step.{leave_of, meet_of, scan_step_of}
use Rattle.text_input.specs.Scan.{all_off, Outcome, fresh, scan_of, finish_of}

pub data Act : Type 0 where
  scan : Options → List ℕ → Act
  finish : (eof : Bool) → Act

-- calls, and for each of them the refusal's number, or 0 and the characters written
pub record Row : Type 0 where
  pub acts : List Act
  pub expected : List (List ℕ)

abbrev row : List Act → List (List ℕ) → Row
row acts expected = record { acts = acts; expected = expected }

-- "Options are `nel_compatibility` and `lsps_compatibility`."; that for units is off
abbrev with : Bool → Bool → Options
with nel lsps = record { nel_compatibility = nel; lsps_compatibility = lsps; units_compatibility = false }

abbrev neither : Options
neither = all_off

abbrev nel : Options
nel = with true false

abbrev lsps : Options
lsps = with false true

abbrev either : Options
either = with true true

-- "Add a scanner option under which replacement turns U+2126 into U+03A9"
abbrev units : Options
units = record { nel_compatibility = false; lsps_compatibility = false; units_compatibility = true }

-- ---- what a row's calls give
abbrev room_for : List ℕ → ℕ
room_for [] = 0
room_for (c ∷ cs) = 3 * length (c ∷ cs) + 1

abbrev done_by : TextInput → Act → Outcome
done_by r (scan o chunk) = scan_of r (0 ∷ 1 ∷ 0 ∷ 0x377 ∷ []) o chunk (replicate (room_for chunk) 0xEEEEEEEE)
done_by r (finish eof) = finish_of r eof (0xEEEEEEEE ∷ 0xEEEEEEEE ∷ [])

-- "Scan and finish write from the first place of the slice lent to that call, all of whose places are free, and return the number
-- written": so many of the first places
abbrev told_from : TextInput → List Act → List (List ℕ)
told_from r [] = []
told_from r (a ∷ more) =
    (refusal_in (done_by r a).numbers ∷ wrote_in (done_by r a).numbers (done_by r a).places) ∷ told_from (done_by r a).next more

abbrev computed : Row → List (List ℕ)
computed x = told_from fresh x.acts

-- ---- the tables
unfoldable pub finish_table : List Row
finish_table =
    -- "A pending 0D gives 0A, a pending page run 20, an open escape nothing.": each state at an end of file; and at a push, and then an
    -- end of file. The states are a fresh one, after text, after a newline; CR, FF; ESC, ESC `[`, further on in it, ESC `]`,
    -- ESC `[` `[`.
    row (scan neither [] ∷ finish true ∷ [])
    ((0 ∷ []) ∷ (0 ∷ []) ∷ [])
    ∷ row (scan neither [] ∷ finish false ∷ finish true ∷ [])
    ((0 ∷ []) ∷ (0 ∷ []) ∷ (0 ∷ []) ∷ [])
    ∷ row (scan neither (0x61 ∷ []) ∷ finish true ∷ [])
    ((0 ∷ 0x61 ∷ []) ∷ (0 ∷ 0x0A ∷ []) ∷ [])
    ∷ row (scan neither (0x61 ∷ []) ∷ finish false ∷ finish true ∷ [])
    ((0 ∷ 0x61 ∷ []) ∷ (0 ∷ []) ∷ (0 ∷ 0x0A ∷ []) ∷ [])
    ∷ row (scan neither (0x61 ∷ 0x0A ∷ []) ∷ finish true ∷ [])
    ((0 ∷ 0x61 ∷ 0x0A ∷ []) ∷ (0 ∷ []) ∷ [])
    ∷ row (scan neither (0x61 ∷ 0x0A ∷ []) ∷ finish false ∷ finish true ∷ [])
    ((0 ∷ 0x61 ∷ 0x0A ∷ []) ∷ (0 ∷ []) ∷ (0 ∷ []) ∷ [])
    ∷ row (scan neither (0x61 ∷ 0x0D ∷ []) ∷ finish true ∷ [])
    ((0 ∷ 0x61 ∷ []) ∷ (0 ∷ 0x0A ∷ []) ∷ [])
    ∷ row (scan neither (0x61 ∷ 0x0D ∷ []) ∷ finish false ∷ finish true ∷ [])
    ((0 ∷ 0x61 ∷ []) ∷ (0 ∷ 0x0A ∷ []) ∷ (0 ∷ []) ∷ [])
    ∷ row (scan neither (0x61 ∷ 0x0C ∷ []) ∷ finish true ∷ [])
    ((0 ∷ 0x61 ∷ []) ∷ (0 ∷ 0x20 ∷ 0x0A ∷ []) ∷ [])
    ∷ row (scan neither (0x61 ∷ 0x0C ∷ []) ∷ finish false ∷ finish true ∷ [])
    ((0 ∷ 0x61 ∷ []) ∷ (0 ∷ 0x20 ∷ []) ∷ (0 ∷ 0x0A ∷ []) ∷ [])
    ∷ row (scan neither (0x61 ∷ 0x1B ∷ []) ∷ finish true ∷ [])
    ((0 ∷ 0x61 ∷ []) ∷ (0 ∷ 0x0A ∷ []) ∷ [])
    ∷ row (scan neither (0x61 ∷ 0x1B ∷ []) ∷ finish false ∷ finish true ∷ [])
    ((0 ∷ 0x61 ∷ []) ∷ (0 ∷ []) ∷ (0 ∷ 0x0A ∷ []) ∷ [])
    ∷ row (scan neither (0x61 ∷ 0x1B ∷ 0x5B ∷ []) ∷ finish true ∷ [])
    ((0 ∷ 0x61 ∷ []) ∷ (0 ∷ 0x0A ∷ []) ∷ [])
    ∷ row (scan neither (0x61 ∷ 0x1B ∷ 0x5B ∷ []) ∷ finish false ∷ finish true ∷ [])
    ((0 ∷ 0x61 ∷ []) ∷ (0 ∷ []) ∷ (0 ∷ 0x0A ∷ []) ∷ [])
    ∷ row (scan neither (0x61 ∷ 0x1B ∷ 0x5B ∷ 0x31 ∷ []) ∷ finish true ∷ [])
    ((0 ∷ 0x61 ∷ []) ∷ (0 ∷ 0x0A ∷ []) ∷ [])
    ∷ row (scan neither (0x61 ∷ 0x1B ∷ 0x5B ∷ 0x31 ∷ []) ∷ finish false ∷ finish true ∷ [])
    ((0 ∷ 0x61 ∷ []) ∷ (0 ∷ []) ∷ (0 ∷ 0x0A ∷ []) ∷ [])
    ∷ row (scan neither (0x61 ∷ 0x1B ∷ 0x5D ∷ 0x62 ∷ []) ∷ finish true ∷ [])
    ((0 ∷ 0x61 ∷ []) ∷ (0 ∷ 0x0A ∷ []) ∷ [])
    ∷ row (scan neither (0x61 ∷ 0x1B ∷ 0x5D ∷ 0x62 ∷ []) ∷ finish false ∷ finish true ∷ [])
    ((0 ∷ 0x61 ∷ []) ∷ (0 ∷ []) ∷ (0 ∷ 0x0A ∷ []) ∷ [])
    ∷ row (scan neither (0x61 ∷ 0x1B ∷ 0x5B ∷ 0x5B ∷ []) ∷ finish true ∷ [])
    ((0 ∷ 0x61 ∷ []) ∷ (0 ∷ 0x0A ∷ []) ∷ [])
    ∷ row (scan neither (0x61 ∷ 0x1B ∷ 0x5B ∷ 0x5B ∷ []) ∷ finish false ∷ finish true ∷ [])
    ((0 ∷ 0x61 ∷ []) ∷ (0 ∷ []) ∷ (0 ∷ 0x0A ∷ []) ∷ [])
    -- "If the last character ever appended is no end, 34F follows.": also behind an escape, and not behind a pending character
    ∷ row (scan neither (0x200D ∷ []) ∷ finish false ∷ finish true ∷ [])
    ((0 ∷ 0x34F ∷ 0x200D ∷ []) ∷ (0 ∷ 0x34F ∷ []) ∷ (0 ∷ 0x0A ∷ []) ∷ [])
    ∷ row (scan neither (0x200D ∷ 0x1B ∷ []) ∷ finish true ∷ [])
    ((0 ∷ 0x34F ∷ 0x200D ∷ []) ∷ (0 ∷ 0x34F ∷ 0x0A ∷ []) ∷ [])
    ∷ row (scan neither (0x200D ∷ 0x0D ∷ []) ∷ finish true ∷ [])
    ((0 ∷ 0x34F ∷ 0x200D ∷ []) ∷ (0 ∷ 0x0A ∷ []) ∷ [])
    ∷ row (scan neither (0x200D ∷ 0x0C ∷ []) ∷ finish false ∷ finish true ∷ [])
    ((0 ∷ 0x34F ∷ 0x200D ∷ []) ∷ (0 ∷ 0x20 ∷ []) ∷ (0 ∷ 0x0A ∷ []) ∷ [])
    -- "If the first image character is no start, 34F goes before it."; "Then a start is expected again."
    ∷ row (scan neither (0x301 ∷ 0x301 ∷ []) ∷ finish true ∷ [])
    ((0 ∷ 0x34F ∷ 0x301 ∷ 0x301 ∷ []) ∷ (0 ∷ 0x0A ∷ []) ∷ [])
    ∷ row (scan neither (0x61 ∷ []) ∷ finish false ∷ scan neither (0x200D ∷ []) ∷ finish true ∷ [])
    ((0 ∷ 0x61 ∷ []) ∷ (0 ∷ []) ∷ (0 ∷ 0x34F ∷ 0x200D ∷ []) ∷ (0 ∷ 0x34F ∷ 0x0A ∷ []) ∷ [])
    ∷ row (scan neither (0x1B ∷ 0x63 ∷ 0x200D ∷ []) ∷ finish true ∷ [])
    ((0 ∷ 0x34F ∷ 0x200D ∷ []) ∷ (0 ∷ 0x34F ∷ 0x0A ∷ []) ∷ [])
    ∷ row (scan neither (0x0C ∷ 0x200D ∷ []) ∷ finish true ∷ [])
    ((0 ∷ 0x20 ∷ 0x200D ∷ []) ∷ (0 ∷ 0x34F ∷ 0x0A ∷ []) ∷ [])
    ∷ row (scan neither (0x0D ∷ []) ∷ finish false ∷ scan neither (0x0A ∷ []) ∷ finish true ∷ [])
    ((0 ∷ []) ∷ (0 ∷ 0x0A ∷ []) ∷ (0 ∷ 0x0A ∷ []) ∷ (0 ∷ []) ∷ [])
    ∷ row (scan neither (0x0C ∷ []) ∷ finish false ∷ scan neither (0x0D ∷ []) ∷ finish true ∷ [])
    ((0 ∷ []) ∷ (0 ∷ 0x20 ∷ []) ∷ (0 ∷ []) ∷ (0 ∷ 0x0A ∷ []) ∷ [])
    -- "As end of file, 0A follows unless the last piece is a line end, no piece came since the last 0A so added, or there was
    -- no piece. A push adds no 0A."
    ∷ row (scan neither (0x61 ∷ []) ∷ finish true ∷ finish true ∷ scan neither (0x1B ∷ []) ∷ finish true ∷ [])
    ((0 ∷ 0x61 ∷ []) ∷ (0 ∷ 0x0A ∷ []) ∷ (0 ∷ []) ∷ (0 ∷ []) ∷ (0 ∷ 0x0A ∷ []) ∷ [])
    ∷ row (finish false ∷ scan neither (0x61 ∷ []) ∷ finish false ∷ finish false ∷ finish true ∷ [])
    ((0 ∷ []) ∷ (0 ∷ 0x61 ∷ []) ∷ (0 ∷ []) ∷ (0 ∷ []) ∷ (0 ∷ 0x0A ∷ []) ∷ [])
    ∷ []

pub finishes : map computed finish_table ≡ map (λ (x : Row). x.expected) finish_table
unfolding finish_table scan_of chunk_refusal refusal_of finish_of scan_step_of leave_of meet_of parameter final string_end up_to7_f newline_char
    optional_line replace_of is_char basic_text_start basic_text_end starter grapheme_extend_not_cgj spacing_mark_plus accepted sized rising
    nonstarter assigned member rises
finishes = refl

unfoldable pub chunk_table : List Row
chunk_table =
    -- "with its option 85, or 2028 and 2029"
    row (scan neither (0x85 ∷ 0x2028 ∷ 0x2029 ∷ []) ∷ finish true ∷ [])
    ((0 ∷ 0x20 ∷ 0x20 ∷ 0x20 ∷ []) ∷ (0 ∷ 0x0A ∷ []) ∷ [])
    ∷ row (scan nel (0x85 ∷ 0x2028 ∷ 0x2029 ∷ []) ∷ finish true ∷ [])
    ((0 ∷ 0x0A ∷ 0x20 ∷ 0x20 ∷ []) ∷ (0 ∷ 0x0A ∷ []) ∷ [])
    ∷ row (scan lsps (0x85 ∷ 0x2028 ∷ 0x2029 ∷ []) ∷ finish true ∷ [])
    ((0 ∷ 0x20 ∷ 0x0A ∷ 0x0A ∷ []) ∷ (0 ∷ []) ∷ [])
    ∷ row (scan either (0x85 ∷ 0x2028 ∷ 0x2029 ∷ []) ∷ finish true ∷ [])
    ((0 ∷ 0x0A ∷ 0x0A ∷ 0x0A ∷ []) ∷ (0 ∷ []) ∷ [])
    ∷ row (scan nel (0x0C ∷ 0x85 ∷ []) ∷ finish true ∷ [])
    ((0 ∷ 0x20 ∷ 0x0A ∷ []) ∷ (0 ∷ []) ∷ [])
    ∷ row (scan nel (0x0D ∷ 0x85 ∷ []) ∷ finish true ∷ [])
    ((0 ∷ 0x0A ∷ 0x0A ∷ []) ∷ (0 ∷ []) ∷ [])
    -- "U+FEFF is dropped only as the first character of the first call." "An empty first call spends that chance." "A finish spends no
    -- chance to drop U+FEFF"
    ∷ row (scan neither (0xFEFF ∷ 0xFEFF ∷ 0x61 ∷ []) ∷ finish true ∷ [])
    ((0 ∷ 0x2060 ∷ 0x61 ∷ []) ∷ (0 ∷ 0x0A ∷ []) ∷ [])
    ∷ row (scan neither (0xFFFE ∷ 0x61 ∷ []) ∷ finish true ∷ [])
    ((0 ∷ 0xFFFD ∷ 0x61 ∷ []) ∷ (0 ∷ 0x0A ∷ []) ∷ [])
    ∷ row (scan neither (0x61 ∷ []) ∷ scan neither (0xFEFF ∷ []) ∷ finish true ∷ [])
    ((0 ∷ 0x61 ∷ []) ∷ (0 ∷ 0x2060 ∷ []) ∷ (0 ∷ 0x0A ∷ []) ∷ [])
    ∷ row (scan neither [] ∷ scan neither (0xFEFF ∷ 0x61 ∷ []) ∷ finish true ∷ [])
    ((0 ∷ []) ∷ (0 ∷ 0x2060 ∷ 0x61 ∷ []) ∷ (0 ∷ 0x0A ∷ []) ∷ [])
    ∷ row (finish false ∷ scan neither (0xFEFF ∷ 0x61 ∷ []) ∷ finish true ∷ [])
    ((0 ∷ []) ∷ (0 ∷ 0x61 ∷ []) ∷ (0 ∷ 0x0A ∷ []) ∷ [])
    -- "Line end: 0D 0A, 0D, 0A", in one chunk and in two: "Image 0A."
    ∷ row (scan neither (0x61 ∷ 0x0D ∷ 0x0A ∷ 0x62 ∷ []) ∷ finish true ∷ [])
    ((0 ∷ 0x61 ∷ 0x0A ∷ 0x62 ∷ []) ∷ (0 ∷ 0x0A ∷ []) ∷ [])
    ∷ row (scan neither (0x61 ∷ 0x0D ∷ []) ∷ scan neither (0x0A ∷ 0x62 ∷ []) ∷ finish true ∷ [])
    ((0 ∷ 0x61 ∷ []) ∷ (0 ∷ 0x0A ∷ 0x62 ∷ []) ∷ (0 ∷ 0x0A ∷ []) ∷ [])
    ∷ row (scan neither (0x0A ∷ 0x0D ∷ 0x0D ∷ 0x0A ∷ 0x0A ∷ []) ∷ finish true ∷ [])
    ((0 ∷ 0x0A ∷ 0x0A ∷ 0x0A ∷ 0x0A ∷ []) ∷ (0 ∷ []) ∷ [])
    ∷ row (scan neither (0x0D ∷ []) ∷ scan neither (0x61 ∷ 0x0D ∷ []) ∷ scan neither (0x0D ∷ 0x0A ∷ []) ∷ finish false ∷ [])
    ((0 ∷ []) ∷ (0 ∷ 0x0A ∷ 0x61 ∷ []) ∷ (0 ∷ 0x0A ∷ 0x0A ∷ []) ∷ (0 ∷ []) ∷ [])
    -- "Page run: one or more 0C. Image empty before 0D or 0A, else 20, also at the end."
    ∷ row (scan neither (0x0C ∷ 0x0C ∷ 0x61 ∷ 0x0C ∷ []) ∷ finish true ∷ [])
    ((0 ∷ 0x20 ∷ 0x61 ∷ []) ∷ (0 ∷ 0x20 ∷ 0x0A ∷ []) ∷ [])
    ∷ row (scan neither (0x61 ∷ 0x0C ∷ 0x0D ∷ 0x0A ∷ 0x0C ∷ 0x0A ∷ []) ∷ finish true ∷ [])
    ((0 ∷ 0x61 ∷ 0x0A ∷ 0x0A ∷ []) ∷ (0 ∷ []) ∷ [])
    ∷ row (scan neither (0x0C ∷ []) ∷ scan neither (0x0C ∷ []) ∷ scan neither (0x0D ∷ []) ∷ finish true ∷ [])
    ((0 ∷ []) ∷ (0 ∷ []) ∷ (0 ∷ []) ∷ (0 ∷ 0x0A ∷ []) ∷ [])
    ∷ row (scan neither (0x0C ∷ 0x1B ∷ 0x63 ∷ 0x0D ∷ []) ∷ finish true ∷ [])
    ((0 ∷ 0x20 ∷ []) ∷ (0 ∷ 0x0A ∷ []) ∷ [])
    -- "`[` `[` and at most one character up to 7F"
    ∷ row (scan neither (0x1B ∷ 0x5B ∷ 0x5B ∷ 0x61 ∷ 0x62 ∷ []) ∷ finish true ∷ [])
    ((0 ∷ 0x62 ∷ []) ∷ (0 ∷ 0x0A ∷ []) ∷ [])
    ∷ row (scan neither (0x1B ∷ 0x5B ∷ 0x5B ∷ 0x7F ∷ 0x61 ∷ []) ∷ finish true ∷ [])
    ((0 ∷ 0x61 ∷ []) ∷ (0 ∷ 0x0A ∷ []) ∷ [])
    ∷ row (scan neither (0x1B ∷ 0x5B ∷ 0x5B ∷ 0x80 ∷ 0x61 ∷ []) ∷ finish true ∷ [])
    ((0 ∷ 0xFFFD ∷ 0x61 ∷ []) ∷ (0 ∷ 0x0A ∷ []) ∷ [])
    ∷ row (scan neither (0x1B ∷ 0x5B ∷ 0x5B ∷ 0x5B ∷ 0x61 ∷ []) ∷ finish true ∷ [])
    ((0 ∷ 0x61 ∷ []) ∷ (0 ∷ 0x0A ∷ []) ∷ [])
    -- "`[` not followed by `[`, any number of 20..3F, then one of 40..7E or 18 if it stands there"
    ∷ row (scan neither (0x1B ∷ 0x5B ∷ 0x20 ∷ 0x31 ∷ 0x3F ∷ 0x40 ∷ 0x61 ∷ []) ∷ finish true ∷ [])
    ((0 ∷ 0x61 ∷ []) ∷ (0 ∷ 0x0A ∷ []) ∷ [])
    ∷ row (scan neither (0x1B ∷ 0x5B ∷ 0x31 ∷ 0x7E ∷ 0x61 ∷ []) ∷ finish true ∷ [])
    ((0 ∷ 0x61 ∷ []) ∷ (0 ∷ 0x0A ∷ []) ∷ [])
    ∷ row (scan neither (0x1B ∷ 0x5B ∷ 0x31 ∷ 0x18 ∷ 0x61 ∷ []) ∷ finish true ∷ [])
    ((0 ∷ 0x61 ∷ []) ∷ (0 ∷ 0x0A ∷ []) ∷ [])
    ∷ row (scan neither (0x1B ∷ 0x5B ∷ 0x31 ∷ 0x7F ∷ 0x61 ∷ []) ∷ finish true ∷ [])
    ((0 ∷ 0xFFFD ∷ 0x61 ∷ []) ∷ (0 ∷ 0x0A ∷ []) ∷ [])
    ∷ row (scan neither (0x1B ∷ 0x5B ∷ 0x1F ∷ 0x61 ∷ []) ∷ finish true ∷ [])
    ((0 ∷ 0xFFFD ∷ 0x61 ∷ []) ∷ (0 ∷ 0x0A ∷ []) ∷ [])
    ∷ row (scan neither (0x1B ∷ 0x5B ∷ 0x31 ∷ []) ∷ scan neither (0x3B ∷ []) ∷ scan neither (0x6D ∷ 0x61 ∷ []) ∷ finish true ∷ [])
    ((0 ∷ []) ∷ (0 ∷ []) ∷ (0 ∷ 0x61 ∷ []) ∷ (0 ∷ 0x0A ∷ []) ∷ [])
    ∷ row (scan neither (0x1B ∷ 0x5B ∷ 0x31 ∷ 0x5B ∷ 0x61 ∷ []) ∷ finish true ∷ [])
    ((0 ∷ 0x61 ∷ []) ∷ (0 ∷ 0x0A ∷ []) ∷ [])
    -- "`]` and all up to the first of 07, 18 and 1B, with it if it is 07 or 18, without it if it is 1B, or to the end if none
    -- of the three comes"
    ∷ row (scan neither (0x1B ∷ 0x5D ∷ 0x61 ∷ 0x07 ∷ 0x62 ∷ []) ∷ finish true ∷ [])
    ((0 ∷ 0x62 ∷ []) ∷ (0 ∷ 0x0A ∷ []) ∷ [])
    ∷ row (scan neither (0x1B ∷ 0x5D ∷ 0x61 ∷ 0x18 ∷ 0x62 ∷ []) ∷ finish true ∷ [])
    ((0 ∷ 0x62 ∷ []) ∷ (0 ∷ 0x0A ∷ []) ∷ [])
    ∷ row (scan neither (0x1B ∷ 0x5D ∷ 0x61 ∷ 0x1B ∷ 0x63 ∷ 0x62 ∷ []) ∷ finish true ∷ [])
    ((0 ∷ 0x62 ∷ []) ∷ (0 ∷ 0x0A ∷ []) ∷ [])
    ∷ row (scan neither (0x1B ∷ 0x5D ∷ 0x61 ∷ 0x0A ∷ 0x9C ∷ 0x62 ∷ []) ∷ finish true ∷ [])
    ((0 ∷ []) ∷ (0 ∷ 0x0A ∷ []) ∷ [])
    -- "one of 40..7E other than `[` and `]`, or 18"; "or, none of these fitting, nothing."
    ∷ row (scan neither (0x1B ∷ 0x40 ∷ 0x61 ∷ []) ∷ finish true ∷ [])
    ((0 ∷ 0x61 ∷ []) ∷ (0 ∷ 0x0A ∷ []) ∷ [])
    ∷ row (scan neither (0x1B ∷ 0x7E ∷ 0x61 ∷ []) ∷ finish true ∷ [])
    ((0 ∷ 0x61 ∷ []) ∷ (0 ∷ 0x0A ∷ []) ∷ [])
    ∷ row (scan neither (0x1B ∷ 0x18 ∷ 0x61 ∷ []) ∷ finish true ∷ [])
    ((0 ∷ 0x61 ∷ []) ∷ (0 ∷ 0x0A ∷ []) ∷ [])
    ∷ row (scan neither (0x1B ∷ 0x3F ∷ 0x61 ∷ []) ∷ finish true ∷ [])
    ((0 ∷ 0x3F ∷ 0x61 ∷ []) ∷ (0 ∷ 0x0A ∷ []) ∷ [])
    ∷ row (scan neither (0x1B ∷ 0x7F ∷ 0x61 ∷ []) ∷ finish true ∷ [])
    ((0 ∷ 0xFFFD ∷ 0x61 ∷ []) ∷ (0 ∷ 0x0A ∷ []) ∷ [])
    ∷ row (scan neither (0x1B ∷ 0x1B ∷ 0x63 ∷ 0x61 ∷ []) ∷ finish true ∷ [])
    ((0 ∷ 0x61 ∷ []) ∷ (0 ∷ 0x0A ∷ []) ∷ [])
    -- "`[` `[` and at most one character up to 7F": 1B, 0A and 0D are such characters too
    ∷ row (scan neither (0x1B ∷ 0x5B ∷ 0x5B ∷ 0x1B ∷ 0x63 ∷ 0x61 ∷ []) ∷ finish true ∷ [])
    ((0 ∷ 0x63 ∷ 0x61 ∷ []) ∷ (0 ∷ 0x0A ∷ []) ∷ [])
    ∷ row (scan neither (0x1B ∷ 0x5B ∷ 0x5B ∷ 0x0A ∷ 0x1B ∷ 0x5B ∷ 0x5B ∷ 0x0D ∷ 0x0A ∷ []) ∷ finish true ∷ [])
    ((0 ∷ 0x0A ∷ []) ∷ (0 ∷ []) ∷ [])
    -- ESC backslash is one of 40..7E; ESC with 20..2F is none of these
    ∷ row (scan neither (0x1B ∷ 0x5C ∷ 0x1B ∷ 0x28 ∷ 0x42 ∷ []) ∷ finish true ∷ [])
    ((0 ∷ 0x28 ∷ 0x42 ∷ []) ∷ (0 ∷ 0x0A ∷ []) ∷ [])
    -- no option makes another control a line end
    ∷ row (scan either (0x0B ∷ 0x1C ∷ 0x1D ∷ 0x1E ∷ 0x84 ∷ 0x86 ∷ []) ∷ finish true ∷ [])
    ((0 ∷ 0xFFFD ∷ 0xFFFD ∷ 0xFFFD ∷ 0xFFFD ∷ 0xFFFD ∷ 0xFFFD ∷ []) ∷ (0 ∷ 0x0A ∷ []) ∷ [])
    -- "An empty image gets no 34F."
    ∷ row (scan neither (0x1B ∷ 0x63 ∷ []) ∷ finish true ∷ [])
    ((0 ∷ []) ∷ (0 ∷ 0x0A ∷ []) ∷ [])
    -- "Any other character: its replacement."
    ∷ row (scan neither (0x09 ∷ 0xFB03 ∷ 0x2126 ∷ 0xE000 ∷ []) ∷ finish true ∷ [])
    ((0 ∷ 0x09 ∷ 0x66 ∷ 0x66 ∷ 0x69 ∷ 0x2126 ∷ 0xE000 ∷ []) ∷ (0 ∷ 0x0A ∷ []) ∷ [])
    -- the signs for units by their option, which may change from call to call; none is a line end by it
    ∷ row
    (scan units (0x2126 ∷ 0x212A ∷ 0x212B ∷ 0x85 ∷ 0x2028 ∷ []) ∷ scan either (0x2126 ∷ 0x212A ∷ 0x212B ∷ []) ∷ scan units (0x2126 ∷ []) ∷ finish true ∷ [])
    ((0 ∷ 0x3A9 ∷ 0x4B ∷ 0xC5 ∷ 0x20 ∷ 0x20 ∷ []) ∷ (0 ∷ 0x2126 ∷ 0x212A ∷ 0x212B ∷ []) ∷ (0 ∷ 0x3A9 ∷ []) ∷ (0 ∷ 0x0A ∷ []) ∷ [])
    -- inside a page run, a string and an escape they are as any other character
    ∷ row (scan units (0x0C ∷ 0x212A ∷ 0x1B ∷ 0x5D ∷ 0x2126 ∷ 0x07 ∷ 0x1B ∷ 0x5B ∷ 0x5B ∷ 0x212B ∷ []) ∷ finish true ∷ [])
    ((0 ∷ 0x20 ∷ 0x4B ∷ 0xC5 ∷ []) ∷ (0 ∷ 0x0A ∷ []) ∷ [])
    ∷ []

pub chunks : map computed chunk_table ≡ map (λ (x : Row). x.expected) chunk_table
unfolding chunk_table scan_of chunk_refusal refusal_of finish_of scan_step_of leave_of meet_of parameter final string_end up_to7_f newline_char
    optional_line replace_of is_char basic_text_start basic_text_end starter grapheme_extend_not_cgj spacing_mark_plus accepted sized rising
    nonstarter assigned member rises
chunks = refl
