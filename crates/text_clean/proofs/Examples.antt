-- Lists of calls on a fresh cleaner, worked out by hand: the definitions give the same, byte by byte of what is written and count by
-- count, by computing both. By the page 0 1 0 377; a chunk of n bytes is lent the 3 × n + 13 places that it needs, an empty one none, and
-- a finish 8. Numbers are hexadecimal, counts decimal.
--     examples    the table
--     worked      a list with refused calls, for which the promise holds
use Prim.Native.Nat.{ℕ}
use mathlib.Core.Bool.{Bool, true, false}
use mathlib.Core.List.{List, [], ◌∷◌, map}
use mathlib.Core.Path.{◌≡◌, refl}
use lib.ListN.{length, replicate, drop}
use Rattle.common.specs.Answers.{wrote_in}
use Rattle.scalars.specs.Chars.{is_char}
use Rattle.scalars.specs.Utf8.{encode_of}
use Rattle.ranges.specs.Ranges.{member, rises}
use Rattle.page.specs.Page.{sized, rising, nonstarter, assigned, accepted}
use Rattle.text_utils.specs.Classes.{starter, grapheme_extend_not_cgj, spacing_mark_plus, basic_text_start, basic_text_end}
use Rattle.replace.specs.Replace.{replace_of}
use Rattle.utf8_lossy.specs.declared.Pending.{Pending}
use Rattle.utf8_lossy.specs.declared.Pending.TheVariants.{Nothing, One}
use Rattle.utf8_lossy.proofs.Room.{record_of}
use Rattle.text_input_parts.specs.Sets.{parameter, final, string_end, up_to7_f, newline_char}
use Rattle.text_input.specs.declared.State.{State}
use Rattle.text_input.specs.declared.State.TheVariants.{Ground}
use Rattle.text_input.specs.declared.Options.{Options}
use Rattle.text_input.specs.Sets.{optional_line}
use Rattle.text_input.specs.Step.{leave_of, meet_of, scan_step_of}
use Rattle.text_clean.specs.declared.text.Text.{Text}
use Rattle.text_clean.specs.declared.Cleaner.{Cleaner}
use Rattle.text_clean.specs.Text.{fresh_text, in_escape, take_of}
use Rattle.text_clean.specs.Clean.{Outcome, places_for_bytes, clean_of, finish_of}
use Rattle.text_clean.specs.Calls.{Call, Answered, Seen, output_of, total_of, totals_of, accepted_of, chunks_of, bytes_of, FinishedOnce}
use Rattle.text_clean.specs.Promise.{Promise}
use Rattle.text_clean.proofs.Promise.{promise}
use Rattle.common.specs.declared.Refusal.{Refusal}
use Rattle.text_clean.specs.declared.Counts.{Counts}
use Rattle.std.specs.Prelude.{Result, Ok, Err}
use Rattle.common.specs.declared.Refusal.TheVariants.{WrongPage, NoRoom}

pub data Act : Type 0 where
  clean : List ℕ → Act
  finish : (eof : Bool) → Act

-- what a call tells: the bytes that it wrote; characters read, bytes that U+FFFD stands for, characters dropped, line ends lost
pub record Told : Type 0 where
  pub bytes : List ℕ
  pub counts : List ℕ

abbrev told : List ℕ → ℕ → ℕ → ℕ → ℕ → Told
told bytes read replaced dropped lost = record { bytes = bytes; counts = read ∷ replaced ∷ dropped ∷ lost ∷ [] }

pub record Row : Type 0 where
  pub options : Options
  pub lines : Bool
  pub acts : List Act
  pub expected : List Told

abbrev with : Bool → Bool → Options
with nel lsps = record { nel_compatibility = nel; lsps_compatibility = lsps; units_compatibility = false }

-- all bytes are one text
abbrev one : List Act → List Told → Row
one acts expected = record { options = with false false; lines = false; acts = acts; expected = expected }

-- each line is one
abbrev each : List Act → List Told → Row
each acts expected = record { options = with false false; lines = true; acts = acts; expected = expected }

abbrev nel : List Act → List Told → Row
nel acts expected = record { options = with true false; lines = false; acts = acts; expected = expected }

abbrev lsps : List Act → List Told → Row
lsps acts expected = record { options = with false true; lines = false; acts = acts; expected = expected }

abbrev units : List Act → List Told → Row
units acts expected =
    record {
      options = record { nel_compatibility = false; lsps_compatibility = false; units_compatibility = true };
      lines = false;
      acts = acts;
      expected = expected;
    }

-- a finish that adds the last 0A, and one that adds nothing
abbrev ended : Told
ended = told (0x0A ∷ []) 0 0 0 0

abbrev silent : Told
silent = told [] 0 0 0 0

-- ---- what a row's calls give
abbrev page : List ℕ
page = 0 ∷ 1 ∷ 0 ∷ 0x377 ∷ []

abbrev done_by : Options → Bool → Cleaner → Act → Outcome
done_by o lines r (clean bs) = clean_of r page o lines bs (replicate (places_for_bytes (length bs)) 0xEE)
done_by o lines r (finish eof) = finish_of r page o eof (replicate 8 0xEE)

abbrev after : Outcome → Cleaner
after x = record { pending = record_of x.pending; text = x.text }

abbrev told_from : Options → Bool → Cleaner → List Act → List Told
told_from o lines r [] = []
told_from o lines r (a ∷ more) =
    record {
      bytes = wrote_in (done_by o lines r a).numbers (done_by o lines r a).places;
      counts = drop 2 (done_by o lines r a).numbers;
    }
    ∷ told_from o lines (after (done_by o lines r a)) more

abbrev computed : Row → List Told
computed x = told_from x.options x.lines (record { pending = Nothing; text = fresh_text }) x.acts

-- ---- the table
unfoldable pub table : List Row
table =
    -- nothing in, nothing out
    one (finish true ∷ []) (silent ∷ [])
    ∷ one (clean [] ∷ finish true ∷ []) (silent ∷ silent ∷ [])
    -- a leading U+FEFF is dropped: whole, cut, behind empty chunks; a later one is not, and is 2060
    ∷ one (clean (0xEF ∷ 0xBB ∷ 0xBF ∷ 0x61 ∷ []) ∷ finish true ∷ []) (told (0x61 ∷ []) 2 0 1 0 ∷ ended ∷ [])
    ∷ one (clean (0xEF ∷ []) ∷ clean (0xBB ∷ 0xBF ∷ 0x61 ∷ []) ∷ finish true ∷ []) (silent ∷ told (0x61 ∷ []) 2 0 1 0 ∷ ended ∷ [])
    ∷ one (clean [] ∷ clean (0xEF ∷ 0xBB ∷ []) ∷ clean [] ∷ clean (0xBF ∷ []) ∷ clean (0x61 ∷ []) ∷ finish true ∷ [])
    (silent ∷ silent ∷ silent ∷ told [] 1 0 1 0 ∷ told (0x61 ∷ []) 1 0 0 0 ∷ ended ∷ [])
    ∷ one (clean (0x61 ∷ 0xEF ∷ 0xBB ∷ 0xBF ∷ []) ∷ finish true ∷ []) (told (0x61 ∷ 0xE2 ∷ 0x81 ∷ 0xA0 ∷ []) 2 0 0 0 ∷ ended ∷ [])
    -- one alone is dropped too, and gives nothing
    ∷ one (clean (0xEF ∷ 0xBB ∷ 0xBF ∷ []) ∷ finish true ∷ []) (told [] 1 0 1 0 ∷ silent ∷ [])
    -- a character that a chunk's end cuts
    ∷ one (clean (0xC3 ∷ []) ∷ clean (0xA9 ∷ []) ∷ finish true ∷ []) (silent ∷ told (0xC3 ∷ 0xA9 ∷ []) 1 0 0 0 ∷ ended ∷ [])
    -- one that 0A cuts, with lines and without; and one that the end cuts, or a push
    ∷ one (clean (0xC3 ∷ 0x0A ∷ []) ∷ finish true ∷ []) (told (0xEF ∷ 0xBF ∷ 0xBD ∷ 0x0A ∷ []) 2 1 0 0 ∷ silent ∷ [])
    ∷ each (clean (0xC3 ∷ 0x0A ∷ []) ∷ finish true ∷ []) (told (0xEF ∷ 0xBF ∷ 0xBD ∷ 0x0A ∷ []) 2 1 0 0 ∷ silent ∷ [])
    ∷ one (clean (0x61 ∷ 0xF0 ∷ 0x9F ∷ 0x92 ∷ []) ∷ finish true ∷ [])
    (told (0x61 ∷ []) 1 0 0 0 ∷ told (0xEF ∷ 0xBF ∷ 0xBD ∷ 0x0A ∷ []) 1 3 0 0 ∷ [])
    ∷ one (clean (0xC3 ∷ []) ∷ finish false ∷ clean (0xA9 ∷ []) ∷ finish true ∷ [])
    (silent ∷ told (0xEF ∷ 0xBF ∷ 0xBD ∷ []) 1 1 0 0 ∷ told (0xEF ∷ 0xBF ∷ 0xBD ∷ []) 1 1 0 0 ∷ ended ∷ [])
    -- ESC [ 1 m a: the characters of an escape are dropped, and no more
    ∷ one (clean (0x1B ∷ 0x5B ∷ 0x31 ∷ 0x6D ∷ 0x61 ∷ []) ∷ finish true ∷ []) (told (0x61 ∷ []) 5 0 4 0 ∷ ended ∷ [])
    -- an escape that the end cuts; one that ends before a character; ESC alone; ESC before ESC
    ∷ one (clean (0x1B ∷ 0x5B ∷ 0x31 ∷ []) ∷ finish true ∷ []) (told [] 3 0 3 0 ∷ ended ∷ [])
    ∷ one (clean (0x1B ∷ 0x5B ∷ 0x31 ∷ 0xC3 ∷ 0xA9 ∷ []) ∷ finish true ∷ []) (told (0xC3 ∷ 0xA9 ∷ []) 4 0 3 0 ∷ ended ∷ [])
    ∷ one (clean (0x1B ∷ 0x0A ∷ []) ∷ finish true ∷ []) (told (0x0A ∷ []) 2 0 1 0 ∷ silent ∷ [])
    ∷ one (clean (0x1B ∷ 0x1B ∷ 0x63 ∷ []) ∷ finish true ∷ []) (told [] 3 0 3 0 ∷ ended ∷ [])
    -- ESC ] a 0A b 07 c: the string takes the line end. With lines it ends with its line, and 07 gives U+FFFD.
    ∷ one (clean (0x1B ∷ 0x5D ∷ 0x61 ∷ 0x0A ∷ 0x62 ∷ 0x07 ∷ 0x63 ∷ []) ∷ finish true ∷ []) (told (0x63 ∷ []) 7 0 6 1 ∷ ended ∷ [])
    ∷ each (clean (0x1B ∷ 0x5D ∷ 0x61 ∷ 0x0A ∷ 0x62 ∷ 0x07 ∷ 0x63 ∷ []) ∷ finish true ∷ [])
    (told (0x0A ∷ 0x62 ∷ 0xEF ∷ 0xBF ∷ 0xBD ∷ 0x63 ∷ []) 7 0 4 0 ∷ ended ∷ [])
    -- ESC ] 0D 0A 07: one line end is lost, and not two; in two chunks it is counted with its 0A
    ∷ one (clean (0x1B ∷ 0x5D ∷ 0x0D ∷ 0x0A ∷ 0x07 ∷ 0x61 ∷ []) ∷ finish true ∷ []) (told (0x61 ∷ []) 6 0 5 1 ∷ ended ∷ [])
    ∷ one (clean (0x1B ∷ 0x5D ∷ 0x0D ∷ []) ∷ clean (0x0A ∷ 0x07 ∷ 0x61 ∷ []) ∷ finish true ∷ [])
    (told [] 3 0 3 0 ∷ told (0x61 ∷ []) 3 0 2 1 ∷ ended ∷ [])
    -- ESC ] 0D x: 0D is a line end by itself; at the end, the finish counts it; 0D 0D is two
    ∷ one (clean (0x1B ∷ 0x5D ∷ 0x0D ∷ 0x78 ∷ 0x07 ∷ 0x61 ∷ []) ∷ finish true ∷ []) (told (0x61 ∷ []) 6 0 5 1 ∷ ended ∷ [])
    ∷ one (clean (0x1B ∷ 0x5D ∷ 0x0D ∷ []) ∷ finish true ∷ []) (told [] 3 0 3 0 ∷ told (0x0A ∷ []) 0 0 0 1 ∷ [])
    ∷ one (clean (0x1B ∷ 0x5D ∷ 0x0D ∷ []) ∷ finish false ∷ finish true ∷ []) (told [] 3 0 3 0 ∷ told [] 0 0 0 1 ∷ ended ∷ [])
    ∷ one (clean (0x1B ∷ 0x5D ∷ 0x0D ∷ 0x0D ∷ 0x07 ∷ []) ∷ finish true ∷ []) (told [] 5 0 5 2 ∷ ended ∷ [])
    -- ESC ] 0D ESC: the string ends before the next escape, and the 0D was its last character
    ∷ one (clean (0x1B ∷ 0x5D ∷ 0x0D ∷ 0x1B ∷ 0x63 ∷ []) ∷ finish true ∷ []) (told [] 5 0 5 1 ∷ ended ∷ [])
    -- with lines 0A is not lost, nor 0D before it; a 0D by itself is
    ∷ each (clean (0x1B ∷ 0x5D ∷ 0x0D ∷ 0x0A ∷ 0x61 ∷ []) ∷ finish true ∷ []) (told (0x0A ∷ 0x61 ∷ []) 5 0 4 0 ∷ ended ∷ [])
    ∷ each (clean (0x1B ∷ 0x5D ∷ 0x0D ∷ 0x78 ∷ 0x0A ∷ 0x61 ∷ []) ∷ finish true ∷ []) (told (0x0A ∷ 0x61 ∷ []) 6 0 5 1 ∷ ended ∷ [])
    -- ESC [ [ 0D 0A: the escape takes 0D alone, and the line end is there by its 0A; ESC [ [ 0A takes it
    ∷ one (clean (0x1B ∷ 0x5B ∷ 0x5B ∷ 0x0D ∷ 0x0A ∷ 0x61 ∷ []) ∷ finish true ∷ []) (told (0x0A ∷ 0x61 ∷ []) 6 0 4 0 ∷ ended ∷ [])
    ∷ one (clean (0x1B ∷ 0x5B ∷ 0x5B ∷ 0x0D ∷ 0x61 ∷ []) ∷ finish true ∷ []) (told (0x61 ∷ []) 5 0 4 1 ∷ ended ∷ [])
    ∷ one (clean (0x1B ∷ 0x5B ∷ 0x5B ∷ 0x0A ∷ 0x61 ∷ []) ∷ finish true ∷ []) (told (0x61 ∷ []) 5 0 4 1 ∷ ended ∷ [])
    -- a line end outside an escape is not lost
    ∷ one (clean (0x61 ∷ 0x0D ∷ 0x0A ∷ 0x62 ∷ 0x0D ∷ 0x63 ∷ []) ∷ finish true ∷ [])
    (told (0x61 ∷ 0x0A ∷ 0x62 ∷ 0x0A ∷ 0x63 ∷ []) 6 0 0 0 ∷ ended ∷ [])
    -- 85, 2028 and 2029 are line ends by their options
    ∷ one (clean (0x1B ∷ 0x5D ∷ 0xC2 ∷ 0x85 ∷ 0x07 ∷ []) ∷ finish true ∷ []) (told [] 4 0 4 0 ∷ ended ∷ [])
    ∷ nel (clean (0x1B ∷ 0x5D ∷ 0xC2 ∷ 0x85 ∷ 0x07 ∷ []) ∷ finish true ∷ []) (told [] 4 0 4 1 ∷ ended ∷ [])
    ∷ nel (clean (0x1B ∷ 0x5D ∷ 0xE2 ∷ 0x80 ∷ 0xA8 ∷ 0x07 ∷ []) ∷ finish true ∷ []) (told [] 4 0 4 0 ∷ ended ∷ [])
    ∷ lsps (clean (0x1B ∷ 0x5D ∷ 0xE2 ∷ 0x80 ∷ 0xA8 ∷ 0xE2 ∷ 0x80 ∷ 0xA9 ∷ 0x07 ∷ []) ∷ finish true ∷ []) (told [] 5 0 5 2 ∷ ended ∷ [])
    -- 2126, 212A and 212B are replaced by their option, also where a chunk ends inside one
    ∷ one (clean (0xE2 ∷ 0x84 ∷ 0xA6 ∷ 0xE2 ∷ 0x84 ∷ 0xAA ∷ 0xE2 ∷ 0x84 ∷ 0xAB ∷ []) ∷ finish true ∷ [])
    (told (0xE2 ∷ 0x84 ∷ 0xA6 ∷ 0xE2 ∷ 0x84 ∷ 0xAA ∷ 0xE2 ∷ 0x84 ∷ 0xAB ∷ []) 3 0 0 0 ∷ ended ∷ [])
    ∷ units (clean (0xE2 ∷ 0x84 ∷ 0xA6 ∷ 0xE2 ∷ 0x84 ∷ []) ∷ clean (0xAA ∷ 0xE2 ∷ 0x84 ∷ 0xAB ∷ []) ∷ finish true ∷ [])
    (told (0xCE ∷ 0xA9 ∷ []) 1 0 0 0 ∷ told (0x4B ∷ 0xC3 ∷ 0x85 ∷ []) 2 0 0 0 ∷ ended ∷ [])
    -- 34F before a text and after it, which with lines is each line
    ∷ one (clean (0xE2 ∷ 0x80 ∷ 0x8D ∷ []) ∷ finish true ∷ [])
    (told (0xCD ∷ 0x8F ∷ 0xE2 ∷ 0x80 ∷ 0x8D ∷ []) 1 0 0 0 ∷ told (0xCD ∷ 0x8F ∷ 0x0A ∷ []) 0 0 0 0 ∷ [])
    ∷ one (clean (0x61 ∷ 0x0A ∷ 0xE2 ∷ 0x80 ∷ 0x8D ∷ 0x0A ∷ []) ∷ finish true ∷ [])
    (told (0x61 ∷ 0x0A ∷ 0xE2 ∷ 0x80 ∷ 0x8D ∷ 0x0A ∷ []) 4 0 0 0 ∷ silent ∷ [])
    ∷ each (clean (0x61 ∷ 0x0A ∷ 0xE2 ∷ 0x80 ∷ 0x8D ∷ 0x0A ∷ []) ∷ finish true ∷ [])
    (told (0x61 ∷ 0x0A ∷ 0xCD ∷ 0x8F ∷ 0xE2 ∷ 0x80 ∷ 0x8D ∷ 0x0A ∷ []) 4 0 0 0 ∷ silent ∷ [])
    -- a U+FEFF that begins a line: with lines it is dropped
    ∷ one (clean (0x61 ∷ 0x0A ∷ 0xEF ∷ 0xBB ∷ 0xBF ∷ 0x62 ∷ []) ∷ finish true ∷ [])
    (told (0x61 ∷ 0x0A ∷ 0xE2 ∷ 0x81 ∷ 0xA0 ∷ 0x62 ∷ []) 4 0 0 0 ∷ ended ∷ [])
    ∷ each (clean (0x61 ∷ 0x0A ∷ 0xEF ∷ 0xBB ∷ 0xBF ∷ 0x62 ∷ []) ∷ finish true ∷ []) (told (0x61 ∷ 0x0A ∷ 0x62 ∷ []) 4 0 1 0 ∷ ended ∷ [])
    -- a 0D ends no line
    ∷ each (clean (0x61 ∷ 0x0D ∷ 0xEF ∷ 0xBB ∷ 0xBF ∷ 0x62 ∷ []) ∷ finish true ∷ [])
    (told (0x61 ∷ 0x0A ∷ 0xE2 ∷ 0x81 ∷ 0xA0 ∷ 0x62 ∷ []) 4 0 0 0 ∷ ended ∷ [])
    -- a push ends a pending 0D, so that a 0A behind it is a line end of its own; and a pending page run
    ∷ one (clean (0x61 ∷ 0x0D ∷ []) ∷ finish false ∷ clean (0x0A ∷ 0x62 ∷ []) ∷ finish true ∷ [])
    (told (0x61 ∷ []) 2 0 0 0 ∷ ended ∷ told (0x0A ∷ 0x62 ∷ []) 2 0 0 0 ∷ ended ∷ [])
    ∷ one (clean (0x0C ∷ []) ∷ finish false ∷ clean (0x0A ∷ []) ∷ finish true ∷ [])
    (told [] 1 0 0 0 ∷ told (0x20 ∷ []) 0 0 0 0 ∷ told (0x0A ∷ []) 1 0 0 0 ∷ silent ∷ [])
    -- it puts 34F behind what is no end, and expects a start again
    ∷ one (clean (0xE2 ∷ 0x80 ∷ 0x8D ∷ []) ∷ finish false ∷ clean (0xE2 ∷ 0x80 ∷ 0x8D ∷ []) ∷ finish false ∷ [])
    (told (0xCD ∷ 0x8F ∷ 0xE2 ∷ 0x80 ∷ 0x8D ∷ []) 1 0 0 0 ∷ told (0xCD ∷ 0x8F ∷ []) 0 0 0 0
    ∷ told (0xCD ∷ 0x8F ∷ 0xE2 ∷ 0x80 ∷ 0x8D ∷ []) 1 0 0 0 ∷ told (0xCD ∷ 0x8F ∷ []) 0 0 0 0 ∷ [])
    -- the 0A that it does not add is owed, and added once
    ∷ one (clean (0x61 ∷ []) ∷ finish false ∷ finish true ∷ finish true ∷ []) (told (0x61 ∷ []) 1 0 0 0 ∷ silent ∷ ended ∷ silent ∷ [])
    -- a finish spends no chance to drop U+FEFF, and gives none back, as end of file too
    ∷ one (finish false ∷ clean (0xEF ∷ 0xBB ∷ 0xBF ∷ 0x61 ∷ []) ∷ finish false ∷ clean (0xEF ∷ 0xBB ∷ 0xBF ∷ 0x62 ∷ []) ∷ finish true ∷ [])
    (silent ∷ told (0x61 ∷ []) 2 0 1 0 ∷ silent ∷ told (0xE2 ∷ 0x81 ∷ 0xA0 ∷ 0x62 ∷ []) 2 0 0 0 ∷ ended ∷ [])
    ∷ one (clean (0x61 ∷ []) ∷ finish true ∷ clean (0xEF ∷ 0xBB ∷ 0xBF ∷ 0x62 ∷ []) ∷ finish true ∷ [])
    (told (0x61 ∷ []) 1 0 0 0 ∷ ended ∷ told (0xE2 ∷ 0x81 ∷ 0xA0 ∷ 0x62 ∷ []) 2 0 0 0 ∷ ended ∷ [])
    ∷ []

pub examples : map computed table ≡ map (λ (x : Row). x.expected) table
unfolding table clean_of finish_of take_of in_escape encode_of scan_step_of leave_of meet_of parameter final string_end up_to7_f newline_char
    optional_line replace_of is_char basic_text_start basic_text_end starter grapheme_extend_not_cgj spacing_mark_plus accepted sized rising
    nonstarter assigned member rises
examples = refl

-- ---- a list of calls for which the promise holds, refused ones among them: its hypotheses can be met
abbrev neither : Options
neither = with false false

unfoldable pub calls : List Call
calls =
    -- a byte needs sixteen places: refused by 8
    Call.clean page neither false (0xEF ∷ []) (replicate 15 0xEE)
    -- a page that is a number short, and lines: refused by 2
    ∷ Call.clean (0 ∷ 1 ∷ 0 ∷ []) neither true (0x61 ∷ []) (replicate 16 0xEE)
    -- the first byte of U+FEFF waits
    ∷ Call.clean page neither false (0xEF ∷ []) (replicate 16 0xEE)
    -- a finish needs eight places: refused by 8
    ∷ Call.finish page neither true (replicate 7 0xEE)
    ∷ Call.clean page neither false (0xBB ∷ 0xBF ∷ 0x61 ∷ []) (replicate 22 0xEE)
    ∷ Call.finish page neither true (replicate 8 0xEE)
    ∷ []

abbrev by : Result Counts Refusal → Pending → Text → List ℕ → Answered
by answer pending text places =
    record { returned = record { answer = answer; next = record { pending = pending; text = text } }; places = places }

abbrev counted : ℕ → ℕ → ℕ → Result Counts Refusal
counted written read dropped = Ok (record { written = written; read = read; replaced = 0; dropped = dropped; lost = 0 })

abbrev begun_text : State → Bool → ℕ → Text
begun_text state expect last =
    record { input = record { state = state; expect_starter = expect; at_start = false; last = last; count = 0 }; cr = false }

unfoldable pub seen : List Answered
seen =
    by (Err NoRoom) Nothing fresh_text (replicate 15 0xEE)
    ∷ by (Err WrongPage) Nothing fresh_text (replicate 16 0xEE)
    ∷ by (counted 0 0 0) (One 0xEF) fresh_text (replicate 16 0xEE)
    ∷ by (Err NoRoom) (One 0xEF) fresh_text (replicate 7 0xEE)
    ∷ by (counted 1 2 1) Nothing (begun_text (Ground false) false 0x61) (0x61 ∷ replicate 21 0xEE)
    ∷ by (counted 1 0 0) Nothing (begun_text (Ground true) true 0x0A) (0x0A ∷ replicate 7 0xEE)
    ∷ []

abbrev first : Cleaner
first = record { pending = Nothing; text = fresh_text }

once : FinishedOnce page neither false (accepted_of calls)
unfolding calls accepted_of accepted sized rising nonstarter assigned member rises
once = (refl, refl, refl, (refl, refl, refl, (refl, refl, refl, refl)))

saw : Seen first calls seen
unfolding calls seen clean_of finish_of take_of in_escape encode_of scan_step_of leave_of meet_of parameter final string_end up_to7_f newline_char
    optional_line replace_of is_char basic_text_start basic_text_end starter grapheme_extend_not_cgj spacing_mark_plus accepted sized rising
    nonstarter assigned member rises
saw = (refl, (refl, (refl, (refl, (refl, (refl, tt))))))

-- what it says, and the same computed
pub record Worked : Type 0 where
  pub promised : Promise page neither false (bytes_of calls) (output_of seen) (totals_of seen)
  pub bytes : bytes_of calls ≡ 0xEF ∷ 0xBB ∷ 0xBF ∷ 0x61 ∷ []
  pub output : output_of seen ≡ 0x61 ∷ 0x0A ∷ []
  pub totals : totals_of seen ≡ record { written = 2; read = 2; replaced = 0; dropped = 1; lost = 0 }

good : accepted page ≡ true
unfolding accepted sized rising nonstarter assigned member rises
good = refl

pub worked : Worked
unfolding calls seen accepted_of chunks_of output_of total_of accepted sized rising nonstarter assigned member rises
worked =
    record {
      promised = promise page good neither false calls once first (record { pending = refl; text = refl }) seen saw;
      bytes = refl;
      output = refl;
      totals = refl;
    }
