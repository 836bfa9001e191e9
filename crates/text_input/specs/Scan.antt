-- The calls: a scan of a chunk and a finish, with what they answer, the record after and the lent places after, refused or not.
-- Document 01, "A chunk comes in", "A stream finishes" and "Refused ..".
use Rattle.std.specs.Prelude.{ℕ, ◌+◌, Bool, true, false, cond, not, ◌&&◌, ◌||◌, List, [], ◌∷◌, ◌++◌, eqb, ltb, length, drop, Option, Some, None}
use Rattle.std.proofs.lemmas.List.Edits.{sets}
use Rattle.common.specs.Answers.{written_numbers}
use Rattle.scalars.specs.Chars.{are_chars}
use Rattle.page.specs.Page.{accepted}
use Rattle.text_input.specs.declared.State.{State}
use Rattle.text_input.specs.declared.State.TheVariants.{Ground, Cr, Ff, Esc, CsiStart, Csi, Osc, Linux}
use Rattle.text_input.specs.declared.Options.{Options}
use Rattle.text_input.specs.declared.TextInput.{TextInput}
use Rattle.text_input.specs.declared.Scanned.{Scanned}
use Rattle.text_input.specs.declared.step.Step.{Step}
use Rattle.text_input_parts.specs.Appended.{lead_chars, last_of, end_mark_of, newline_of}
use Rattle.text_input_parts.specs.Refusals.{places_for_chunk, refusal_of}
use Rattle.text_input.specs.Step.{scan_step_of, out_chars}

-- "A fresh record is one as first made"; its last character is an end, so that a finish adds no 34F to an empty text
-- ".. with no call on it yet."
abbrev pub fresh : TextInput
fresh = record { state = Ground true; expect_starter = true; at_start = true; last = 0x0A; count = 0 }

-- each option off, as `TextInput::new` has those of the Rust
abbrev pub all_off : Options
all_off = record { nel_compatibility = false; lsps_compatibility = false; units_compatibility = false }

-- ---- a run of characters from a record
-- what it comes to: the characters that it appends, and the record after it
pub record Effect : Type 0 where
  pub out : List ℕ
  pub next : TextInput

abbrev pub step_effect : Step → Effect
step_effect s = record { out = out_chars s; next = s.next }

-- one run, and another from the record after it
abbrev pub joined : Effect → Effect → Effect
joined a b = record { out = a.out ++ b.out; next = b.next }

-- step by step
abbrev pub run_of : List ℕ → Options → TextInput → List ℕ → Effect
run_of p o r [] = record { out = []; next = r }
run_of p o r (c ∷ cs) = joined (step_effect (scan_step_of p o r c)) (run_of p o (scan_step_of p o r c).next cs)

-- ---- a call's answer by document 01's numbers, the record after it, and the lent places as it returns
-- "`VecDeque` and `String`: lent slices and counts."
pub record Outcome : Type 0 where
  pub numbers : List ℕ
  pub next : TextInput
  pub places : List ℕ

-- what a call returned and left
abbrev pub outcome : Scanned → List ℕ → Outcome
outcome r places = record { numbers = written_numbers r.answer; next = r.next; places = places }

-- refused by a number: record and places as they were
-- "1, 2, 7, 8, 9, 10 .. change nothing."
abbrev pub refused : TextInput → ℕ → List ℕ → Outcome
refused r n queue = record { numbers = n ∷ []; next = r; places = queue }

-- accepted: `out` is written from the first place on, and its length is answered
-- "Scan and finish write from the first place of the slice lent to that call, all of whose places are free, and return the number
-- written"
-- "Places past the filled .. ones are unchanged"
abbrev pub written : TextInput → List ℕ → List ℕ → Outcome
written next out queue = record { numbers = 0 ∷ length out ∷ []; next = next; places = sets queue 0 out }

-- ---- a scan
-- the number of its refusal, and 0 for none, by the record's count, the page, the chunk and the number of places
abbrev pub scan_refusal : ℕ → List ℕ → List ℕ → ℕ → ℕ
scan_refusal count p chunk room =
    refusal_of count (accepted p) (are_chars chunk) (length chunk) (places_for_chunk (length chunk)) room

-- how many characters a leading FEFF is
abbrev pub leading_bom : List ℕ → ℕ
leading_bom [] = 0
leading_bom (c ∷ cs) = cond (eqb c 0xFEFF) 1 0

-- "U+FEFF is dropped only as the first character of the first call."
-- "Plausible and wrong: dropping any leading FEFF of a later chunk"
abbrev pub skipped : TextInput → List ℕ → ℕ
skipped r chunk = cond r.at_start (leading_bom chunk) 0

-- the record of an accepted call on n characters before the first of them: the chance is spent, also by an empty chunk, and all
-- n are counted, "dropped ones included"
-- "An empty first call spends that chance."
abbrev pub opened : TextInput → ℕ → TextInput
opened r n =
    record { state = r.state; expect_starter = r.expect_starter; at_start = false; last = r.last; count = r.count + n }

-- what an accepted scan comes to, and this by its parts
abbrev pub scan_run : List ℕ → Options → TextInput → List ℕ → Effect
scan_run p o r chunk = run_of p o (opened r (length chunk)) (drop (skipped r chunk) chunk)

abbrev pub scan_chars : List ℕ → Options → TextInput → List ℕ → List ℕ
scan_chars p o r chunk = (scan_run p o r chunk).out

abbrev pub scan_next : List ℕ → Options → TextInput → List ℕ → TextInput
scan_next p o r chunk = (scan_run p o r chunk).next

-- "(scan, finish and filling use the queue unisolated, isolation is an entry of its own)"
unfoldable pub scan_of : TextInput → List ℕ → Options → List ℕ → List ℕ → Outcome
scan_of r p o chunk queue =
    cond (eqb (scan_refusal r.count p chunk (length queue)) 0) (written (scan_next p o r chunk) (scan_chars p o r chunk) queue)
    (refused r (scan_refusal r.count p chunk (length queue)) queue)

-- ---- a finish: the status block of `read_with_status`
-- "A pending 0D gives 0A, a pending page run 20, an open escape nothing."
abbrev pub pending_of : State → Option ℕ
pending_of (Ground b) = None
pending_of Cr = Some 0x0A
pending_of Ff = Some 0x20
pending_of Esc = None
pending_of CsiStart = None
pending_of Csi = None
pending_of Osc = None
pending_of Linux = None

-- "the last piece is a line end, no piece came since the last 0A so added, or there was no piece"
abbrev pub after_line : State → Bool
after_line (Ground b) = b
after_line Cr = true
after_line Ff = false
after_line Esc = false
after_line CsiStart = false
after_line Csi = false
after_line Osc = false
after_line Linux = false

-- "As end of file, 0A follows unless .. A push adds no 0A."
abbrev pub finish_chars : TextInput → Bool → List ℕ
finish_chars r eof =
    lead_chars (pending_of r.state)
    ++ (lead_chars (end_mark_of (last_of r.last (lead_chars (pending_of r.state))))
    ++ lead_chars (newline_of (eof && not (after_line r.state))))

-- "Then a start is expected again. A finish spends no chance to drop U+FEFF and leaves the count."
abbrev pub finish_next : TextInput → Bool → TextInput
finish_next r eof =
    record {
      state = Ground (eof || after_line r.state);
      expect_starter = true;
      at_start = r.at_start;
      last = last_of r.last (finish_chars r eof);
      count = r.count;
    }

-- "Free places needed: 2."
-- "The reference is the status block of `read_with_status`."
unfoldable pub finish_of : TextInput → Bool → List ℕ → Outcome
finish_of r eof queue =
    cond (ltb (length queue) 2) (refused r 8 queue) (written (finish_next r eof) (finish_chars r eof) queue)
