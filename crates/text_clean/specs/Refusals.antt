-- What a clean and a finish leave, refused or not, without the words of their definitions. The orders of their refusals, `clean_order` and
-- `finish_order`, stand in proofs/Refusals.antt.
use Rattle.std.specs.Prelude.{ℕ, ◌+◌, ◌*◌, ◌≤◌, true, false, List, [], ◌≡◌, eqb, ltb, length, drop}
use Rattle.common.specs.Answers.{refusal_in, written_in}
use Rattle.utf8_lossy.specs.Decode.{pending_of}
use Rattle.text_clean.specs.declared.Cleaner.{Cleaner}
use Rattle.text_clean.specs.Clean.{Outcome}

-- the record is as it was, and so are the places
pub record Unchanged (r : Cleaner) (places : List ℕ) (left : Outcome) : Type 0 where
  pub pending : left.pending ≡ pending_of r.pending
  pub text : left.text ≡ r.text
  pub places_are : left.places ≡ places

-- of the record, the chunk and the places at entry, and what the clean returned and left
pub record CleanLeaves (r : Cleaner) (bytes places : List ℕ) (left : Outcome) : Type 0 where
  -- a refused call changes nothing
  pub nothing : ltb 0 (refusal_in left.numbers) ≡ true → Unchanged r places left
  -- an empty chunk spends nothing, not the chance to drop U+FEFF either, and writes nothing
  pub empty : bytes ≡ [] → Unchanged r places left × (written_in left.numbers ≡ 0)
  -- the room that n bytes need, and the number written is at most that of the places
  pub room : written_in left.numbers ≤ 3 * length bytes + 13
  pub fits : written_in left.numbers ≤ length places
  -- places past the written ones are unchanged
  pub past : drop (written_in left.numbers) left.places ≡ drop (written_in left.numbers) places

-- of the record and the places at entry, and what the finish returned and left
pub record FinishLeaves (r : Cleaner) (places : List ℕ) (left : Outcome) : Type 0 where
  pub nothing : ltb 0 (refusal_in left.numbers) ≡ true → Unchanged r places left
  -- no byte of a character waits, and no 0D that an escape took; a start is expected again
  pub none : eqb (refusal_in left.numbers) 0 ≡ true → left.pending ≡ []
  pub counted : eqb (refusal_in left.numbers) 0 ≡ true → left.text.cr ≡ false
  pub expects : eqb (refusal_in left.numbers) 0 ≡ true → left.text.input.expect_starter ≡ true
  -- a finish spends no chance to drop U+FEFF, unless it gives U+FFFD as the first character; it gives none back
  pub chance : pending_of r.pending ≡ [] → left.text.input.at_start ≡ r.text.input.at_start
  pub spent : r.text.input.at_start ≡ false → left.text.input.at_start ≡ false
  -- the number written is at most eight, and at most that of the places
  pub eight : written_in left.numbers ≤ 8
  pub fits : written_in left.numbers ≤ length places
  -- places past the written ones are unchanged
  pub past : drop (written_in left.numbers) left.places ≡ drop (written_in left.numbers) places
