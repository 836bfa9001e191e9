-- What a scan and a finish leave, refused or not. Document 01, "A chunk comes in", "A stream finishes" and "Refused because of the
-- state".
use Rattle.std.specs.Prelude.{ℕ, ◌+◌, ◌≤◌, true, false, List, ◌≡◌, eqb, ltb, length, drop}
use Rattle.common.specs.Answers.{refusal_in, written_in}
use Rattle.text_input.specs.declared.TextInput.{TextInput}
use Rattle.text_input.specs.Scan.{Outcome}

-- of the record, the chunk and the places at entry, and what the scan returned and left
pub record ScanLeaves (r : TextInput) (chunk queue : List ℕ) (left : Outcome) : Type 0 where
  -- "1, 2, 7, 8, 9, 10 .. change nothing.": the record whole, with the chance to drop U+FEFF, and the places
  pub nothing : ltb 0 (refusal_in left.numbers) ≡ true → (left.next ≡ r) × (left.places ≡ queue)
  -- "An empty first call spends that chance.": as does every accepted one
  pub spends : eqb (refusal_in left.numbers) 0 ≡ true → left.next.at_start ≡ false
  -- "The record holds a 32-bit count of characters taken, dropped ones included."
  pub counts : eqb (refusal_in left.numbers) 0 ≡ true → left.next.count ≡ r.count + length chunk
  -- the number written is at most that of the places
  pub fits : written_in left.numbers ≤ length queue
  -- "Places past the filled .. ones are unchanged"
  pub past : drop (written_in left.numbers) left.places ≡ drop (written_in left.numbers) queue

-- of the record and the places at entry, and what the finish returned and left
pub record FinishLeaves (r : TextInput) (queue : List ℕ) (left : Outcome) : Type 0 where
  -- "1, 2, 7, 8, 9, 10 .. change nothing."
  pub nothing : ltb 0 (refusal_in left.numbers) ≡ true → (left.next ≡ r) × (left.places ≡ queue)
  -- "Then a start is expected again."
  pub expects : eqb (refusal_in left.numbers) 0 ≡ true → left.next.expect_starter ≡ true
  -- "A finish spends no chance to drop U+FEFF and leaves the count."
  pub chance : left.next.at_start ≡ r.at_start
  pub count : left.next.count ≡ r.count
  -- the number written is at most two, and at most that of the places
  pub two : written_in left.numbers ≤ 2
  pub fits : written_in left.numbers ≤ length queue
  -- "Places past the filled .. ones are unchanged"
  pub past : drop (written_in left.numbers) left.places ≡ drop (written_in left.numbers) queue
