-- What inner functions of src/lib.rt answer, that take a run, a step or a stretch of it. No entry's contract cites this file.
use Rattle.std.specs.Prelude.{ℕ, ◌+◌, ◌≤◌, ◌<◌, Bool, true, false, not, ◌&&◌, List, ◌++◌, ◌≡◌, eqb, length}
use Rattle.stretch.specs.Stretch.{part}
use Rattle.stretch.specs.Plain.{Gap}
use Rattle.text_input_parts.specs.Appended.{lead_chars, stored_if}
use Rattle.text_input.specs.declared.State.{State}
use Rattle.text_input.specs.declared.State.TheVariants.{Ground, Cr, Ff, Esc, CsiStart, Csi, Osc, Linux}
use Rattle.text_input.specs.declared.Options.{Options}
use Rattle.text_input.specs.declared.TextInput.{TextInput}
use Rattle.text_input.specs.declared.Ending.{Ending}
use Rattle.text_input.specs.declared.Moved.{Moved}
use Rattle.text_input.specs.declared.Ran.{Ran}
use Rattle.text_input.specs.Scan.{Effect, run_of}

-- a run by its parts: what it appends, and the record after it
abbrev pub outs : List ℕ → Options → TextInput → List ℕ → List ℕ
outs p o r cs = (run_of p o r cs).out

abbrev pub ends : List ℕ → Options → TextInput → List ℕ → TextInput
ends p o r cs = (run_of p o r cs).next

-- nothing is pending
abbrev pub grounded : State → Bool
grounded (Ground b) = true
grounded Cr = false
grounded Ff = false
grounded Esc = false
grounded CsiStart = false
grounded Csi = false
grounded Osc = false
grounded Linux = false

-- nothing is pending and no start is expected
abbrev pub steady : TextInput → Bool
steady r = grounded r.state && not r.expect_starter

-- the record after characters that are appended as they come, the last of them c
abbrev pub passed_by : TextInput → ℕ → TextInput
passed_by r c =
    record { state = Ground (eqb c 0x0A); expect_starter = false; at_start = r.at_start; last = c; count = r.count }

-- how far the queue is written, and the record, where what a run comes to is stored from place k on
abbrev pub ran_by : ℕ → Effect → Ran
ran_by k e = record { written = k + length e.out; next = e.next }

abbrev pub ran_in : Moved → Ran
ran_in m = record { written = m.written; next = m.next }

-- what a finish appends, by its parts
abbrev pub ending_chars : Ending → List ℕ
ending_chars e = lead_chars e.lead ++ (lead_chars e.mark ++ lead_chars e.newline)

-- the chunk is taken from place i up to a later one, and what its characters come to stands from place k on, stored or not
pub record Moves (p : List ℕ) (o : Options) (r : TextInput) (chunk : List ℕ) (i : ℕ) (stores : Bool) (queue : List ℕ) (k : ℕ) (m : Moved) (after : List ℕ) : Type 0 where
  pub on : i < m.at
  pub low : m.at ≤ length chunk
  pub ran : ran_in m ≡ ran_by k (run_of p o r (part i m.at chunk))
  pub places : after ≡ stored_if stores queue k (outs p o r (part i m.at chunk))
  pub gap : Gap m.gap
