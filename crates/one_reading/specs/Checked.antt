-- The check of a run (document 02, A.1) between scanner and writer: what a stream that is finished once, as end of file, leaves in its
-- queue gets yes, what gets yes passes a plain writer, start and end faults are where the scanner puts 34F, and pages and values are
-- refused as by a scan.
use Rattle.std.specs.Prelude.{ℕ, ◌+◌, ◌*◌, ◌≤◌, true, List, [], ◌∷◌, ◌≡◌, length}
use Rattle.common.specs.Answers.{refusal_in}
use Rattle.page.specs.Page.{accepted}
use Rattle.isolate_unassigned.specs.Meaning.{isolated}
use Rattle.check_run.specs.declared.FaultKind.TheVariants.{Start, End, Newline}
use Rattle.check_run.specs.Check.{yes_numbers, fault_numbers, check_run_of}
use Rattle.text_input.specs.declared.Options.{Options}
use Rattle.text_input.specs.declared.TextInput.{TextInput}
use Rattle.text_input.specs.Scan.{Outcome, fresh, scan_of}
use Rattle.text_input.specs.Pieces.{start_mark, end_mark}
use Rattle.text_output.specs.declared.Mode.TheVariants.{Plain}
use Rattle.text_output.specs.Passing.{PassesIn}
use Rattle.one_reading.specs.Calls.{Call, Seen, queue_of, accepted_calls, FinishedOnce}
use Rattle.one_reading.specs.Demand.{NoneExcepted}

-- for the pages, options and lists of calls of `Demand3`: "and every queue made as demand 3 says, without the characters it names, must get
-- it with the page it was made with". An empty queue is one of them
abbrev pub QueueGetsYes : Type 0
QueueGetsYes =
    (page : List ℕ) → accepted page ≡ true → (options : Options) →
    (calls : List Call) → FinishedOnce page options (accepted_calls calls) →
    (seen : List Outcome) → Seen fresh calls seen →
    NoneExcepted options (queue_of seen) → check_run_of page (queue_of seen) ≡ yes_numbers

-- Beyond A.1: a run that gets yes passes a fresh plain writer in one write, which then closes. Not the other way: a write isolates, and so
-- takes runs that begin with no start
abbrev pub YesPasses : Type 0
YesPasses = (page run : List ℕ) → check_run_of page run ≡ yes_numbers → PassesIn Plain page run (isolated page run)

-- "first a start, last an end": as the scanner has it. A start fault is told where a cleaned text has 34F before such characters, an end
-- fault where it has 34F behind them; and where a newline fault is the first, or none is, it has neither
pub record MarkedAsScanner (page run answer : List ℕ) : Type 0 where
  pub start : (place : ℕ) → answer ≡ fault_numbers place Start → start_mark page run ≡ 0x34F ∷ []
  pub end : (place : ℕ) → answer ≡ fault_numbers place End → end_mark run ≡ 0x34F ∷ []
  pub newline : (place : ℕ) → answer ≡ fault_numbers place Newline → (start_mark page run ≡ []) × (end_mark run ≡ [])
  pub yes : answer ≡ yes_numbers → (start_mark page run ≡ []) × (end_mark run ≡ [])

-- "pages and values are tested as for a scan": the check of a run is refused by the number by which a scan of it is, by any record and
-- options, where the scan's count and places are enough
abbrev pub RefusedAsScan : Type 0
RefusedAsScan =
    (page run : List ℕ) → (r : TextInput) (options : Options) (places : List ℕ) →
    r.count + length run ≤ 4294967295 → 3 * length run + 1 ≤ length places →
    refusal_in (check_run_of page run) ≡ refusal_in (scan_of r page options run places).numbers
