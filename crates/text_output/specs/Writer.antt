-- The writer's record and what steps change of it, what its calls answer, and the after-newline state. Document 01, "Characters go
-- out" and "Refused ..".
use Rattle.std.specs.Prelude.{ℕ, Bool, true, false, ◌&&◌, List, [], ◌∷◌, eqb, leb, replicate, ⊤, Result, Ok, Err}
use Rattle.common.specs.Answers.{refusal_number}
use Rattle.check_char.specs.Check.{error_numbers}
use Rattle.text_output.specs.declared.Ground.{Ground}
use Rattle.text_output.specs.declared.Ground.TheVariants.{Newline}
use Rattle.text_output.specs.declared.State.{State}
use Rattle.text_output.specs.declared.State.TheVariants.{Ground as Grounded, Esc, Csi}
use Rattle.text_output.specs.declared.Mode.{Mode}
use Rattle.text_output.specs.declared.TextOutput.{TextOutput}
use Rattle.text_output.specs.declared.Written.{Written}
use Rattle.text_output.specs.declared.WrittenBytes.{WrittenBytes}
use Rattle.text_output.specs.declared.Answered.{Answered}
use Rattle.text_output.specs.declared.WriteError.{WriteError}
use Rattle.text_output.specs.declared.WriteError.TheVariants.{Refused, Abandon, Unwritable}
use Rattle.text_output.specs.declared.CloseError.{CloseError}
use Rattle.text_output.specs.declared.CloseError.TheVariants.{Refused as Denied, Abandon as Abandoned}

-- ---- the record
-- how many characters an escape can hold: "the 64-character limit"
abbrev pub escape_limit : ℕ
escape_limit = 64

-- what the steps of a write change: the state, how many characters of an escape in progress are held, and their places
pub record Machine : Type 0 where
  pub state : State
  pub held : ℕ
  pub escape : List ℕ

abbrev pub machine_of : TextOutput → Machine
machine_of w = record { state = w.state; held = w.held; escape = w.escape_sequence }

-- the writer's record: its mode, whether a start is expected, how many characters are kept, and what steps change
abbrev pub writer_with : Mode → Bool → ℕ → Machine → TextOutput
writer_with mode expect kept m =
    record {
      mode = mode;
      expect_starter = expect;
      state = m.state;
      kept = kept;
      held = m.held;
      escape_sequence = m.escape;
    }

-- as first made
abbrev pub fresh_machine : Machine
fresh_machine = record { state = Grounded Newline; held = 0; escape = replicate escape_limit 0 }

-- as first made, in a mode
-- "Each writer mode is opened by a constructor of its own: plain, CRLF, BOM .. color."
abbrev pub fresh : Mode → TextOutput
fresh mode = writer_with mode true 0 fresh_machine

-- what a writer in BOM mode hands out beside its record: "FEFF is handed out on opening, as a result, in no lent place"
abbrev pub byte_order_mark : ℕ
byte_order_mark = 0xFEFF

-- "1 after ESC, 2 or more after ESC `[`, else 0": the held counts that a state can have
abbrev pub held_in : State → ℕ → Bool
held_in (Grounded g) n = eqb n 0
held_in Esc n = eqb n 1
held_in Csi n = leb 2 n

-- what 9 does not refuse: "9 a writer record claiming over 64 held, or a held count that its state can't have"
abbrev pub sound : Machine → Bool
sound m = leb m.held escape_limit && held_in m.state m.held

-- outside an escape, where nothing is held: "Held counts the characters of an escape in progress, else 0."
abbrev pub on_ground : Machine → Ground → Machine
on_ground m kind = record { state = Grounded kind; held = 0; escape = m.escape }

-- "its after-newline state": `reset_state`; expectation and kept characters stay
abbrev pub after_newline : TextOutput → TextOutput
after_newline w = writer_with w.mode w.expect_starter w.kept (on_ground (machine_of w) Newline)

-- ---- what a call answers, by this paper's numbers
-- 0 and how many characters are handed out; or the refusal's number, for 4 the reason's number and its values too
-- "a definition lists this paper's number and values for each case"
abbrev pub wrote_numbers : Result ℕ WriteError → List ℕ
wrote_numbers (Ok k) = 0 ∷ k ∷ []
wrote_numbers (Err (Refused e)) = refusal_number e ∷ []
wrote_numbers (Err (Abandon e)) = refusal_number e ∷ []
wrote_numbers (Err (Unwritable e)) = 4 ∷ error_numbers e

-- whether the caller is told to abandon
abbrev pub wrote_tells : Result ℕ WriteError → Bool
wrote_tells (Ok k) = false
wrote_tells (Err (Refused e)) = false
wrote_tells (Err (Abandon e)) = true
wrote_tells (Err (Unwritable e)) = true

-- no number where it succeeds, or the refusal's
abbrev pub answer_numbers : Result ⊤ CloseError → List ℕ
answer_numbers (Ok u) = []
answer_numbers (Err (Denied e)) = refusal_number e ∷ []
answer_numbers (Err (Abandoned e)) = refusal_number e ∷ []

abbrev pub answer_tells : Result ⊤ CloseError → Bool
answer_tells (Ok u) = false
answer_tells (Err (Denied e)) = false
answer_tells (Err (Abandoned e)) = true

-- an answer's numbers, whether it tells the caller to abandon, and the record after the call
pub record Given : Type 0 where
  pub numbers : List ℕ
  pub abandon : Bool
  pub next : TextOutput

-- the same with the lent places as the call returns
pub record Outcome : Type 0 where
  pub given : Given
  pub places : List ℕ

-- the same of a write of bytes, with how many of them were taken
pub record BytesOutcome : Type 0 where
  pub used : ℕ
  pub outcome : Outcome

-- what a call returned and left
abbrev pub written_outcome : Written → List ℕ → Outcome
written_outcome r places =
    record { given = record { numbers = wrote_numbers r.answer; abandon = wrote_tells r.answer; next = r.next }; places = places }

abbrev pub bytes_outcome : WrittenBytes → List ℕ → BytesOutcome
bytes_outcome r places =
    record { used = r.used; outcome = written_outcome (record { answer = r.answer; next = r.next }) places }

abbrev pub answered_given : Answered → Given
answered_given r = record { numbers = answer_numbers r.answer; abandon = answer_tells r.answer; next = r.next }

-- ---- refusals
-- "1, 2, 7, 8, 9, 10 and a flush refused by 13 change nothing."
abbrev pub refused_by : ℕ → TextOutput → Given
refused_by n w = record { numbers = n ∷ []; abandon = false; next = w }

-- "The others return the writer to its after-newline state and tell the caller to abandon.": the number with its values
abbrev pub abandoned_by : List ℕ → TextOutput → Given
abandoned_by numbers w = record { numbers = numbers; abandon = true; next = after_newline w }
