-- A list of calls for which demand 3 holds, worked out: calls that are refused by 8, 2 and 1 among those that are accepted, what a
-- caller sees of each, the text and its reading, the queue, and the write and the close of it. It shows that the hypotheses of
-- `Demand3` can be met. The answers are those of the comparison's oracle, which is the original Rust with what the documents add.
-- Characters are hexadecimal.
use Rattle.std.specs.Prelude.{ℕ, true, false, List, [], ◌∷◌, ◌++◌, ◌≡◌}
use Rattle.text_input.specs.declared.State.{State}
use Rattle.text_input.specs.declared.State.TheVariants.{Ground, Cr}
use Rattle.text_input.specs.declared.TextInput.{TextInput}
use Rattle.text_input.specs.Scan.{Outcome, fresh}
use Rattle.text_input.specs.Pieces.{Piece, line_end, other, Reading, cleaned}
use Rattle.page.specs.Page.{accepted}
use Rattle.text_output.specs.declared.Mode.TheVariants.{Plain}
use Rattle.text_output.specs.Writer.{Outcome as Wrote, Given, fresh as freshWriter}
use Rattle.text_output.specs.Write.{write_str_of}
use Rattle.text_output.specs.Close.{close_of}
use Rattle.text_output.specs.Passing.{Passes}
use Rattle.one_reading.specs.Calls.{scan, commit, Call, chunk_by, finish, Seen, queue_of, record_after, accepted_calls, text_of, FinishedOnce}
use Rattle.one_reading.specs.Demand.{NoneExcepted, Promise}
use Rattle.one_reading.specs.Cases.{page, options, lent}

-- ---- the calls
-- "A refused call may bring any page, options, chunk and room"
unfoldable pub calls : List Call
calls =
    -- two characters need seven places: refused by 8
    chunk_by scan page options (0xFEFF ∷ 0x0D ∷ []) (lent 1)
    -- a page that is a number short, and other options: refused by 2
    ∷ chunk_by scan (0 ∷ 1 ∷ 0 ∷ []) (record { nel_compatibility = true; lsps_compatibility = true; units_compatibility = true }) (0xFEFF ∷ 0x0D ∷ []) (lent 7)
    -- the first accepted call: FEFF is dropped, and 0D waits
    ∷ chunk_by scan page options (0xFEFF ∷ 0x0D ∷ []) (lent 7)
    -- D800 is no character: refused by 1
    ∷ chunk_by scan page options (0xD800 ∷ []) (lent 4)
    -- a finish needs two places: refused by 8
    ∷ finish true (lent 1)
    -- after 0D the chunk 0A 61 fills two places: a commit into one is refused by 8
    ∷ chunk_by commit page options (0x0A ∷ 0x61 ∷ []) (lent 1)
    -- .. and into two it is taken: 0D 0A is one line end
    ∷ chunk_by commit page options (0x0A ∷ 0x61 ∷ []) (lent 2)
    ∷ finish true (lent 2)
    ∷ []

-- ---- what a caller sees
-- a record that has had a scan, and expects a start
abbrev pub after : State → ℕ → ℕ → TextInput
after state last count =
    record { state = state; expect_starter = true; at_start = false; last = last; count = count }

unfoldable pub seen : List Outcome
seen =
    record { numbers = 8 ∷ []; next = fresh; places = lent 1 }
    ∷ record { numbers = 2 ∷ []; next = fresh; places = lent 7 }
    ∷ record { numbers = 0 ∷ 0 ∷ []; next = after Cr 0x0A 2; places = lent 7 }
    ∷ record { numbers = 1 ∷ []; next = after Cr 0x0A 2; places = lent 4 }
    ∷ record { numbers = 8 ∷ []; next = after Cr 0x0A 2; places = lent 1 }
    ∷ record { numbers = 8 ∷ []; next = after Cr 0x0A 2; places = lent 1 }
    ∷ record {
      numbers = 0 ∷ 2 ∷ [];
      next = record { state = Ground false; expect_starter = false; at_start = false; last = 0x61; count = 4 };
      places = 0x0A ∷ 0x61 ∷ [];
    }
    ∷ record { numbers = 0 ∷ 1 ∷ []; next = after (Ground true) 0x0A 4; places = 0x0A ∷ lent 1 }
    ∷ []

-- ---- the text, its reading and the queue
abbrev pub text : List ℕ
text = 0x0D ∷ 0x0A ∷ 0x61 ∷ []

abbrev pub pieces : List Piece
pieces = record { kind = line_end; text = 0x0D ∷ 0x0A ∷ [] } ∷ record { kind = other; text = 0x61 ∷ [] } ∷ []

abbrev pub queue : List ℕ
queue = 0x0A ∷ 0x61 ∷ 0x0A ∷ []

-- ---- the write of the queue on a fresh plain writer with 3 × 3 places, and the close on the record that it returned
unfoldable pub wrote : Wrote
wrote = write_str_of (freshWriter Plain) page queue (lent 9)

unfoldable pub closed : Given
closed = close_of wrote.given.next

-- ---- THE EXAMPLE
pub record Worked : Type 0 where
  -- the hypotheses of demand 3
  pub good : accepted page ≡ true
  pub once : FinishedOnce page options (accepted_calls calls)
  pub saw : Seen fresh calls seen
  pub none : NoneExcepted options (queue_of seen)
  -- what it then says
  pub promise : Promise page options calls (queue_of seen) (record_after fresh seen)
  -- and the same, computed
  pub text_is : text_of calls ≡ text
  pub reading : Reading options text pieces
  pub image : cleaned page options pieces ≡ queue
  pub queue_is : queue_of seen ≡ queue
  pub count : (record_after fresh seen).count ≡ 4
  -- the writer hands the queue out as it is, since all of it is assigned, and closes
  pub passes : Passes queue wrote closed
  pub number : wrote.given.numbers ≡ 0 ∷ 3 ∷ []
  pub places : wrote.places ≡ queue ++ lent 6
  pub closes : closed.numbers ≡ []
