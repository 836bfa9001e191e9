-- What else each call leaves, refused or not: the corners of document 01, "Characters go out". What it leaves of kept characters stands in
-- Kept, what its refusals leave in Refusals.
use Rattle.std.specs.Prelude.{ℕ, ◌<◌, true, false, cond, ◌&&◌, List, [], ◌∷◌, ◌≡◌, eqb, ltb, length}
use Rattle.scalars.specs.Utf8.{encode_all, LongestPrefix}
use Rattle.text_utils.specs.Classes.{basic_text_end}
use Rattle.text_output.specs.declared.Ground.{Ground as Last}
use Rattle.text_output.specs.declared.Ground.TheVariants.{Newline, ZwjOrPrepend, Other}
use Rattle.text_output.specs.declared.State.{State}
use Rattle.text_output.specs.declared.State.TheVariants.{Ground}
use Rattle.text_output.specs.declared.Mode.{Mode}
use Rattle.text_output.specs.declared.TextOutput.{TextOutput}
use Rattle.text_output.specs.Writer.{Given, BytesOutcome}
use Rattle.text_output.specs.Step.{Stepped}
use Rattle.text_output.specs.Write.{write_str_of, write_of}
use Rattle.text_output.specs.Refusals.{refusal_in}
use Rattle.text_output.specs.Orders.{in_escape, lets_color, added}

-- ---- opening
-- "Each writer mode is opened by a constructor of its own": a record in that mode, after a newline, that expects a start and holds nothing
pub record Opens (mode : Mode) (w : TextOutput) : Type 0 where
  pub in_mode : w.mode ≡ mode
  pub expects : w.expect_starter ≡ true
  pub after_newline : (w.state ≡ Ground Newline) × (w.held ≡ 0)

-- ---- a write, of characters or of bytes
-- what a character says, where it stands last: "a newline", "a non-end", "another character"
abbrev pub said_by : ℕ → Last
said_by c = cond (eqb c 0x0A) Newline (cond (basic_text_end c) Other ZwjOrPrepend)

-- the state after some characters went out; s where there is none
abbrev pub said_last : State → List ℕ → State
said_last s [] = s
said_last s (c ∷ cs) = said_last (Ground (said_by c)) cs

-- of the writer, the write's steps, and what it returned
pub record WriteLeaves (w : TextOutput) (steps : Stepped) (wrote : Given) : Type 0 where
  -- "an empty write spends the expectation of a start.": every write that succeeds does
  pub spends : refusal_in wrote ≡ 0 → wrote.next.expect_starter ≡ false
  -- success does not tell the caller to abandon
  pub stays : refusal_in wrote ≡ 0 → wrote.abandon ≡ false
  -- after a success, outside an escape, the state is what the last added character says; as it was where none is added
  pub stands_last : refusal_in wrote ≡ 0 → in_escape wrote.next.state ≡ false → wrote.next.state ≡ said_last w.state (added steps)
  -- escapes are for color writers: another that is in none enters none
  pub no_escape : lets_color w.mode ≡ false → in_escape w.state ≡ false → in_escape wrote.next.state ≡ false
  pub same_mode : wrote.next.mode ≡ w.mode

-- "Byte writes take the longest valid prefix": so many bytes; none where it is refused
pub record Takes (bytes : List ℕ) (wrote : BytesOutcome) : Type 0 where
  pub all : refusal_in wrote.outcome.given ≡ 0 → (cs : List ℕ) → LongestPrefix bytes cs → wrote.used ≡ length (encode_all cs)
  pub none : 0 < refusal_in wrote.outcome.given → wrote.used ≡ 0

-- a write of bytes that 3 does not refuse, "a byte write, not empty, whose first byte begins no valid character", does what the write
-- of its longest valid prefix's characters does
abbrev pub WritesPrefix : TextOutput → List ℕ → List ℕ → List ℕ → Type 0
WritesPrefix w p bytes places =
    (cs : List ℕ) → LongestPrefix bytes cs → ltb 0 (length bytes) && eqb (length cs) 0 ≡ false →
    (write_of w p bytes places).outcome ≡ write_str_of w p cs places

-- ---- a flush and a close
pub record EndLeaves (w : TextOutput) (g : Given) : Type 0 where
  -- "a flush that succeeds expects a start again"; a close does too
  pub expects : refusal_in g ≡ 0 → g.next.expect_starter ≡ true
  pub stays : refusal_in g ≡ 0 → g.abandon ≡ false
  pub same_state : refusal_in g ≡ 0 → (g.next.state ≡ w.state) × (g.next.held ≡ w.held)
  pub same_mode : g.next.mode ≡ w.mode

-- ---- abandon
-- "abandon refuses nothing, leaves kept and expectation, and is after a newline."
pub record Abandons (w next : TextOutput) : Type 0 where
  pub expectation_stays : next.expect_starter ≡ w.expect_starter
  pub after_newline : (next.state ≡ Ground Newline) × (next.held ≡ 0)
  pub same_mode : next.mode ≡ w.mode
