-- The form of the tables of calls: a row is a list of calls on a fresh writer, each with what it tells. The answers are those of the
-- comparison's oracle, which is the original Rust with what document 01 adds; that the definitions give the same, character by character
-- of what is handed out or kept, is computed. Writes of bytes are not among the calls: their definition looks through all characters,
-- which is too much to compute.
--     Act, write, flush, close, abandon, claim    a call, or a claim
--     Told, told                                  what a call tells
--     Line, gives                                 a call, and what it tells
--     Row                                         a mode, a page and such lines
--     expected, computed                          what a row says, and what the definitions give
use Prim.Native.Nat.{ℕ}
use mathlib.Core.Bool.{Bool, cond}
use mathlib.Core.List.{List, [], ◌∷◌, ◌++◌}
use lib.ListN.{take, drop, replicate}
use Rattle.text_output.specs.declared.Ground.TheVariants.{Newline, ZwjOrPrepend, Other}
use Rattle.text_output.specs.declared.State.{State}
use Rattle.text_output.specs.declared.State.TheVariants.{Ground, Esc, Csi}
use Rattle.text_output.specs.declared.Mode.{Mode}
use Rattle.text_output.specs.declared.TextOutput.{TextOutput}
use Rattle.text_output.specs.Writer.{Given, Outcome, writer_with, fresh}
use Rattle.text_output.specs.Write.{write_str_of}
use Rattle.text_output.specs.Close.{done, flush_of, close_of, abandon_of}
use Rattle.text_output.specs.Refusals.{filled_in}

-- ---- a row
-- a call: a write brings so many of the places that live with the writer, and characters; or, between two calls, the record claims
-- so many held
pub data Act : Type 0 where
  write : ℕ → List ℕ → Act
  flush close abandon : Act
  claim : ℕ → Act

-- what a call tells: its numbers; whether the caller is to abandon, the state's number, the expectation and the held count; the
-- characters handed out or kept
pub data Told : Type 0 where
  told : List ℕ → List ℕ → List ℕ → Told

pub data Line : Type 0 where
  ◌gives◌ : Act → Told → Line

infix 80 ◌gives◌
pub record Row : Type 0 where
  pub mode : Mode
  pub page : List ℕ
  pub calls : List Line

-- ---- what its calls tell
abbrev told_in : List Line → List Told
told_in [] = []
told_in (a gives t ∷ more) = t ∷ told_in more

abbrev pub expected : Row → List Told
expected row = told_in row.calls

-- 0 after a newline, 1 after a non-end, 2 other, 3 after ESC, 4 after ESC `[`
abbrev state_number : State → ℕ
state_number (Ground Newline) = 0
state_number (Ground ZwjOrPrepend) = 1
state_number (Ground Other) = 2
state_number Esc = 3
state_number Csi = 4

abbrev flag : Bool → ℕ
flag b = cond b 1 0

abbrev tell : Given → List ℕ → Told
tell g places =
    told g.numbers
    (flag g.abandon ∷ state_number g.next.state ∷ flag g.next.expect_starter ∷ g.next.held ∷ [])
    (take (filled_in g) places)

abbrev claiming : TextOutput → ℕ → TextOutput
claiming w n = writer_with w.mode w.expect_starter w.kept (record { state = w.state; held = n; escape = w.escape_sequence })

-- a call on a writer and its places
abbrev act : List ℕ → TextOutput → List ℕ → Act → Outcome
act p w places (write room chars) =
    record {
      given = (write_str_of w p chars (take room places)).given;
      places = (write_str_of w p chars (take room places)).places ++ drop room places;
    }
act p w places flush = record { given = flush_of w; places = places }
act p w places close = record { given = close_of w; places = places }
act p w places abandon = record { given = done (abandon_of w); places = places }
act p w places (claim n) = record { given = done (claiming w n); places = places }

abbrev acted : List ℕ → TextOutput → List ℕ → List Line → List Told
acted p w places [] = []
acted p w places (a gives t ∷ more) =
    tell (act p w places a).given (act p w places a).places
    ∷ acted p (act p w places a).given.next (act p w places a).places more

abbrev pub computed : Row → List Told
computed row = acted row.page (fresh row.mode) (replicate 200 0xEEEEEEEE) row.calls
