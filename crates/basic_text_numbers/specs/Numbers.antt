-- Flags, states and modes as plain numbers. Document 01 leaves open which number stands for which.
use Rattle.std.specs.Prelude.{ℕ, Bool, true, false, cond, not, eqb}
use Rattle.text_input.specs.declared.State.{State}
use Rattle.text_input.specs.declared.State.TheVariants.{Ground, Cr, Ff, Esc, CsiStart, Csi, Osc, Linux}
use Rattle.text_output.specs.declared.Mode.{Mode}
use Rattle.text_output.specs.declared.Mode.TheVariants.{Plain, Crlf, Color}
use Rattle.text_output.specs.declared.Ground.TheVariants.{Newline, ZwjOrPrepend, Other}
use Rattle.text_output.specs.declared.State.{State as WriterState}
use Rattle.text_output.specs.declared.State.TheVariants.{Ground as Grounded, Esc as InEsc, Csi as InCsi}

-- ---- flags
-- 0 is false, and any other number true
abbrev pub flag : ℕ → Bool
flag n = not (eqb n 0)

-- a flag's number
abbrev pub flag_number : Bool → ℕ
flag_number b = cond b 1 0

-- ---- the scanner
-- the states by number; a number past the last is read as 0
abbrev pub state_of : ℕ → State
state_of n =
    cond (eqb n 1) (Ground true)
    (cond (eqb n 2) Cr
    (cond (eqb n 3) Ff
    (cond (eqb n 4) Esc
    (cond (eqb n 5) CsiStart
    (cond (eqb n 6) Csi
    (cond (eqb n 7) Osc
    (cond (eqb n 8) Linux (Ground false))))))))

-- a state's number
abbrev pub state_number : State → ℕ
state_number (Ground line) = flag_number line
state_number Cr = 2
state_number Ff = 3
state_number Esc = 4
state_number CsiStart = 5
state_number Csi = 6
state_number Osc = 7
state_number Linux = 8

-- ---- the writer
-- the modes by number; a number past the last is read as 0
abbrev pub mode_of : ℕ → Mode
mode_of n = cond (eqb n 1) Crlf (cond (eqb n 2) Color Plain)

-- a mode's number
abbrev pub mode_number : Mode → ℕ
mode_number Plain = 0
mode_number Crlf = 1
mode_number Color = 2

-- the states by number: 0 after a newline, 1 after a non-end, 2 after another, 3 and 4 in an escape; a number past the last is read
-- as 0
abbrev pub writer_state_of : ℕ → WriterState
writer_state_of n =
    cond (eqb n 1) (Grounded ZwjOrPrepend)
    (cond (eqb n 2) (Grounded Other)
    (cond (eqb n 3) InEsc
    (cond (eqb n 4) InCsi (Grounded Newline))))

-- a state's number
abbrev pub writer_state_number : WriterState → ℕ
writer_state_number (Grounded Newline) = 0
writer_state_number (Grounded ZwjOrPrepend) = 1
writer_state_number (Grounded Other) = 2
writer_state_number InEsc = 3
writer_state_number InCsi = 4
