-- What goes over as a number comes back as it was: the two tables for flags, states and modes agree.
--     flag_back           a flag's number, read again
--     state_back          that of a scanner's state
--     mode_back           that of a writer's mode
--     writer_state_back   that of a writer's state
use mathlib.Core.Path.{◌≡◌, refl}
use mathlib.Core.Bool.{Bool, true, false}
use Rattle.text_input.specs.declared.State.{State}
use Rattle.text_input.specs.declared.State.TheVariants.{Ground, Cr, Ff, Esc, CsiStart, Csi, Osc, Linux}
use Rattle.text_output.specs.declared.Mode.{Mode}
use Rattle.text_output.specs.declared.Mode.TheVariants.{Plain, Crlf, Color}
use Rattle.text_output.specs.declared.Ground.TheVariants.{Newline, ZwjOrPrepend, Other}
use Rattle.text_output.specs.declared.State.{State as WriterState}
use Rattle.text_output.specs.declared.State.TheVariants.{Ground as Grounded, Esc as InEsc, Csi as InCsi}
use Rattle.basic_text_numbers.specs.Numbers.{flag, flag_number, state_of, state_number, mode_of, mode_number, writer_state_of, writer_state_number}

pub flag_back : (b : Bool) → flag (flag_number b) ≡ b
flag_back true = refl
flag_back false = refl

pub state_back : (s : State) → state_of (state_number s) ≡ s
state_back (Ground true) = refl
state_back (Ground false) = refl
state_back Cr = refl
state_back Ff = refl
state_back Esc = refl
state_back CsiStart = refl
state_back Csi = refl
state_back Osc = refl
state_back Linux = refl

pub mode_back : (m : Mode) → mode_of (mode_number m) ≡ m
mode_back Plain = refl
mode_back Crlf = refl
mode_back Color = refl

pub writer_state_back : (s : WriterState) → writer_state_of (writer_state_number s) ≡ s
writer_state_back (Grounded Newline) = refl
writer_state_back (Grounded ZwjOrPrepend) = refl
writer_state_back (Grounded Other) = refl
writer_state_back InEsc = refl
writer_state_back InCsi = refl
