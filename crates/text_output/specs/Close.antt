-- Flush, close and abandon. Document 01, "Characters go out" and "Refused because of the state".
use Rattle.std.specs.Prelude.{true, false, cond, [], ◌∷◌}
use Rattle.text_output.specs.declared.Ground.TheVariants.{Newline, ZwjOrPrepend, Other}
use Rattle.text_output.specs.declared.State.{State}
use Rattle.text_output.specs.declared.State.TheVariants.{Ground, Esc, Csi}
use Rattle.text_output.specs.declared.TextOutput.{TextOutput}
use Rattle.text_output.specs.Writer.{Given, machine_of, writer_with, sound, after_newline, refused_by, abandoned_by}

-- a start is expected
abbrev pub expecting : TextOutput → TextOutput
expecting w = writer_with w.mode true w.kept (machine_of w)

-- accepted, with the record after
abbrev pub done : TextOutput → Given
done w = record { numbers = []; abandon = false; next = w }

-- "11 flush or close after a non-end", which leaves the expectation. "13 flush or close inside an escape": a flush then changes
-- nothing. "a flush that succeeds expects a start again"
abbrev pub flush_in : State → TextOutput → Given
flush_in (Ground Newline) w = done (expecting w)
flush_in (Ground ZwjOrPrepend) w = abandoned_by (11 ∷ []) w
flush_in (Ground Other) w = done (expecting w)
flush_in Esc w = refused_by 13 w
flush_in Csi w = refused_by 13 w

-- "Flush and close test 9, then the state"
unfoldable pub flush_of : TextOutput → Given
flush_of w = cond (sound (machine_of w)) (flush_in w.state w) (refused_by 9 w)

-- "12 close after another character that is no newline"; "close sets it again, refused or not": but by 9, which changes nothing
abbrev pub close_in : State → TextOutput → Given
close_in (Ground Newline) w = done (expecting w)
close_in (Ground ZwjOrPrepend) w = abandoned_by (11 ∷ []) (expecting w)
close_in (Ground Other) w = abandoned_by (12 ∷ []) (expecting w)
close_in Esc w = abandoned_by (13 ∷ []) (expecting w)
close_in Csi w = abandoned_by (13 ∷ []) (expecting w)

unfoldable pub close_of : TextOutput → Given
close_of w = cond (sound (machine_of w)) (close_in w.state w) (refused_by 9 w)

-- "abandon refuses nothing, leaves kept and expectation, and is after a newline"
unfoldable pub abandon_of : TextOutput → TextOutput
abandon_of w = after_newline w
