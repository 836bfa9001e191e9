-- 34F, where it is put, and behind it the step at 1A, which stops.
use Rattle.std.proofs.Common.{[], ap, ◌∙◌, arith}
use Rattle.common.proofs.Kit.{err_is}
use Rattle.check_char.specs.Check.{reason_numbers}
use Rattle.isolate_unassigned.specs.Meaning.{joiner}
use Rattle.text_output.specs.Writer.{Machine}
use Rattle.text_output.specs.Step.{write_step_of, steps_of}
use Rattle.text_output_write.specs.Inner.{machine_at}
use Rattle.text_output_write.proofs.Rest.{steps_joined}
use Rattle.text_output_write.proofs.Turns.{stop_stored}
use Rattle.text_output_write.proofs.Progress.{on_then, off_then, first_fits}
use Rattle.text_output_write.proofs.run.stop_isolated.Goals as goal

pub push_joiner-requires-clause-room : goal.push_joiner-requires-clause-room
push_joiner-requires-clause-room c =
    let a = c.args in
    let m = machine_at a.w a.escape.now in
    let error = reason_numbers a.kept.error in
    let room = rw (steps_joined a.mode a.put m error 0x1A) at c.requires.room in
    omega (arith, room, first_fits (steps_of a.mode m [] (joiner a.put)) (λ (next : Machine). write_step_of a.mode next error 0x1A))

pub returns-in_err-place : goal.returns-in_err-place
returns-in_err-place c =
    let a = c.args in
    let m = machine_at a.w a.escape.now in
    let error = reason_numbers a.kept.error in
    rw (err_is _ _ c.from_residual.ensures.1, steps_joined a.mode a.put m error 0x1A)
    (off_then a.w.at a.out.now (λ (next : Machine). write_step_of a.mode next error 0x1A) (steps_of a.mode m [] (joiner a.put)) _ _ _ (rw c.in_err-place.was at c.push_joiner.ensures))

pub returns : goal.returns
returns c =
    let a = c.args in
    let m = machine_at a.w a.escape.now in
    let error = reason_numbers a.kept.error in
    rw (steps_joined a.mode a.put m error 0x1A)
    (stop_stored a.mode _ _ _ error c.stop_in-stop.result (rw (← ap reason_numbers c.unwrap_err.ensures) at c.stop_in-stop.ensures)
    ∙ on_then a.w.at a.out.now (λ (next : Machine). write_step_of a.mode next error 0x1A) (steps_of a.mode m [] (joiner a.put)) _ _ _ (rw c.in_ok-place.was at c.push_joiner.ensures))
