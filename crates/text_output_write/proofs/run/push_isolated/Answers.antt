-- The two functions one behind the other do what the run of both does.
use Rattle.std.proofs.Common.{[], ◌∙◌, arith}
use Rattle.common.proofs.Kit.{err_is}
use Rattle.isolate_unassigned.specs.Meaning.{joiner}
use Rattle.text_output.specs.Writer.{Machine}
use Rattle.text_output.specs.Step.{write_step_of, steps_of}
use Rattle.text_output_write.specs.Inner.{machine_at}
use Rattle.text_output_write.proofs.Rest.{steps_joined}
use Rattle.text_output_write.proofs.Stays.{steps_stay}
use Rattle.text_output_write.proofs.Progress.{on_then, off_then, first_fits, next_sound, next_room}
use Rattle.text_output_write.proofs.run.push_isolated.Goals as goal

pub push_joiner-requires-clause-room : goal.push_joiner-requires-clause-room
push_joiner-requires-clause-room c =
    let a = c.args in
    let m = machine_at a.w a.escape.now in
    let room = rw (steps_joined a.mode a.put m [] a.c) at c.requires.room in
    omega (arith, room, first_fits (steps_of a.mode m [] (joiner a.put)) (λ (next : Machine). write_step_of a.mode next [] a.c))

pub returns-in_err-next : goal.returns-in_err-next
returns-in_err-next c =
    let a = c.args in
    let m = machine_at a.w a.escape.now in
    rw (err_is _ _ c.from_residual.ensures.1, steps_joined a.mode a.put m [] a.c)
    (off_then a.w.at a.out.now (λ (next : Machine). write_step_of a.mode next [] a.c) (steps_of a.mode m [] (joiner a.put)) _ _ _ (rw c.in_err-next.was at c.push_joiner.ensures))

pub push-requires-clause-sound : goal.push-requires-clause-sound
push-requires-clause-sound c =
    let a = c.args in
    let m = machine_at a.w a.escape.now in
    next_sound a.w a.escape.now a.out.now (steps_of a.mode m [] (joiner a.put)) _ (steps_stay a.mode (joiner a.put) m [] c.requires.sound) _ _ _ (rw c.in_ok-next.was at c.push_joiner.ensures)

pub push-requires-clause-room : goal.push-requires-clause-room
push-requires-clause-room c =
    let a = c.args in
    let m = machine_at a.w a.escape.now in
    next_room a.w a.escape.now a.out.now (steps_of a.mode m [] (joiner a.put)) _ (steps_stay a.mode (joiner a.put) m [] c.requires.sound) _ _ _ (rw c.in_ok-next.was at c.push_joiner.ensures)
    (λ (next : Machine). write_step_of a.mode next [] a.c) (rw (steps_joined a.mode a.put m [] a.c) at c.requires.room)

pub returns : goal.returns
returns c =
    let a = c.args in
    let m = machine_at a.w a.escape.now in
    rw (steps_joined a.mode a.put m [] a.c)
    (c.push.ensures ∙ on_then a.w.at a.out.now (λ (next : Machine). write_step_of a.mode next [] a.c) (steps_of a.mode m [] (joiner a.put)) _ _ _ (rw c.in_ok-next.was at c.push_joiner.ensures))
