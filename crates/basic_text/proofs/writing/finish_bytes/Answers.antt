-- The end in places of its own, moved behind those at hand.
use Rattle.std.proofs.Common.{[], zero-add, arith}
use Rattle.isolate_unassigned.specs.Inner.{last_owed}
use Rattle.text_output.specs.Step.{steps_of}
use Rattle.text_output_write.specs.Inner.{machine_at}
use Rattle.basic_text.proofs.Moved.{moved, moved_at, moved_few, finish_few}
use Rattle.basic_text.proofs.writing.finish_bytes.Goals as goal

pub finish-pushed-requires : goal.finish-pushed-requires
unfolding machine_at
finish-pushed-requires c =
    let a = c.args in
    record { sound = c.requires.sound; room = rw zero-add (finish_few a.mode (machine_at a.w a.escape.now) a.isolator c.requires.sound) }

pub move_behind-requires : goal.move_behind-requires
unfolding machine_at
move_behind-requires c =
    let a = c.args in
    let m = machine_at a.w a.escape.now in
    let last = steps_of a.mode m [] (last_owed a.isolator) in
    record {
      few = moved_few c.finish-pushed.result _ _ _ last c.finish-pushed.ensures (finish_few a.mode m a.isolator c.requires.sound);
      room = omega (arith, moved_at c.finish-pushed.result _ _ _ last c.finish-pushed.ensures, c.requires.room);
    }

pub returns : goal.returns
unfolding machine_at
returns c =
    let a = c.args in
    let m = machine_at a.w a.escape.now in
    let last = steps_of a.mode m [] (last_owed a.isolator) in
    record {
      steps =
          rw c.move_behind.ensures.moved
          (moved c.finish-pushed.result _ _ _ last c.finish-pushed.ensures (finish_few a.mode m a.isolator c.requires.sound) a.w.at _ _ c.move_behind.ensures.places);
      tail = c.move_behind.ensures.tail;
    }
