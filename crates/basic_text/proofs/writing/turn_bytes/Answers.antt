-- The turn into 67 places of its own, moved behind those at hand.
use Rattle.std.proofs.Common.{zero-add, arith}
use Rattle.text_output_write.specs.Inner.{machine_at, turn_of}
use Rattle.basic_text.proofs.Moved.{moved, moved_at, moved_few, turn_few}
use Rattle.basic_text.proofs.writing.turn_bytes.Goals as goal

pub turn-turned-requires : goal.turn-turned-requires
unfolding machine_at
turn-turned-requires c =
    let a = c.args in
    record {
      page = c.requires.page;
      sound = c.requires.sound;
      room = rw zero-add (turn_few a.mode a.page.now (machine_at a.w a.escape.now) a.isolator a.c c.requires.sound);
    }

pub move_behind-requires : goal.move_behind-requires
unfolding machine_at
move_behind-requires c =
    let a = c.args in
    let m = machine_at a.w a.escape.now in
    let turn = turn_of a.mode a.page.now m a.isolator a.c in
    record {
      few = moved_few c.turn-turned.result.pushed _ _ _ turn c.turn-turned.ensures.out_after (turn_few a.mode a.page.now m a.isolator a.c c.requires.sound);
      room = omega (arith, moved_at c.turn-turned.result.pushed _ _ _ turn c.turn-turned.ensures.out_after, c.requires.room);
    }

pub returns : goal.returns
unfolding machine_at
returns c =
    let a = c.args in
    let m = machine_at a.w a.escape.now in
    let turn = turn_of a.mode a.page.now m a.isolator a.c in
    record {
      steps =
          rw c.move_behind.ensures.moved
          (moved c.turn-turned.result.pushed _ _ _ turn c.turn-turned.ensures.out_after (turn_few a.mode a.page.now m a.isolator a.c c.requires.sound) a.w.at _ _ c.move_behind.ensures.places);
      isolator = c.turn-turned.ensures.isolator_value;
      tail = c.move_behind.ensures.tail;
    }
