-- A stretch of newlines and plain characters is copied where nothing is pending and no start is expected (proofs/Stretch.antt), and any
-- other character is a turn.
use Rattle.std.proofs.Common.{arith}
use Rattle.stretch.proofs.Parts.{part_length}
use Rattle.text_input_parts.proofs.Stored.{limit_fits}
use Rattle.text_input.proofs.Stretch.{keeps, kept_room, kept_moves, turn_moves}
use Rattle.text_input.proofs.TextInput.advance.Goals as goal

pub put_run_if-requires : goal.put_run_if-requires
put_run_if-requires c =
    let v = keeps c.args.self _ _ _ _ _ _ _ c.if-is_steady-is_sought.true c.is_steady.ensures c.ascii_or.ensures c.is_sought.ensures c.requires.gap c.plain_end-end.ensures in
    kept_room _ _ _ _ _ _ _ _ _ v c.requires.room

pub overflow_add-result : goal.overflow_add-result
overflow_add-result c =
    let a = c.args in
    let v = keeps a.self _ _ _ _ _ _ _ c.if-is_steady-is_sought.true c.is_steady.ensures c.ascii_or.ensures c.is_sought.ensures c.requires.gap c.plain_end-end.ensures in
    record {
      fits =
          omega (
            arith,
            kept_room _ _ _ _ _ a.stores a.queue.now _ _ v c.requires.room,
            limit_fits a.stores a.queue.now (omega (arith, c.well_formed)),
            part_length a.chunk.now a.i c.plain_end-end.result (omega (arith, v.more)) v.low,
            c.well_formed,
          );
    }

pub returns-then-is_steady-is_sought : goal.returns-then-is_steady-is_sought
returns-then-is_steady-is_sought c =
    let v = keeps c.args.self _ _ _ _ _ _ _ c.if-is_steady-is_sought.true c.is_steady.ensures c.ascii_or.ensures c.is_sought.ensures c.requires.gap c.plain_end-end.ensures in
    kept_moves _ _ _ _ _ _ _ _ _ v _ c.requires.gap _ c.passed.ensures _ c.put_run_if.ensures

pub returns-else-is_steady-is_sought : goal.returns-else-is_steady-is_sought
returns-else-is_steady-is_sought c =
    let t = c.turn-turned.ensures in
    turn_moves _ _ _ _ _ _ _ _ c.requires.more _ c.gap_after.ensures _ t.ran _ t.places
