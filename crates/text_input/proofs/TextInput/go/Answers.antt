use Rattle.std.proofs.Common.{arith}
use Rattle.stretch.proofs.Way.{begin}
use Rattle.text_input.proofs.Loop.{left, moved, gone}
use Rattle.text_input.proofs.TextInput.go.Goals as goal

pub loop-moved-init : goal.loop-moved-init
loop-moved-init c = (begin _ _ _ _ _ (omega arith), c.first_gap.ensures)

pub advance-moved-requires-clause-room : goal.advance-moved-requires-clause-room
advance-moved-requires-clause-room c = left c.args.stores _ _ _ _ _ _ _ _ _ c.loop-moved.invariant.0 c.requires.chunk_len_bound

pub loop-moved-preserved : goal.loop-moved-preserved
loop-moved-preserved c =
    let v = c.advance-moved.ensures in
    (moved _ _ _ _ _ _ _ _ _ _ c.loop-moved.invariant.0 _ _ v, v.gap)

pub returns : goal.returns
returns c =
    let r = gone c.args.stores _ _ _ _ _ _ _ _ _ c.loop-moved.invariant.0 c.loop-moved-test.false in
    record { ran = r.0; places = r.1 }
