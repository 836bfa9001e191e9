-- `short_end` meets its contract: a block is taken as long as each of its characters has one unit.
use Rattle.std.proofs.Common.{◌<◌}
use Rattle.common.proofs.Chunks.{turn}
use Rattle.utf16.proofs.Stretches.{short_more}
use Rattle.utf16.proofs.short_end.Goals as goal

pub loop-block-preserved : goal.loop-block-preserved
loop-block-preserved c =
    let l = c.loop-block.invariant in
    let t = turn _ _ _ _ _ l.left c.in-Some.block c.next.new.self c.in-Some.ensures.steps in
    record {
      left = t.0;
      done = short_more _ _ _ 16 l.done t.0.low (t.1 (λ u. u < 0x10000) (c.is_short_block.ensures c.if-not-is_short_block.false));
    }
