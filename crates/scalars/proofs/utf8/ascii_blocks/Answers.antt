-- `ascii_blocks` meets its contract: a block is taken as long as its bytes are below 80.
use Rattle.std.proofs.Common.{◌<◌, arith}
use Rattle.common.proofs.Chunks.{turn}
use Rattle.scalars.proofs.Ascii.{to_more}
use Rattle.scalars.proofs.utf8.ascii_blocks.Goals as goal

pub loop-block-preserved : goal.loop-block-preserved
loop-block-preserved c =
    let l = c.loop-block.invariant in
    let t = turn _ _ _ _ _ l.left c.in-Some.block c.next.new.self c.in-Some.ensures.steps in
    record {
      left = t.0;
      done = to_more _ _ _ _ _ l.done (omega arith) t.0.low (t.1 (λ b. b < 0x80) (c.ascii_block.ensures c.if-not-ascii_block.false));
    }
