-- `blocks` meets its contract: a block is taken as long as all of it are sought.
use Rattle.std.proofs.Common.{◌≡◌, true, arith}
use Rattle.common.proofs.Chunks.{turn}
use Rattle.stretch.specs.Stretch.{in_sought}
use Rattle.stretch.proofs.Seeking.{one_more}
use Rattle.stretch.proofs.blocks.Goals as goal

pub loop-part-preserved : goal.loop-part-preserved
loop-part-preserved c =
    let l = c.loop-part.invariant in
    let t = turn _ _ _ _ _ l.left c.in-Some.part c.next.new.self c.in-Some.ensures.steps in
    record {
      left = t.0;
      done = one_more _ _ _ _ _ l.done (omega arith) t.0.low (t.1 (λ x. in_sought c.args.sought x ≡ true) (c.block.ensures c.if-not-block.false));
    }
