-- `plain_end` meets its contract: a block is taken as long as its bytes are plain.
use Rattle.std.proofs.Common.{◌≡◌, ◌+◌, ◌*◌, true, arith}
use Rattle.common.proofs.Chunks.{turn}
use Rattle.utf16.specs.Inner.{plain_byte}
use Rattle.utf16.proofs.Stretches.{to_more}
use Rattle.utf16.proofs.plain_end.Goals as goal

pub loop-block-preserved : goal.loop-block-preserved
loop-block-preserved c =
    let l = c.loop-block.invariant in
    let e : 2 * (c.loop-block.end + 16) ≡ 2 * c.loop-block.end + 32 = omega arith in
    let t = turn _ _ _ _ _ l.left c.in-Some.block c.next.new.self c.in-Some.ensures.steps in
    record {
      left = rw e t.0;
      done = to_more _ _ _ 16 (λ i. omega (arith, c.type_inv.bytes i)) l.done (omega (arith, t.0.low))
          (t.1 (λ b. plain_byte b ≡ true) (c.is_plain_block.ensures c.if-not-is_plain_block.false));
    }
