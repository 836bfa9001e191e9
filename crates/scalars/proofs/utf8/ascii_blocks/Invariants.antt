-- The blocks from the place at hand on are left, and all bytes before it are below 80.
use Rattle.common.proofs.Chunks.{Left}
use Rattle.scalars.specs.Inner.{AsciiTo}
use Rattle.scalars.proofs.utf8.ascii_blocks.Given as goal

abbrev pub invariant-loop-block : goal.invariant-loop-block
invariant-loop-block l =
    record { left : Left l.bytes l.end l.stop l.size l.block-iterator; done : AsciiTo l.bytes l.from l.stop l.end }
