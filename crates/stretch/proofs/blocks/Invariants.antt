-- The blocks from the place at hand on are left, and all before it are sought.
use Rattle.std.proofs.Common.{length}
use Rattle.common.proofs.Chunks.{Left}
use Rattle.stretch.specs.Stretch.{Stretch}
use Rattle.stretch.proofs.blocks.Given as goal

abbrev pub invariant-loop-part : goal.invariant-loop-part
invariant-loop-part l =
    record { left : Left l.s l.end (length l.s) 16 l.part-iterator; done : Stretch l.sought l.s l.from l.end }
