-- The blocks from the place at hand on are left, and every character before it has one unit.
use Rattle.std.proofs.Common.{length}
use Rattle.common.proofs.Chunks.{Left}
use Rattle.utf16.specs.Inner.{OneUnitTo}
use Rattle.utf16.proofs.short_end.Given as goal

abbrev pub invariant-loop-block : goal.invariant-loop-block
invariant-loop-block l =
    record { left : Left l.chars l.end (length l.chars) 16 l.block-iterator; done : OneUnitTo l.chars l.from l.end }
