-- The blocks from the place at hand on are left, and no unit before it is a surrogate.
use Rattle.std.proofs.Common.{◌*◌, length}
use Rattle.common.proofs.Chunks.{Left}
use Rattle.utf16.specs.Inner.{PlainTo}
use Rattle.utf16.proofs.plain_end.Given as goal

abbrev pub invariant-loop-block : goal.invariant-loop-block
invariant-loop-block l =
    record { left : Left l.bytes (2 * l.end) (length l.bytes) 32 l.block-iterator; done : PlainTo l.bytes l.from l.end }
