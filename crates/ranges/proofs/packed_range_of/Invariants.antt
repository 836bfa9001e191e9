-- The loop is the search of Search.antt, on the lists that the numbers stand for.
use Rattle.std.proofs.Common.{◌-◌, length}
use Rattle.ranges.specs.Packed.{firsts_in, lasts_in}
use Rattle.ranges.proofs.Search.{Between}
use Rattle.ranges.proofs.packed_range_of.Given as goal

abbrev pub invariant-loop-lo : goal.invariant-loop-lo
invariant-loop-lo l = Between (firsts_in l.packed) (lasts_in l.packed) l.c (length l.packed) l.lo l.hi

abbrev pub decreases-loop-lo : goal.decreases-loop-lo
decreases-loop-lo l = l.hi - l.lo
