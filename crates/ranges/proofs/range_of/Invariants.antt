-- The loop is the search of Search.antt, on the lists as they are lent.
use Rattle.std.proofs.Common.{◌-◌, length}
use Rattle.ranges.proofs.Search.{Between}
use Rattle.ranges.proofs.range_of.Given as goal

abbrev pub invariant-loop-lo : goal.invariant-loop-lo
invariant-loop-lo l = Between l.firsts l.lasts l.c (length l.firsts) l.lo l.hi

abbrev pub decreases-loop-lo : goal.decreases-loop-lo
decreases-loop-lo l = l.hi - l.lo
