-- All characters before the one at hand are allowed, and the gap is one.
use Rattle.std.proofs.Common.{◌-◌, length}
use Rattle.check_run.proofs.Allowed.{Going}
use Rattle.check_run.proofs.allowed_end.Given as goal

abbrev pub invariant-loop-i : goal.invariant-loop-i
invariant-loop-i l = Going l.run l.gap l.i

abbrev pub decreases-loop-i : goal.decreases-loop-i
decreases-loop-i l = length l.run - l.i
