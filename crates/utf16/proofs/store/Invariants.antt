-- The characters of the units before the place at hand are stored.
use Rattle.std.proofs.Common.{◌-◌}
use Rattle.utf16.specs.Reading.{units_in}
use Rattle.utf16.proofs.Stored.{Stored}
use Rattle.utf16.proofs.store.Given as goal

abbrev pub invariant-loop-i : goal.invariant-loop-i
invariant-loop-i l = Stored (units_in l.order l.bytes) l.initial.out 0 0 l.out l.k l.i

abbrev pub decreases-loop-i : goal.decreases-loop-i
decreases-loop-i l = l.n - l.i

abbrev pub invariant-loop-j : goal.invariant-loop-j
invariant-loop-j l = Stored (units_in l.order l.bytes) l.initial.out l.initial.k l.end l.out l.k l.j
