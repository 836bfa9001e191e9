-- The bytes of the characters before the place at hand are stored.
use Rattle.std.proofs.Common.{◌+◌, ◌-◌, length}
use Rattle.utf16.proofs.Putting.{Putting}
use Rattle.utf16.proofs.put_chars.Given as goal

abbrev pub invariant-loop-i : goal.invariant-loop-i
invariant-loop-i l = Putting l.order l.chars l.initial.out 0 0 l.out l.at l.i

abbrev pub decreases-loop-i : goal.decreases-loop-i
decreases-loop-i l = length l.chars - l.i

abbrev pub invariant-loop-c : goal.invariant-loop-c
invariant-loop-c l = Putting l.order l.chars l.initial.out l.initial.at l.end l.out l.at (l.end + l.c-index)
