-- The bytes of what is left of the run, stored from the place at hand on, lead to the places that those of the whole lead to.
use Rattle.std.proofs.Common.{◌-◌, take, drop}
use Rattle.utf16.proofs.Runs.{StoringUnits}
use Rattle.utf16.proofs.put_short.Given as goal

abbrev pub invariant-loop-j : goal.invariant-loop-j
invariant-loop-j l =
    StoringUnits l.order (take (l.end - l.from) (drop l.from l.chars)) l.initial.out l.at l.out l.j
