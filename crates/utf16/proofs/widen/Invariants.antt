-- What is left of the units, stored from the place at hand on, leads to the places that the whole leads to.
use Rattle.std.proofs.Common.{◌-◌, take, drop}
use Rattle.common.proofs.Storing.{Storing}
use Rattle.utf16.specs.Reading.{units_in}
use Rattle.utf16.proofs.widen.Given as goal

abbrev pub invariant-loop-j : goal.invariant-loop-j
invariant-loop-j l =
    Storing (take (l.end - l.from) (drop l.from (units_in l.order l.bytes))) l.initial.out l.k l.out l.j
