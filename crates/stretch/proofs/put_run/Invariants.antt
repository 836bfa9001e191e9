-- At the head of the loop what is left of the run, stored from the place at hand on, leads to the places that the whole leads to.
use Rattle.common.proofs.Storing.{Storing}
use Rattle.stretch.proofs.put_run.Given as goal

abbrev pub invariant-loop-j : goal.invariant-loop-j
invariant-loop-j l = Storing l.run l.fn.out l.at l.out l.j
