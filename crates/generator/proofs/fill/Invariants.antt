-- So many places are filled, and the state is the one after as many steps.
use Rattle.generator.proofs.Filling.{Filling}
use Rattle.generator.proofs.fill.Given as goal

abbrev pub invariant-loop-place : goal.invariant-loop-place
invariant-loop-place l = Filling l.state l.initial.out l.out l.at l.place-index
