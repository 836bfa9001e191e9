-- What is left of the numbers, stored from the place at hand on, leads to what all of them lead to.
use Rattle.common.proofs.Storing.{Storing}
use Rattle.basic_text.specs.Exports.{numbers_of}
use Rattle.basic_text.proofs.numbers.read_numbers.Given as goal

abbrev pub invariant-loop-i : goal.invariant-loop-i
invariant-loop-i l = Storing (numbers_of l.bytes) l.fn.out 0 l.out l.i
