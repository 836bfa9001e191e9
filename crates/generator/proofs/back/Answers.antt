-- `generator::back` meets its contract: modulo 2^32 of the difference first, and then of the product, is modulo 2^32 of all.
use Rattle.generator.specs.Generator.{inverse, back_of}
use Rattle.generator.proofs.Modulo.{mul-mod}
use Rattle.generator.proofs.back.Goals as goal

pub returns : goal.returns
unfolding back_of
returns c = rw c.wrapping_mul.ensures (mul-mod inverse _ _)
