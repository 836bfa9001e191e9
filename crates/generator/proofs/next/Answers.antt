-- `generator::next` meets its contract: modulo 2^32 of the product first, and then of the sum, is modulo 2^32 of all.
use Rattle.std.proofs.Common.{◌*◌}
use native.Mathlib.Nat.{mod-add-mod}
use Rattle.generator.specs.Generator.{factor, addend, next_of}
use Rattle.generator.proofs.next.Goals as goal

pub returns : goal.returns
unfolding next_of
returns c = rw c.wrapping_mul.ensures (mod-add-mod (factor * c.args.state) _ addend)
