-- `ranges::unpacked` meets its contract: the mask is 2 ^ 21 - 1, and the shift is by 21.
use lib.Bits.{and_mask}
use Rattle.ranges.specs.Packed.{first_in, last_in}
use Rattle.ranges.proofs.unpacked.Goals as goal

pub returns : goal.returns
unfolding first_in last_in
returns c = simp (and_mask c.args.n 21)
