-- `ranges::range_of` meets its contract: the search goes on with one half, and takes the range where the halves have met.
use Rattle.std.proofs.Common.{refl, arith}
use Rattle.ranges.proofs.Search.{begun, right, met, past_all}
use Rattle.ranges.proofs.range_of.Goals as goal

pub loop-lo-init : goal.loop-lo-init
loop-lo-init c = begun _ _ _ _ c.requires refl

pub loop-lo-preserved-then-lasts-mid : goal.loop-lo-preserved-then-lasts-mid
loop-lo-preserved-then-lasts-mid c = right _ _ _ _ c.loop-lo.invariant _ (omega arith) c.if-lasts-mid.true

pub returns-then-lo-firsts : goal.returns-then-lo-firsts
returns-then-lo-firsts c = met _ _ _ _ c.loop-lo.invariant (omega arith) (omega arith)

pub returns : goal.returns
returns c = rw c.no_range.ensures (past_all _ _ _ _ c.loop-lo.invariant (omega arith))
