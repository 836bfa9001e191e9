-- `ranges::packed_range_of` meets its contract, as `range_of` does.
use Rattle.std.proofs.Common.{◌+◌, ◌-◌, ◌/◌, arith}
use Rattle.ranges.proofs.Packed.{unpacked_at, unpacked_last}
use Rattle.ranges.proofs.Search.{right, met, past_all}
use Rattle.ranges.proofs.packed_range_of.Goals as goal

pub loop-lo-preserved-then-range-c : goal.loop-lo-preserved-then-range-c
loop-lo-preserved-then-range-c c =
    let l = c.loop-lo in
    let mid = l.lo + (l.hi - l.lo) / 2 in
    right _ _ _ _ l.invariant mid (omega arith) (omega (arith, unpacked_last c.args.packed.now mid _ c.unpacked-range.ensures))

pub returns-then-lo-packed : goal.returns-then-lo-packed
returns-then-lo-packed c =
    rw (unpacked_at c.args.packed.now c.loop-lo.lo _ c.unpacked.ensures)
    (met _ _ _ _ c.loop-lo.invariant (omega arith) (omega arith))

pub returns : goal.returns
returns c = rw c.no_range.ensures (past_all _ _ _ _ c.loop-lo.invariant (omega arith))
