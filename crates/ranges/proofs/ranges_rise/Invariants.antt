-- The list rises exactly if `good` holds and the ranges from i on rise from one past the last before them.
use Rattle.std.proofs.Common.{◌≡◌, ◌&&◌, ◌-◌, suc, get_or, drop}
use Rattle.ranges.specs.Ranges.{rises}
use Rattle.ranges.proofs.ranges_rise.Given as goal

abbrev pub invariant-loop-i : goal.invariant-loop-i
invariant-loop-i l =
    rises 0 l.firsts l.lasts ≡ l.good && rises (suc (get_or l.lasts (l.i - 1) 0)) (drop l.i l.firsts) (drop l.i l.lasts)
