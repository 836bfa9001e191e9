-- The bytes before the place at hand are a run of plain characters.
use Rattle.std.proofs.Common.{length, ◌-◌}
use Rattle.text_clean.proofs.plain.Runs.{Going}
use Rattle.text_clean.proofs.plain.plain_run.Given as goal

abbrev pub invariant-loop-at : goal.invariant-loop-at
invariant-loop-at l = Going l.bytes l.from l.at l.chars l.last

abbrev pub decreases-loop-at : goal.decreases-loop-at
decreases-loop-at l = length l.bytes - l.at
