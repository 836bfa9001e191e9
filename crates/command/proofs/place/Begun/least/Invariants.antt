-- `command::place::Begun::least`: the range that is left lies within the bytes, and the measure is its length.
use Rattle.std.proofs.Common.{◌-◌, ◌≤◌, length}
use Rattle.command.proofs.place.Begun.least.Given as goal

abbrev pub invariant-loop-high : goal.invariant-loop-high
invariant-loop-high l = (l.low ≤ l.high) × (l.high ≤ length l.bytes)

abbrev pub decreases-loop-high : goal.decreases-loop-high
decreases-loop-high l = l.high - l.low
