-- `command_bytes::numbers::numbers`: what is left leads to the same end, and there are no more numbers than bytes passed.
use Rattle.std.proofs.Common.{◌≤◌, ◌≡◌, drop}
use Rattle.command_bytes.specs.Words.{numbers_of}
use Rattle.command_bytes.proofs.Words.{left_of, Follows}
use Rattle.command_bytes.proofs.numbers.numbers.Given as goal

abbrev pub invariant-loop-b : goal.invariant-loop-b
invariant-loop-b l = record {
  left : left_of l.n l.word l.out (drop l.b-index l.b-items) ≡ numbers_of l.text l.initial.out;
  follows : Follows l.n l.word;
  passed : l.n ≤ l.b-index;
}
