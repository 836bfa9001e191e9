-- Whether all numbers are characters, by those that are left.
use Rattle.std.proofs.Common.{◌≡◌, ◌&&◌, drop}
use Rattle.scalars.specs.Chars.{are_chars}
use Rattle.basic_text.specs.Exports.{numbers_of}
use Rattle.basic_text.proofs.numbers.hold_chars.Given as goal

abbrev pub invariant-loop-i : goal.invariant-loop-i
invariant-loop-i l = (l.good && are_chars (drop l.i (numbers_of l.bytes))) ≡ are_chars (numbers_of l.bytes)
