-- The bytes of the numbers passed are stored.
use Rattle.std.proofs.Common.{◌≡◌, ◌*◌, take}
use Rattle.std.proofs.lemmas.List.Edits.{sets}
use Rattle.basic_text.specs.Exports.{bytes_of}
use Rattle.basic_text.proofs.numbers.write_numbers.Given as goal

abbrev pub invariant-loop-i : goal.invariant-loop-i
invariant-loop-i l = l.bytes ≡ sets l.fn.bytes (4 * l.k) (bytes_of (take l.i l.from))
