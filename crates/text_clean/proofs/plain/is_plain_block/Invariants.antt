use Rattle.std.proofs.Common.{◌≡◌, take}
use Rattle.std.specs.List.{list_all}
use Rattle.text_clean.specs.Inner.{plain_byte}
use Rattle.text_clean.proofs.plain.is_plain_block.Given as goal

abbrev pub invariant-loop-b : goal.invariant-loop-b
invariant-loop-b l = l.good ≡ list_all plain_byte (take l.b-index l.block)
