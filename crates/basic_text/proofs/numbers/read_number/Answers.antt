use Rattle.std.proofs.Common.{sym, ◌∙◌}
use Rattle.basic_text.proofs.Laws.{from_le, numbers_at}
use Rattle.basic_text.proofs.numbers.read_number.Goals as goal

pub returns : goal.returns
returns c = c.from_le_bytes.ensures ∙ from_le _ _ _ _ ∙ sym (numbers_at c.args.bytes.now c.args.i c.requires)
