-- `unit_at` meets its contract: the unit at a place is that of its two bytes.
use Rattle.std.proofs.Common.{sym, ◌∙◌}
use Rattle.utf16.proofs.Units.{unit_at}
use Rattle.utf16.proofs.unit_at.Goals as goal

pub returns : goal.returns
returns c =
    let e = c.unit_of.ensures in
    (e.0 ∙ sym (unit_at c.args.order c.args.bytes.now c.args.i c.requires), e.1)
