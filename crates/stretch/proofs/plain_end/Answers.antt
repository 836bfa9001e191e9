-- `plain_end` meets its contract: four stretches, one behind the other, and what is likeliest is sought.
use Rattle.stretch.proofs.Seeking.{ascii_within, four}
use Rattle.stretch.proofs.plain_end.Goals as goal

pub returns : goal.returns
returns c =
    let e = c.ascii_or-sought.ensures in
    let n = rw c.no_range.ensures at c.ascii_or.ensures in
    four _ _ _ (ascii_within _) _ _ _ _ _ (rw e at c.few-a.ensures) (rw n at c.blocks-b.ensures) (rw e at c.blocks-c.ensures) (rw e at c.few.ensures)
