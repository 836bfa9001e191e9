-- `either_end` meets its contract: four stretches, one behind the other, and what is likeliest is sought.
use Rattle.stretch.proofs.Seeking.{first_within, four}
use Rattle.stretch.proofs.either_end.Goals as goal

pub returns : goal.returns
returns c =
    let e = c.either-sought.ensures in
    let n = rw c.no_range.ensures at c.either.ensures in
    four _ _ _ (first_within _ _) _ _ _ _ _ (rw e at c.few-a.ensures) (rw n at c.blocks-b.ensures) (rw e at c.blocks-c.ensures) (rw e at c.few.ensures)
