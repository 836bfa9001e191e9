-- `allowed_end` meets its contract: a stretch from an allowed character on is allowed.
use Rattle.check_run.proofs.Allowed.{stretched}
use Rattle.check_run.proofs.allowed_end.Goals as goal

pub loop-i-preserved-then-is_sought : goal.loop-i-preserved-then-is_sought
loop-i-preserved-then-is_sought c =
    stretched _ _ _ c.loop-i.invariant _ c.if-is_sought.true (rw c.ascii_or.ensures at c.is_sought.ensures) _ c.plain_end-i.ensures
