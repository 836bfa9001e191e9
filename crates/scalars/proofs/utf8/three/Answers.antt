-- The bits grow by six at each byte.
use Rattle.std.proofs.Common.{sym, ◌∙◌, arith}
use Rattle.scalars.proofs.Steps.{more_is}
use Rattle.scalars.proofs.utf8.three.Goals as goal

pub more-requires-2 : goal.more-requires-2
more-requires-2 c = omega (arith, more_is _ _ _ _ (sym c.more.ensures ∙ c.in_ok-v.was))
