-- The bits grow by six at each byte.
use Rattle.std.proofs.Common.{sym, ◌∙◌, arith}
use Rattle.scalars.proofs.Steps.{more_is}
use Rattle.scalars.proofs.utf8.four.Goals as goal

pub more-requires-2 : goal.more-requires-2
more-requires-2 c = omega (arith, more_is _ _ _ _ (sym c.more.ensures ∙ c.in_ok-v.was))

pub more-requires-3 : goal.more-requires-3
more-requires-3 c =
    omega (
      arith,
      more_is _ _ _ _ (sym c.more.ensures ∙ c.in_ok-v.was),
      more_is _ _ _ _ (sym c.more-2.ensures ∙ c.in_ok-w.was),
    )
