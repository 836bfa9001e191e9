-- `nearer` meets its contract: what one of the two ranges has is assigned, and where neither has c the range that is found tells.
use Rattle.std.proofs.Common.{sym, ap, ◌∙◌}
use Rattle.stretch.specs.declared.Sought.{Sought}
use Rattle.stretch.specs.Stretch.{in_sought}
use Rattle.isolate_unassigned.proofs.Stretch.{either_assigned}
use Rattle.isolate_unassigned.proofs.nearer.Goals as goal

pub returns-then-is_sought : goal.returns-then-is_sought
returns-then-is_sought c =
    let t = sym (ap (λ (q : Sought). in_sought q c.args.c) c.either.ensures) ∙ sym c.is_sought.ensures ∙ c.if-is_sought.true in
    record { members = c.requires.near; tells = sym (either_assigned _ _ _ c.requires.base c.requires.near _ t) }
