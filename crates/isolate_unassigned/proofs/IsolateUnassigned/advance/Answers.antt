-- `IsolateUnassigned::advance` meets its contract: a stretch of assigned characters is copied where nothing is owed, and any other
-- character is a step.
use Rattle.std.proofs.Common.{◌≡◌, ◌+◌, length, get_or, sym, ap, ◌∙◌}
use lib.Seq.{sets}
use borrow.Author.Tests.{not-true}
use Rattle.common.proofs.Kit.{both_true}
use Rattle.isolate_unassigned.specs.declared.Isolated.{Isolated}
use Rattle.isolate_unassigned.specs.Inner.{isolate_step_of, gives_out, after}
use Rattle.isolate_unassigned.proofs.Stretch.{kept_room, kept_moves, turn_moves}
use Rattle.isolate_unassigned.proofs.IsolateUnassigned.advance.Goals as goal

pub put_run-requires : goal.put_run-requires
put_run-requires c =
    let t = both_true _ _ c.if-found-self.true in
    kept_room _ _ _ _ c.args.out.now _ _ _ c.requires.base c.nearer-close.ensures.members _ (sym c.nearer-close.ensures.tells ∙ t.0) (not-true _ t.1)
    c.either_end-end.ensures c.requires.room

pub returns-then-found-self : goal.returns-then-found-self
returns-then-found-self c =
    let t = both_true _ _ c.if-found-self.true in
    kept_moves _ _ _ _ _ _ _ _ c.requires.base c.nearer-close.ensures.members _ (sym c.nearer-close.ensures.tells ∙ t.0) (not-true _ t.1)
    c.either_end-end.ensures _ c.put_run.ensures

pub returns-else-found-self : goal.returns-else-found-self
returns-else-found-self c =
    let a = c.args in
    let t = c.put_step-turned.ensures in
    let e : c.step_by-step.result ≡ isolate_step_of a.page.now a.self (get_or a.chars.now a.i 0) =
    c.step_by-step.ensures _ (c.is_isolated.ensures _ c.nearer-close.ensures.tells) in
    turn_moves _ _ _ _ _ _ c.requires.more _ c.nearer-close.ensures.members _ (t.written ∙ ap (λ (s : Isolated). a.k + length (gives_out s)) e) _
    (t.next ∙ ap after e) _ (t.places ∙ ap (λ (s : Isolated). sets a.out.now a.k (gives_out s)) e)
