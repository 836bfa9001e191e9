-- Plain bytes behind a run make it longer (`run_on`), and then a character of the gap (`run_char`).
use Rattle.std.proofs.Common.{sym, inl, inr, ◌∙◌, arith}
use Rattle.scalars.proofs.Texts.{step_on}
use Rattle.stretch.specs.Stretch.{in_gap}
use Rattle.text_clean.proofs.plain.Runs.{run_on, run_char}
use Rattle.text_clean.proofs.plain.plain_run.Goals as goal
use Rattle.text_clean.proofs.plain.plain_run.Goals.{then-at-end, else-at-end}

pub returns-in_default : goal.returns-in_default
returns-in_default c =
    (run_on _ _ _ c.requires.gap _ _ _ c.loop-at.invariant _ _ _ _ c.ascii_end-end.ensures
    (elim c.if-at-end.branch [
      | then-at-end w ↦ inl (w.if-at-end.true, w.at-is, w.chars-is, w.last-is ∙ w.from-last.ensures)
      | else-at-end w ↦ inr (w.at-is, w.chars-is, w.last-is)
    ])).1.run

pub returns-then-not-in_range-c : goal.returns-then-not-in_range-c
returns-then-not-in_range-c c =
    (run_on _ _ _ c.requires.gap _ _ _ c.loop-at.invariant _ _ _ _ c.ascii_end-end.ensures
    (elim c.if-at-end.branch [
      | then-at-end w ↦ inl (w.if-at-end.true, w.at-is, w.chars-is, w.last-is ∙ w.from-last.ensures)
      | else-at-end w ↦ inr (w.at-is, w.chars-is, w.last-is)
    ])).1.run

pub loop-at-smaller : goal.loop-at-smaller
loop-at-smaller c =
    let step = step_on _ _ _ _ (sym c.utf8_step.ensures ∙ c.in-Some.is) in
    elim c.if-at-end.branch [ then-at-end w ↦ omega arith | else-at-end w ↦ omega arith ]

pub loop-at-preserved : goal.loop-at-preserved
unfolding in_gap
loop-at-preserved c =
    run_char _ _ c.args.gap c.requires.gap _ _ _
    (run_on _ _ _ c.requires.gap _ _ _ c.loop-at.invariant _ _ _ _ c.ascii_end-end.ensures
    (elim c.if-at-end.branch [
      | then-at-end w ↦ inl (w.if-at-end.true, w.at-is, w.chars-is, w.last-is ∙ w.from-last.ensures)
      | else-at-end w ↦ inr (w.at-is, w.chars-is, w.last-is)
    ])).1 _ _ (sym c.utf8_step.ensures ∙ c.in-Some.is)
    (rw c.in_range.ensures at c.if-not-in_range-c.false)
