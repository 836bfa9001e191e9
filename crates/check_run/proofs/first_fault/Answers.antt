-- The tests of `first_fault` are those by which proofs/Faults.antt finds the first of a run's faults.
use Rattle.std.proofs.Common.{sym, ◌∙◌, ◌-◌, length, arith}
use borrow.Author.Tests.{eq-eqb, ne_eqb}
use Rattle.check_run.proofs.Faults.{no_char, first_char, first_start, later_char, last_char}
use Rattle.check_run.proofs.first_fault.Goals as goal

pub returns-then-n-eq0 : goal.returns-then-n-eq0
returns-then-n-eq0 c = no_char _ _ c.if-n-eq0.true

pub returns-then-not-is_allowed : goal.returns-then-not-is_allowed
returns-then-not-is_allowed c =
    rw (c.new.ensures.0, c.new.ensures.1)
    (first_char _ _ (omega arith) (sym c.is_allowed.ensures ∙ c.if-not-is_allowed.true))

pub returns-then-not-is_basic_text_start : goal.returns-then-not-is_basic_text_start
returns-then-not-is_basic_text_start c =
    rw (c.new-then-not-is_basic_text_start.ensures.0, c.new-then-not-is_basic_text_start.ensures.1)
    (first_start _ _ (omega arith) (sym c.is_allowed.ensures ∙ c.if-not-is_allowed.false)
    (sym c.is_basic_text_start.ensures ∙ c.if-not-is_basic_text_start.true))

pub returns-then-at-n : goal.returns-then-at-n
returns-then-at-n c =
    rw (c.new-then-at-n.ensures.0, c.new-then-at-n.ensures.1)
    (later_char _ _ (sym c.is_basic_text_start.ensures ∙ c.if-not-is_basic_text_start.false) _ c.allowed_end-at.ensures c.if-at-n.true)

-- all are allowed: the faults are those of the last
pub returns-then-not-is_basic_text_end : goal.returns-then-not-is_basic_text_end
returns-then-not-is_basic_text_end c =
    rw (c.new-then-not-is_basic_text_end.ensures.0, c.new-then-not-is_basic_text_end.ensures.1)
    (rw (sym c.is_basic_text_end.ensures ∙ c.if-not-is_basic_text_end.true) at
    (last_char _ _ (sym c.is_basic_text_start.ensures ∙ c.if-not-is_basic_text_start.false) _ c.allowed_end-at.ensures c.if-at-n.false (length c.args.run.now - 1) (omega arith)))

pub returns-then-last-ne10 : goal.returns-then-last-ne10
returns-then-last-ne10 c =
    rw (c.new-then-last-ne10.ensures.0, c.new-then-last-ne10.ensures.1)
    (rw (sym c.is_basic_text_end.ensures ∙ c.if-not-is_basic_text_end.false, ne_eqb _ _ c.if-last-ne10.true) at
    (last_char _ _ (sym c.is_basic_text_start.ensures ∙ c.if-not-is_basic_text_start.false) _ c.allowed_end-at.ensures c.if-at-n.false (length c.args.run.now - 1) (omega arith)))

pub returns : goal.returns
returns c =
    rw (sym c.is_basic_text_end.ensures ∙ c.if-not-is_basic_text_end.false, eq-eqb _ _ c.if-last-ne10.false) at
    (last_char _ _ (sym c.is_basic_text_start.ensures ∙ c.if-not-is_basic_text_start.false) _ c.allowed_end-at.ensures c.if-at-n.false (length c.args.run.now - 1) (omega arith))
