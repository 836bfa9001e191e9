-- No character is refused by 1, and else the check's answer decides.
use Rattle.std.proofs.Common.{sym, ◌∙◌}
use Rattle.check_char.proofs.Answers.{answer_accepted, answer_refused, made_of}
use Rattle.check_char.proofs.check.Goals as goal

pub returns : goal.returns
returns c =
    answer_accepted _ _ _ c.check_by.ensures c.in_ok-check_by.was (sym c.is_char.ensures ∙ c.if-not-is_char.false)

pub returns-in_err-check_by : goal.returns-in_err-check_by
returns-in_err-check_by c =
    made_of _ _ c.from_residual.ensures.1
    ∙ answer_refused _ _ _ c.check_by.ensures _ c.in_err-check_by.was (sym c.is_char.ensures ∙ c.if-not-is_char.false)
