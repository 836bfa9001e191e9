-- `check_char::Categorize::step` meets its contract: the check's answer decides.
use Rattle.check_char.proofs.Answers.{category_kept, category_refused}
use Rattle.check_char.proofs.Categorize.step.Goals as goal

pub returns-in-Ok : goal.returns-in-Ok
returns-in-Ok c = category_kept _ _ c.check_basic_text_char-checked.ensures c.args.self c.in-Ok.is

pub returns-in-Err : goal.returns-in-Err
returns-in-Err c =
    category_refused _ _ c.check_basic_text_char-checked.ensures c.args.self _ c.in-Err.is
