-- `is_allowed` meets its contract: the check's answer decides, and then whether c is ESC.
use Rattle.check_char.proofs.Answers.{accepted, refused}
use Rattle.check_run.proofs.is_allowed.Goals as goal

pub returns-in-Ok : goal.returns-in-Ok
returns-in-Ok c = rw (accepted _ _ c.check_basic_text_char.ensures c.in-Ok.is)

pub returns-in-Err : goal.returns-in-Err
returns-in-Err c = rw (refused _ _ c.check_basic_text_char.ensures _ c.in-Err.is)
