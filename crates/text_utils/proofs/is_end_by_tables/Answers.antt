-- `text_utils::is_end_by_tables` meets its contract: the tests are those of `basic_text_end`.
use Rattle.text_utils.specs.Classes.{basic_text_end}
use Rattle.text_utils.proofs.is_end_by_tables.Goals as goal

pub returns : goal.returns
unfolding basic_text_end
returns c = cc
