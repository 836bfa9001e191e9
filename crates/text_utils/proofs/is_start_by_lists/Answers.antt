-- `text_utils::is_start_by_lists` meets its contract: of a starter, its tests are those of `basic_text_start`.
use Rattle.text_utils.specs.Classes.{basic_text_start}
use Rattle.text_utils.proofs.is_start_by_lists.Goals as goal

pub returns : goal.returns
unfolding basic_text_start
returns c p h = cc
