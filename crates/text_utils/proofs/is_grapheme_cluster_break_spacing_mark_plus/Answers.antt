-- `text_utils::is_grapheme_cluster_break_spacing_mark_plus` meets its contract: the tests are those of `spacing_mark_plus`.
use Rattle.text_utils.specs.Classes.{spacing_mark_plus}
use Rattle.text_utils.proofs.is_grapheme_cluster_break_spacing_mark_plus.Goals as goal

pub returns : goal.returns
unfolding spacing_mark_plus
returns c = cc
