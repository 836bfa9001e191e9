-- `text_utils::is_private_use_area` meets its contract: the table rises, and its members are the class.
use Rattle.text_utils.specs.Classes.{is_private_use}
use Rattle.text_utils.proofs.Rising.{private_use_rises}
use Rattle.text_utils.proofs.is_private_use_area.Goals as goal

pub in_ranges-requires : goal.in_ranges-requires
in_ranges-requires c = private_use_rises

pub returns : goal.returns
unfolding is_private_use
returns c = c.in_ranges.ensures
