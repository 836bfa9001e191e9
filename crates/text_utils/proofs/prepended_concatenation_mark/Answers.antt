-- `text_utils::prepended_concatenation_mark` meets its contract: the table rises, and its members are the class.
use mathlib.Core.Path.{◌∙◌}
use Rattle.ranges.proofs.Minus.{member_minus}
use Rattle.text_utils.specs.Tables.{prepended_concatenation_mark}
use Rattle.text_utils.proofs.Rising.{as_in_rust_rises}
use Rattle.text_utils.proofs.prepended_concatenation_mark.Goals as goal

pub in_ranges-requires : goal.in_ranges-requires
in_ranges-requires c = as_in_rust_rises

pub returns : goal.returns
returns c = c.in_ranges.ensures ∙ member_minus 0x890 0x891 prepended_concatenation_mark _
