-- `text_utils::is_general_category_spacing_mark` meets its contract: the table rises, and so does its packed list, which has its members.
use mathlib.Core.Path.{◌∙◌}
use Rattle.ranges.proofs.Packed.{rises_packed, member_packed}
use Rattle.text_utils.specs.Tables.{spacing_mark}
use Rattle.text_utils.proofs.Rising.{spacing_mark_rises}
use Rattle.text_utils.proofs.is_general_category_spacing_mark.Goals as goal

pub in_packed-requires : goal.in_packed-requires
in_packed-requires c = rises_packed spacing_mark spacing_mark_rises c.spacing_mark.ensures

pub returns : goal.returns
returns c = c.in_packed.ensures ∙ member_packed spacing_mark spacing_mark_rises c.spacing_mark.ensures _
