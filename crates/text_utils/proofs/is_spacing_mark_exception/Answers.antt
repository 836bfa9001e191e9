-- `text_utils::is_spacing_mark_exception` meets its contract: the table rises, and so does its packed list, which has its members.
use mathlib.Core.Path.{◌∙◌}
use Rattle.ranges.proofs.Packed.{rises_packed, member_packed}
use Rattle.text_utils.specs.Tables.{spacing_mark_exceptions}
use Rattle.text_utils.proofs.Rising.{spacing_mark_exceptions_rises}
use Rattle.text_utils.proofs.is_spacing_mark_exception.Goals as goal

pub in_packed-requires : goal.in_packed-requires
in_packed-requires c = rises_packed spacing_mark_exceptions spacing_mark_exceptions_rises c.spacing_mark_exception.ensures

pub returns : goal.returns
returns c = c.in_packed.ensures ∙ member_packed spacing_mark_exceptions spacing_mark_exceptions_rises c.spacing_mark_exception.ensures _
