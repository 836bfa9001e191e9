-- `text_utils::is_grapheme_extend_not_cgj` meets its contract: the table rises, and so does its packed list, which has its members.
use mathlib.Core.Path.{refl, ◌∙◌}
use Rattle.ranges.proofs.Minus.{member_minus}
use Rattle.ranges.proofs.Packed.{rises_packed, member_packed}
use Rattle.text_utils.specs.Tables.{grapheme_extend}
use Rattle.text_utils.specs.Classes.{grapheme_extend_not_cgj}
use Rattle.text_utils.proofs.Classes.{one_char}
use Rattle.text_utils.proofs.Rising.{no_cgj, no_cgj_rises}
use Rattle.text_utils.proofs.is_grapheme_extend_not_cgj.Goals as goal

pub in_packed-requires : goal.in_packed-requires
in_packed-requires c = rises_packed no_cgj no_cgj_rises c.grapheme_extend_not_cgj.ensures

pub returns : goal.returns
unfolding grapheme_extend_not_cgj
returns c =
    c.in_packed.ensures
    ∙ member_packed no_cgj no_cgj_rises c.grapheme_extend_not_cgj.ensures _
    ∙ member_minus 0x34f 0x34f grapheme_extend _ ∙ rw one_char refl
