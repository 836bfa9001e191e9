-- `text_utils::is_emoji_modifier` meets its contract: the table rises, and so does its packed list, which has its members.
use mathlib.Core.Path.{◌∙◌}
use Rattle.ranges.proofs.Packed.{rises_packed, member_packed}
use Rattle.text_utils.specs.Tables.{emoji_modifier}
use Rattle.text_utils.proofs.Rising.{emoji_modifier_rises}
use Rattle.text_utils.proofs.is_emoji_modifier.Goals as goal

pub in_packed-requires : goal.in_packed-requires
in_packed-requires c = rises_packed emoji_modifier emoji_modifier_rises c.emoji_modifier.ensures

pub returns : goal.returns
returns c = c.in_packed.ensures ∙ member_packed emoji_modifier emoji_modifier_rises c.emoji_modifier.ensures _
