-- `text_utils::indic_syllabic_category_consonant_preceding_repha` meets its contract: the table rises, and its members are the class.
use Rattle.text_utils.proofs.Rising.{consonant_preceding_repha_rises}
use Rattle.text_utils.proofs.indic_syllabic_category_consonant_preceding_repha.Goals as goal

pub in_ranges-requires : goal.in_ranges-requires
in_ranges-requires c = consonant_preceding_repha_rises
