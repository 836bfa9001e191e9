-- `text_utils::indic_syllabic_category_consonant_prefixed` meets its contract: the table rises, and its members are the class.
use Rattle.text_utils.proofs.Rising.{consonant_prefixed_rises}
use Rattle.text_utils.proofs.indic_syllabic_category_consonant_prefixed.Goals as goal

pub in_ranges-requires : goal.in_ranges-requires
in_ranges-requires c = consonant_prefixed_rises
