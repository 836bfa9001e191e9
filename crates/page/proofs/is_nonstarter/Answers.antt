-- `page::is_nonstarter` meets its contract: an accepted page has the right length, its groups rise, and the parts that are looked up are
-- those of the definition.
use Rattle.page.specs.Page.{nonstarter}
use Rattle.page.proofs.PageLaws.{facts_of_accepted}
use Rattle.page.proofs.is_nonstarter.Goals as goal

pub split-n-requires : goal.split-n-requires
split-n-requires c = (facts_of_accepted _ c.requires).sizes.long

pub page_firsts-firsts-requires : goal.page_firsts-firsts-requires
page_firsts-firsts-requires c = (facts_of_accepted _ c.requires).sizes.long

pub page_lasts-lasts-requires : goal.page_lasts-lasts-requires
page_lasts-lasts-requires c = (facts_of_accepted _ c.requires).sizes.long

pub in_ranges-requires : goal.in_ranges-requires
in_ranges-requires c = let facts = facts_of_accepted _ c.requires in cc

pub returns : goal.returns
unfolding nonstarter
returns c = cc
