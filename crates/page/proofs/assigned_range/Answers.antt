-- `page::assigned_range` meets its contract: an accepted page has the right length, its groups rise, and the parts that are searched are
-- those of the definition.
use Rattle.std.proofs.lemmas.List.{take_rest}
use Rattle.page.specs.Page.{assigned}
use Rattle.page.proofs.PageLaws.{facts_of_accepted}
use Rattle.page.proofs.assigned_range.Goals as goal

pub split-n-requires : goal.split-n-requires
split-n-requires c = (facts_of_accepted _ c.requires).sizes.long

pub page_firsts-firsts-requires : goal.page_firsts-firsts-requires
page_firsts-firsts-requires c = (facts_of_accepted _ c.requires).sizes.long

pub page_lasts-lasts-requires : goal.page_lasts-lasts-requires
page_lasts-lasts-requires c = (facts_of_accepted _ c.requires).sizes.long

pub range_of-requires : goal.range_of-requires
range_of-requires c =
    let facts = facts_of_accepted _ c.requires in
    let firsts = take_rest c.page_firsts-firsts.result.now c.split-n.result in
    let lasts = take_rest c.page_lasts-lasts.result.now c.split-n.result in
    cc

pub returns : goal.returns
unfolding assigned
returns c =
    let firsts = take_rest c.page_firsts-firsts.result.now c.split-n.result in
    let lasts = take_rest c.page_lasts-lasts.result.now c.split-n.result in
    let found = c.range_of.ensures in
    record {
      members = λ x h. let e = found.members x h in cc;
      has = cc;
    }
