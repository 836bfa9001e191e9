-- `page::is_accepted` meets its contract: the size test decides the first `&&` of `accepted`, and the four parts are the groups of the
-- rest.
use Rattle.std.proofs.Common.{◌≡◌, true, sym, ◌∙◌}
use Rattle.std.proofs.lemmas.List.{take_rest}
use Rattle.page.specs.Page.{sized, rising, nonstarter, assigned, accepted}
use Rattle.page.proofs.PageLaws.{sizes_of_sized}
use Rattle.page.proofs.is_accepted.Goals as goal

pub split-n-requires : goal.split-n-requires
split-n-requires c = (sizes_of_sized c.args.page.now (sym c.is_sized.ensures ∙ c.if-is_sized.true)).long

pub page_firsts-firsts-requires : goal.page_firsts-firsts-requires
page_firsts-firsts-requires c = (sizes_of_sized c.args.page.now (sym c.is_sized.ensures ∙ c.if-is_sized.true)).long

pub page_lasts-lasts-requires : goal.page_lasts-lasts-requires
page_lasts-lasts-requires c = (sizes_of_sized c.args.page.now (sym c.is_sized.ensures ∙ c.if-is_sized.true)).long

pub returns-then-is_sized : goal.returns-then-is_sized
unfolding accepted rising nonstarter assigned
returns-then-is_sized c =
    let sized_page : sized c.args.page.now ≡ true = sym c.is_sized.ensures ∙ c.if-is_sized.true in
    let firsts = take_rest c.page_firsts-firsts.result.now c.split-n.result in
    let lasts = take_rest c.page_lasts-lasts.result.now c.split-n.result in
    rw sized_page (cc)

pub returns : goal.returns
unfolding accepted
returns c = simp (sym c.is_sized.ensures ∙ c.if-is_sized.false)
