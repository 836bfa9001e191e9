-- `block` meets its contract: where the fold of its tests holds, all are sought.
use Rattle.std.proofs.Common.{◌≡◌, sym, ◌∙◌, rules, arith}
use Rattle.std.proofs.lemmas.Grind.{common_steps}
use Rattle.std.specs.List.{list_all}
use Rattle.common.proofs.Flags.{flags, each}
use Rattle.stretch.specs.Stretch.{in_sought}
use Rattle.stretch.proofs.block.Goals as goal

pub returns : goal.returns
returns c =
    λ good x l h.
    let test = in_sought c.args.sought in
    let block = c.args.block.now in
    let all : c.fold.result ≡ list_all test block = flags test _ _ block c.fold.ensures.ran (search (rules, arith, common_steps)) (λ a y b q k. search rules) in
    each test block (sym all ∙ good) x h
