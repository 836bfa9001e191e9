use Rattle.std.proofs.Common.{drop, sym, ◌∙◌, arith, rules, tests}
use Rattle.std.proofs.lemmas.Iterator.{YieldsList-from_slice}
use Rattle.std.proofs.lemmas.Iterator.Consumers.{YieldsList-at, count_from_yields_List}
use Rattle.std.proofs.lemmas.Iterator.Search.{YieldsList-from_take_while}
use Rattle.std.proofs.lemmas.Slice.{between_to_end}
use Rattle.text_clean.specs.Inner.{plain_byte}
use Rattle.text_clean.proofs.plain.Runs.{block_more, prefix_more}
use Rattle.text_clean.proofs.plain.ascii_end.Goals as goal

pub loop-block-preserved : goal.loop-block-preserved
loop-block-preserved c =
    let v = c.loop-block.invariant in
    let s = c.in-Some.ensures.steps in
    let m = block_more _ _ _ _ _ v.0 (sym v.1 ∙ s.1.0) (s.1.1 ∙ v.2) (sym c.is_plain_block.ensures ∙ c.if-not-is_plain_block.false) in
    (m.0, m.1, s.0 ∙ v.2)

pub returns : goal.returns
returns c =
    let bs = c.args.bytes.now in
    let d = drop c.loop-block.at bs in
    let t = c.take_while.ensures in
    let left = YieldsList-from_slice d (c.iter.ensures.rest ∙ between_to_end bs _ _ (omega arith)) in
    prefix_more bs _ _ _ c.loop-block.invariant.0
    (count_from_yields_List c.take_while.result _ c.count.ensures.ran
    (YieldsList-from_take_while _ plain_byte (YieldsList-at t.source left) t.closure t.done (λ x b q k. search (rules, tests))))
