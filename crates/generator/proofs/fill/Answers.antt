-- `generator::fill` meets its contract: each turn is a step, and its pick stored. The array holds the numbers of the list, in its order.
use Rattle.std.proofs.Common.{refl, arith}
use Rattle.generator.specs.Generator.{listed, pick_of}
use Rattle.generator.proofs.Filling.{begun, filled_more, all_filled}
use Rattle.generator.proofs.fill.Goals as goal

pub loop-place-init : goal.loop-place-init
loop-place-init c = begun c.args.state c.args.out.now

pub loop-place-preserved : goal.loop-place-preserved
unfolding pick_of listed
loop-place-preserved c = filled_more _ _ _ _ _ c.loop-place.invariant _ _ (omega arith) c.next-at.ensures refl

pub returns : goal.returns
returns c =
    let a = all_filled _ _ _ _ _ c.loop-place.invariant (omega arith) in
    record { state = a.0; places = a.1 }
