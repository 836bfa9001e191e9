-- `ascii_block` meets its contract: where the fold of its tests holds, all bytes are below 80.
use Rattle.std.proofs.Common.{◌≡◌, ℕ, Bool, ltb, ltb-true, ◌∙◌, sym, rules, tests, arith}
use Rattle.std.proofs.lemmas.Grind.{common_steps}
use Rattle.std.specs.List.{list_all}
use Rattle.common.proofs.Flags.{flags, each}
use Rattle.scalars.proofs.utf8.ascii_block.Goals as goal

abbrev below_80 : ℕ → Bool
below_80 b = ltb b 0x80

pub returns : goal.returns
returns c =
    λ good x l h.
    let bytes = c.args.block.now in
    let all : c.fold.result ≡ list_all below_80 bytes = flags below_80 _ _ bytes c.fold.ensures.ran (search (rules, arith, common_steps)) (λ a y b q k. search (rules, tests)) in
    ltb-true _ _ (each below_80 bytes (sym all ∙ good) x h)
