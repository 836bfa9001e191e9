-- `is_short_block` meets its contract: where the fold of its tests holds, all characters are below 10000.
use Rattle.std.proofs.Common.{◌≡◌, ℕ, Bool, ltb, ltb-true, sym, ◌∙◌, rules, tests}
use Rattle.std.specs.List.{list_all}
use Rattle.common.proofs.Flags.{flags, each}
use Rattle.utf16.proofs.is_short_block.Goals as goal

abbrev short : ℕ → Bool
short c = ltb c 0x10000

pub returns : goal.returns
returns c =
    λ good x l h.
    let chars = c.args.block.now in
    let all : c.fold.result ≡ list_all short chars = flags short _ _ chars c.fold.ensures.ran (cc) (λ a y b q k. search (rules, tests)) in
    ltb-true _ _ (each short chars (sym all ∙ good) x h)
