-- `is_plain_block` meets its contract: where the fold of its tests holds, all bytes are outside D8..DF.
use Rattle.std.proofs.Common.{◌≡◌, sym, ◌∙◌, rules, tests}
use Rattle.std.specs.List.{list_all}
use Rattle.common.proofs.Flags.{flags, each}
use Rattle.utf16.specs.Inner.{plain_byte}
use Rattle.utf16.proofs.is_plain_block.Goals as goal

pub returns : goal.returns
returns c =
    λ good x l h.
    let bytes = c.args.block.now in
    let all : c.fold.result ≡ list_all plain_byte bytes = flags plain_byte _ _ bytes c.fold.ensures.ran (cc) (λ a y b q k. search (rules, tests)) in
    each plain_byte bytes (sym all ∙ good) x h
