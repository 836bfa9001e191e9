-- `command_bytes::counts::since_newline`: what the chain counts, and that this is what the definition counts from the front.
use Rattle.std.proofs.Common.{rules, tests, ◌≡◌, not, length, reverse, sym, ap, ◌∙◌, arith}
use Rattle.std.specs.List.{take_while}
use Rattle.std.proofs.lemmas.Iterator.Adapters.{YieldsList-from_rev_slice}
use Rattle.std.proofs.lemmas.Iterator.Consumers.{count_from_yields_List}
use Rattle.std.proofs.lemmas.Iterator.Search.{YieldsList-from_take_while}
use Rattle.std.proofs.lemmas.List.{reverse-reverse}
use Rattle.std.proofs.lemmas.List.Folds.{length-prefix_len}
use Rattle.command_bytes.specs.Counts.{since_newline, is_newline}
use Rattle.command_bytes.proofs.Tallies.{since_reverse}
use Rattle.command_bytes.proofs.counts.since_newline.Goals as goal

pub returns : goal.returns
returns c =
    let bytes = c.args.bytes.now in
    let counted : c.count.result ≡ length (take_while (λ b. not (is_newline b)) (reverse bytes)) =
    count_from_yields_List _ _ c.count.ensures.ran (YieldsList-from_take_while _ (λ b. not (is_newline b)) (YieldsList-from_rev_slice bytes cc) (cc) (cc) (λ x b q k. search (rules, tests))) in
    let since : c.count.result ≡ since_newline 0 bytes =
    counted ∙ length-prefix_len _ (reverse bytes) ∙ sym (since_reverse (reverse bytes)) ∙ ap (since_newline 0) (reverse-reverse bytes) in
    omega arith
