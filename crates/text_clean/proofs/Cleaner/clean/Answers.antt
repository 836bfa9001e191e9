-- Where no refusal stands in the way, there is room and the counts fit, and the run is what `clean_of` says (proofs/Calls.antt).
use Rattle.std.proofs.Common.{sym, ◌∙◌, arith}
use Rattle.text_clean.proofs.Calls.{clean_room, clean_counts, cleaned}
use Rattle.text_clean.proofs.Cleaner.clean.Goals as goal

pub run-ran-requires-clause-room : goal.run-ran-requires-clause-room
run-ran-requires-clause-room c =
    clean_room _ _ _ _ _ _ (sym c.is_accepted.ensures ∙ c.if-not-is_accepted.false) (sym c.is_short.ensures ∙ c.if-is_short.false)

pub run-ran-requires-clause-fits : goal.run-ran-requires-clause-fits
run-ran-requires-clause-fits c =
    clean_counts _ _ _ _ _ c.args.out.now (sym c.is_accepted.ensures ∙ c.if-not-is_accepted.false) (sym c.is_short.ensures ∙ c.if-is_short.false)
    (omega (arith, c.well_formed))

pub returns : goal.returns
returns c =
    let r = c.run-ran.ensures in
    cleaned c.args.self _ _ _ _ _ (sym c.is_accepted.ensures ∙ c.if-not-is_accepted.false) (sym c.is_short.ensures ∙ c.if-is_short.false)
    _ r.ran _ r.places _ c.count_all.ensures
