-- `command_bytes::counts::newlines`: the sum is std's count, which is no more than the bytes, and that is the definition's.
use Rattle.std.proofs.Common.{rules, ◌≡◌, ◌∙◌}
use Rattle.std.proofs.iter.runs.Sources.{sums}
use Rattle.std.proofs.lemmas.List.Sums.{count_by-le-length}
use Rattle.std.specs.List.{count_by}
use Rattle.command_bytes.specs.Counts.{is_newline}
use Rattle.command_bytes.proofs.Tallies.{tally_is}
use Rattle.command_bytes.proofs.counts.newlines.Goals as goal

pub sum-requires-clause-fits : goal.sum-requires-clause-fits
sum-requires-clause-fits c = search (rules, sums, count_by-le-length is_newline c.args.bytes.now)

pub returns : goal.returns
returns c =
    let counted : c.sum.result ≡ count_by is_newline c.args.bytes.now = search rules in
    counted ∙ tally_is is_newline c.args.bytes.now
