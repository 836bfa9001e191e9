-- The places that isolating asks for are enough.
use Rattle.std.proofs.Common.{arith}
use Rattle.isolate_unassigned.proofs.Laws.{length_isolate}
use Rattle.isolate_unassigned.proofs.isolate.Goals as goal

pub isolate_run-requires-clause-chars_in_bounds : goal.isolate_run-requires-clause-chars_in_bounds
isolate_run-requires-clause-chars_in_bounds c =
    omega (arith, c.places_for.ensures, length_isolate c.args.page.now c.args.chars.now)
