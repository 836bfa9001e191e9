-- `gaps::first_gap` meets its contract: the gap passes the test.
use mathlib.Core.Path.{refl}
use Rattle.stretch.proofs.Clear.{gap_clear}
use Rattle.stretch.proofs.gaps.first_gap.Statement.{statement}
use Rattle.stretch.proofs.gaps.first_gap.Tie as tie

pub first_gap_spec : {M : Type 1} → statement M
first_gap_spec = tie.close (tie.spec (λ c. gap_clear (record { first = 0xa0; last = 0x9e3 }) refl))
