-- `gaps::gap_of` meets its contract: each gap passes the test.
use mathlib.Core.Path.{refl}
use borrow.Author.Rules.{rules}
use Rattle.stretch.proofs.Clear.{gap_clear}
use Rattle.stretch.proofs.gaps.gap_of.Statement.{statement}
use Rattle.stretch.proofs.gaps.gap_of.Tie as tie

pub gap_of_spec : {M : Type 1} → statement M
gap_of_spec =
    tie.close
    (tie.spec
    (λ c κs. search rules)
    (λ c. gap_clear _ refl)
    (λ c. gap_clear _ refl)
    (λ c. gap_clear _ refl)
    (λ c. gap_clear _ refl)
    (λ c. gap_clear _ refl)
    (λ c. gap_clear _ refl)
    (λ c. gap_clear _ refl)
    (λ c. gap_clear _ refl)
    (λ c. gap_clear _ refl)
    (λ c. gap_clear _ refl)
    (λ c. gap_clear _ refl)
    (λ c. gap_clear _ refl)
    (λ c. gap_clear _ refl)
    (λ c. gap_clear _ refl)
    (λ c. gap_clear _ refl)
    (λ c. gap_clear _ refl)
    (λ c. gap_clear _ refl)
    (λ c. gap_clear _ refl)
    (λ c. gap_clear _ refl)
    (λ c. gap_clear _ refl)
    (λ c. gap_clear _ refl)
    (λ c. gap_clear _ refl)
    (λ c. gap_clear _ refl)
    (λ c. gap_clear _ refl)
    (λ c. search rules))
