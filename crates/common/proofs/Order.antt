-- `first_of` says 'refused by n exactly when its condition holds and none before it'.
--     first_by     the number found, where it is not 0, has a condition that holds, and none before it does
--     by_first     a number that has one is the number found
use Prim.Native.Nat.{ℕ, ◌<◌}
use mathlib.Core.Bool.{true, false}
use mathlib.Core.List.{List, [], ◌∷◌}
use mathlib.Core.Path.{◌≡◌, refl}
use native.Mathlib.Omega.{arith}
use Rattle.common.specs.Order.{Refusal, ◌when◌, first_of, RefusedBy, here, further}

pub first_by : (rs : List Refusal) → 0 < first_of rs → RefusedBy (first_of rs) rs
first_by [] h = let e : ⊥ = omega arith in elim e as (λ (x : ⊥). RefusedBy (first_of []) []) [ ]
first_by (n when true ∷ rs) h = here
first_by (n when false ∷ rs) h = further (first_by rs h)

pub by_first : {n : ℕ} (rs : List Refusal) → RefusedBy n rs → first_of rs ≡ n
by_first [] r = elim r [ ]
by_first (n when true ∷ rs) here = refl
by_first (m when false ∷ rs) (further r) = by_first rs r
