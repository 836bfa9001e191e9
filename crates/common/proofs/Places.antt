-- A property of every place from one up to another.
--     none       no place
--     more       one place more
--     joined     two stretches of places, one behind the other
use Prim.Native.Nat.{ℕ, ◌+◌, ◌≤◌, ◌<◌}
use native.Mathlib.Omega.{arith}
use borrow.Author.Count.{below_more}
use Rattle.common.proofs.Kit.{by_lt}

module _ (P : ℕ → Type 0) (f : ℕ) where
  pub none : (t : ℕ) → t ≤ f → (x : ℕ) → f ≤ x → x < t → P x
  none t e x l h = absurd (omega arith)

  pub more : (j : ℕ) → ((x : ℕ) → f ≤ x → x < j → P x) → P j → (x : ℕ) → f ≤ x → x < j + 1 → P x
  more j h p x l g = below_more (λ y. f ≤ y → P y) j (λ y m k. h y k m) (λ m. p) x g l

  pub joined : (m t : ℕ) → ((x : ℕ) → f ≤ x → x < m → P x) → ((x : ℕ) → m ≤ x → x < t → P x) → (x : ℕ) → f ≤ x → x < t → P x
  joined m t h k x l g = by_lt x m (λ a. h x l a) (λ a. k x a g)
