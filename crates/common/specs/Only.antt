-- There is one, and no other: what a theorem says that names a thing by its properties.
use Rattle.std.specs.Prelude.{◌≡◌}

pub record ExactlyOne (A : Type 0) (P : A → Type 0) : Type 0 where
  pub one : A
  pub is : P one
  pub only : (other : A) → P other → other ≡ one
