-- The order of an entry's refusals, as one statement: document 01 gives each entry's as a row of numbers ("Order: 2, 1, 10, 8.") and
-- each number's condition by itself. The laws on it stand with each entry; they write the conditions out.
use Rattle.std.specs.Prelude.{ℕ, Bool, true, false, cond, List, [], ◌∷◌}

-- a refusal's number, and whether its condition holds
pub data Refusal : Type 0 where
  ◌when◌ : ℕ → Bool → Refusal

infix 80 ◌when◌
-- the number of the first whose condition holds, and 0 where none does
abbrev pub first_of : List Refusal → ℕ
first_of [] = 0
first_of (n when holds ∷ later) = cond holds n (first_of later)

-- n is a number whose condition holds, and none before it does
pub data RefusedBy (n : ℕ) : List Refusal → Type 0 where
  here : {later : List Refusal} → RefusedBy n (n when true ∷ later)
  further : {m : ℕ} {later : List Refusal} → RefusedBy n later → RefusedBy n (m when false ∷ later)
