-- A decision over numbers, as a list of rows: the numbers from a first to a last, and the answer. The first row that has the
-- number decides. Document 01, "Leaves": "Replacement is one decision over all characters"; "The shape each place takes": "A match on
-- the character with single values and ranges".
use Rattle.std.specs.Prelude.{ℕ, Bool, false, ◌&&◌, ◌||◌, cond, List, [], ◌∷◌, leb}

-- the numbers from first to last
pub data Span : Type 0 where
  ◌to◌ : ℕ → ℕ → Span

infix 85 ◌to◌
abbrev pub one : ℕ → Span
one k = k to k

pub data Row (A : Type 0) : Type 0 where
  ◌gives◌ : Span → A → Row A

infix 80 ◌gives◌
-- the span has c
abbrev pub has : Span → ℕ → Bool
has (a to b) c = leb a c && leb c b

-- one of the spans has c
abbrev pub in_spans : List Span → ℕ → Bool
in_spans [] c = false
in_spans (s ∷ ss) c = has s c || in_spans ss c

module _ {A : Type 0} where
  -- the answer of the first row that has c, and d where none has
  abbrev pub lookup : List (Row A) → A → ℕ → A
  lookup [] d c = d
  lookup (s gives a ∷ rs) d c = cond (has s c) a (lookup rs d c)

  -- one answer for each of the spans, in front of further rows
  abbrev pub each : List Span → A → List (Row A) → List (Row A)
  each [] a rs = rs
  each (s ∷ ss) a rs = s gives a ∷ each ss a rs
