-- One range, and what a search among ranges finds. Cited by the contracts of inner functions.
use Rattle.std.specs.Prelude.{◌≡◌, Bool, true, ◌&&◌, List, ℕ, leb}
use Rattle.ranges.specs.declared.Range.{Range}
use Rattle.ranges.specs.Ranges.{member}
use Rattle.ranges.specs.Packed.{first_in, last_in}

-- the range has c: its first is at most c, and c is at most its last
unfoldable pub in_range : Range → ℕ → Bool
in_range r c = leb r.first c && leb c r.last

-- the range that has no number
abbrev pub no_range : Range
no_range = record { first = 1; last = 0 }

-- the range that a packed number stands for
abbrev pub range_in : ℕ → Range
range_in n = record { first = first_in n; last = last_in n }

-- what a search for c finds: a range all of which are members, and which has c where c is a member
pub record Found (firsts lasts : List ℕ) (c : ℕ) (r : Range) : Type 0 where
  pub members : (x : ℕ) → in_range r x ≡ true → member firsts lasts x ≡ true
  pub has : in_range r c ≡ member firsts lasts c
