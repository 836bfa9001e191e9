-- A stretch: what it is made of, and what the search for its end promises.
use Rattle.std.specs.Prelude.{ℕ, ◌-◌, ◌≤◌, ◌<◌, ◌≡◌, Bool, true, not, ◌&&◌, ◌||◌, List, eqb, length, get_or, take, drop}
use Rattle.ranges.specs.declared.Range.{Range}
use Rattle.ranges.specs.Inner.{no_range, in_range}
use Rattle.stretch.specs.declared.Sought.{Sought}

-- c is in the range, and not 149 or 673
unfoldable pub in_gap : Range → ℕ → Bool
in_gap r c = (in_range r c && not (eqb c 0x149)) && not (eqb c 0x673)

-- c is in one of the two ranges, or in the gap
abbrev pub in_sought : Sought → ℕ → Bool
in_sought q c = (in_range q.one c || in_range q.two c) || in_gap q.gap c

-- one range or another
abbrev pub either_of : Range → Range → Sought
either_of one two = record { one = one; two = two; gap = no_range }

-- all from place f up to place t are sought
abbrev pub Each : Sought → List ℕ → ℕ → ℕ → Type 0
Each q s f t = (x : ℕ) → f ≤ x → x < t → in_sought q (get_or s x 0) ≡ true

-- t is a place of the slice from f on, up to which all are sought. It need not be the last such place.
pub record Stretch (q : Sought) (s : List ℕ) (f t : ℕ) : Type 0 where
  pub on : f ≤ t
  pub low : t ≤ length s
  pub each : Each q s f t

-- the elements from place i up to place j
abbrev pub part : ℕ → ℕ → List ℕ → List ℕ
part i j s = take (j - i) (drop i s)
