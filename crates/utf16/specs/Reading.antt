-- Bytes read as units, and units as characters: which unit is an unpaired surrogate, and what the others give. Document 02, A.3.
use Rattle.std.specs.Prelude.{ℕ, suc, ◌+◌, ◌-◌, ◌*◌, ◌%◌, ◌<◌, ◌≡◌, Bool, true, false, cond, not, ◌&&◌, ◌||◌, List, [], ◌∷◌, leb, ltb, get_or}
use Rattle.utf16.specs.declared.ByteOrder.{ByteOrder}
use Rattle.utf16.specs.declared.ByteOrder.TheVariants.{Little, Big}

-- ---- units
-- the unit of two bytes, as they stand
abbrev pub unit_of : ByteOrder → ℕ → ℕ → ℕ
unit_of Big a b = a * 256 + b
unit_of Little a b = a + b * 256

-- the units of a run of bytes; a last byte that stands alone is in none
abbrev pub units_in : ByteOrder → List ℕ → List ℕ
units_in o [] = []
units_in o (a ∷ []) = []
units_in o (a ∷ b ∷ bs) = unit_of o a b ∷ units_in o bs

-- ---- surrogates
-- a high-surrogate code unit: Unicode Standard, section 3.8, D72
unfoldable pub is_high : ℕ → Bool
is_high u = leb 0xD800 u && leb u 0xDBFF

-- a low-surrogate code unit: Unicode Standard, section 3.8, D74
unfoldable pub is_low : ℕ → Bool
is_low u = leb 0xDC00 u && leb u 0xDFFF

-- a surrogate pair stands at place i: Unicode Standard, section 3.8, D75, a high-surrogate code unit and then a low-surrogate code unit
abbrev pub pair_at : List ℕ → ℕ → Bool
pair_at us i = is_high (get_or us i 0) && is_low (get_or us (i + 1) 0)

-- the unit at place i is a surrogate, and in no pair
abbrev pub unpaired_at : List ℕ → ℕ → Bool
unpaired_at us i = (is_high (get_or us i 0) || is_low (get_or us i 0)) && (not (pair_at us i) && not (ltb 0 i && pair_at us (i - 1)))

-- "the first such unit's place counted from 0"
pub record FirstUnpaired (us : List ℕ) (i : ℕ) : Type 0 where
  pub is : unpaired_at us i ≡ true
  pub none_before : (j : ℕ) → j < i → unpaired_at us j ≡ false

-- ---- as a list is read
-- a unit between its neighbours, 0 where it has none: a high surrogate that no low one follows, or a low one that follows no high one
unfoldable pub unpaired : ℕ → ℕ → ℕ → Bool
unpaired before u after = (is_high u && not (is_low after)) || (is_low u && not (is_high before))

-- the unit behind, 0 where there is none
abbrev pub next : List ℕ → ℕ
next us = get_or us 0 0

-- the places of the unpaired units, where the first unit stands at place i behind the unit `before`
abbrev pub unpaired_from : ℕ → ℕ → List ℕ → List ℕ
unpaired_from i before [] = []
unpaired_from i before (u ∷ us) = cond (unpaired before u (next us)) (i ∷ unpaired_from (suc i) u us) (unpaired_from (suc i) u us)

unfoldable pub unpaired_in : List ℕ → List ℕ
unpaired_in us = unpaired_from 0 0 us

-- the character that a unit gives with the one behind it: that of a pair (RFC 2781, 2.2), or the unit itself
unfoldable pub char_of : ℕ → ℕ → ℕ
char_of u after = cond (is_high u) (0x10000 + u % 0x400 * 0x400 + after % 0x400) u

-- the characters of units: a low surrogate gives none of its own
abbrev pub chars_in : List ℕ → List ℕ
chars_in [] = []
chars_in (u ∷ us) = cond (is_low u) (chars_in us) (char_of u (next us) ∷ chars_in us)
