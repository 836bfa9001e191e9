-- What the private functions answer. No entry's contract cites this file.
use Rattle.std.specs.Prelude.{ℕ, ◌+◌, ◌/◌, ◌≤◌, ◌<◌, Bool, true, false, cond, not, ◌&&◌, ◌||◌, ◌≡◌, List, [], ◌∷◌, leb, length, get_or, Result, Ok, Err}
use Rattle.utf16.specs.declared.ByteOrder.{ByteOrder}
use Rattle.utf16.specs.Reading.{units_in, is_high, is_low, unpaired_in}
use Rattle.utf16.specs.declared.DecodeError.{DecodeError}
use Rattle.utf16.specs.declared.DecodeError.TheVariants.{Unpaired}

-- how many low surrogates there are
abbrev pub lows : List ℕ → ℕ
lows [] = 0
lows (u ∷ us) = cond (is_low u) (lows us + 1) (lows us)

-- by the places of the unpaired units: the first of them; where there is none, how many pairs there are
abbrev pub found_by : List ℕ → ℕ → Result ℕ DecodeError
found_by [] pairs = Ok pairs
found_by (place ∷ later) pairs = Err (Unpaired place)

abbrev pub found_in : List ℕ → Result ℕ DecodeError
found_in us = found_by (unpaired_in us) (lows us)

-- ---- stretches without surrogates
-- a byte that no surrogate has for its high one
abbrev pub plain_byte : ℕ → Bool
plain_byte b = not (leb 0xD8 b && leb b 0xDF)

-- all bytes from place f up to place t are such
abbrev pub PlainBytes : List ℕ → ℕ → ℕ → Type 0
PlainBytes bs f t = (x : ℕ) → f ≤ x → x < t → plain_byte (get_or bs x 0) ≡ true

-- no unit from place f up to place t is a surrogate, in either order, and t is not past the last
pub record PlainTo (bs : List ℕ) (f t : ℕ) : Type 0 where
  pub begun : f ≤ t
  pub inside : t ≤ length bs / 2
  pub each : (o : ByteOrder) (x : ℕ) → f ≤ x → x < t → is_high (get_or (units_in o bs) x 0) || is_low (get_or (units_in o bs) x 0) ≡ false

-- ---- stretches of characters of one unit
-- all characters from place f up to place t are below 10000
abbrev pub OneUnit : List ℕ → ℕ → ℕ → Type 0
OneUnit cs f t = (x : ℕ) → f ≤ x → x < t → get_or cs x 0 < 0x10000

-- the same, where t is not past the last
pub record OneUnitTo (cs : List ℕ) (f t : ℕ) : Type 0 where
  pub begun : f ≤ t
  pub inside : t ≤ length cs
  pub each : OneUnit cs f t
