-- Hexadecimal digits. Assumes nothing.
use Rattle.std.specs.Prelude.{ℕ, ◌+◌, ◌-◌, Bool, cond, ◌&&◌, leb}

-- a byte lies from one to another
abbrev pub within : ℕ → ℕ → ℕ → Bool
within low b high = leb low b && leb b high

-- the value of `0` to `9`, `A` to `F` and `a` to `f`; 16 for every other byte
unfoldable pub digit_of : ℕ → ℕ
digit_of b =
    cond (within 48 b 57) (b - 48)
    (cond (within 65 b 70) (b - 65 + 10)
    (cond (within 97 b 102) (b - 97 + 10)
    16))
