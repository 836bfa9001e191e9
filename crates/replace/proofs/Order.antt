-- The order of refusals of `replacement`.
--     replacement_order    it is refused by 1 alone
use Prim.Native.Nat.{ℕ}
use mathlib.Core.Path.{◌≡◌, refl}
use mathlib.Core.Bool.{Bool, true, false, cond, not, ◌&&◌, ◌||◌}
use mathlib.Core.List.{[], ◌∷◌}
use lib.Dec.{leb, ltb}
use Rattle.common.specs.Answers.{refusal_in}
use Rattle.common.specs.Order.{◌when◌, first_of}
use Rattle.scalars.specs.Chars.{is_char}
use Rattle.replace.specs.declared.Replaced.{Replaced}
use Rattle.replace.specs.Replace.{chars, replace_of, replacement_of}

-- by the flag of the test
by_flag : (b : Bool) (r : Replaced) → refusal_in (cond (not b) (0 ∷ chars r) (1 ∷ [])) ≡ first_of (1 when b ∷ [])
by_flag true r = refl
by_flag false r = refl

-- "Entries on one character give 1 (the start class 2, then 1)": "1 a value in D800..DFFF or above 10FFFF."
pub replacement_order : (units : Bool) (c : ℕ) →
    refusal_in (replacement_of units c) ≡ first_of (1 when ((leb 0xd800 c && leb c 0xdfff) || ltb 0x10ffff c) ∷ [])
unfolding is_char
replacement_order units c = by_flag ((leb 0xd800 c && leb c 0xdfff) || ltb 0x10ffff c) (replace_of units c)
