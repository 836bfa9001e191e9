-- The sets by which the steps go (specs/Sets.antt) are those of the pieces (specs/PieceSets.antt), for every number.
--     parameter_is, final_is, string_end_is, up_to_is, newline_char_is    each pair
use Prim.Native.Nat.{ℕ}
use mathlib.Core.Path.{◌≡◌, refl}
use mathlib.Core.Bool.{Bool, true, false, ◌||◌}
use native.Mathlib.Omega.{arith}
use borrow.Author.Tests.{le-leb}
use lib.Dec.{eqb}
use Rattle.text_input_parts.specs.Sets.{parameter, final, string_end, up_to7_f, newline_char}
use Rattle.text_input_parts.specs.PieceSets.{parameter_char, final_char, string_last, low_char, cr_or_lf}

or_swap : (a b : Bool) → a || b ≡ b || a
or_swap true true = refl
or_swap true false = refl
or_swap false true = refl
or_swap false false = refl

-- "20..3F"
pub parameter_is : (c : ℕ) → parameter c ≡ parameter_char c
unfolding parameter parameter_char
parameter_is c = refl

-- "one of 40..7E or 18"
pub final_is : (c : ℕ) → final c ≡ final_char c
unfolding final final_char
final_is c = refl

-- "07 or 18"
pub string_end_is : (c : ℕ) → string_end c ≡ string_last c
unfolding string_end string_last
string_end_is c = refl

-- "up to 7F"
pub up_to_is : (c : ℕ) → up_to7_f c ≡ low_char c
unfolding up_to7_f low_char
up_to_is c = rw (le-leb 0 c (omega arith))

-- "0D or 0A"
pub newline_char_is : (c : ℕ) → newline_char c ≡ cr_or_lf c
unfolding newline_char cr_or_lf
newline_char_is c = or_swap (eqb c 0x0A) (eqb c 0x0D)
