-- The order of refusals of the check.
--     check_order    it is refused by 1, then by 4
use Prim.Native.Nat.{ℕ}
use mathlib.Core.Path.{◌≡◌, refl}
use mathlib.Core.Bool.{Bool, true, false, cond, not, ◌&&◌, ◌||◌}
use mathlib.Core.List.{List, [], ◌∷◌}
use lib.Dec.{eqb, leb, ltb}
use Rattle.common.specs.Answers.{refusal_in}
use Rattle.common.specs.Order.{◌when◌, first_of}
use Rattle.scalars.specs.Chars.{is_char}
use Rattle.check_char.specs.Check.{reason_of, check_by, check_answer}

-- by the flags of the two tests
by_flags : (b z : Bool) (ns : List ℕ) →
    refusal_in (cond (not b) (cond z (0 ∷ []) (4 ∷ ns)) (1 ∷ [])) ≡ first_of (1 when b ∷ 4 when not z ∷ [])
by_flags true z ns = refl
by_flags false true ns = refl
by_flags false false ns = refl

-- "Entries on one character give 1 .. the check then 4.": "1 a value in D800..DFFF or above 10FFFF.", "4 a character refused by
-- `check_basic_text_char`"
pub check_order : (units : Bool) (c : ℕ) →
    refusal_in (check_answer units c) ≡ first_of (1 when ((leb 0xd800 c && leb c 0xdfff) || ltb 0x10ffff c) ∷ 4 when not (eqb (reason_of c) 0) ∷ [])
unfolding is_char
check_order units c = by_flags ((leb 0xd800 c && leb c 0xdfff) || ltb 0x10ffff c) (eqb (reason_of c) 0) (check_by units c)
