-- Lists of ranges at the bounds of each rule, by computing: which rise, and which numbers they have. The answers are the oracle's, with the
-- ranges as the nonstarters of a page whose assigned range is 0..377 (`P`), and for members that page and `L start`.
--     rising-rows, other-rows     lists that rise, and lists that do not
--     member-rows                 members, and numbers that are none
-- Tables without some characters, as the Rust's lists have them, and packed tables. The numbers are those of the script that writes the
-- lists, which is held to these very rows (harness/src/tables/packed.rs).
--     minus-rows                     tables without some characters
--     packed-rows, packed-counts     tables as numbers, and how many numbers a long range takes
--     unpacked-rows                  numbers as ranges
use mathlib.Core.Path.{◌≡◌, refl}
use mathlib.Core.Bool.{Bool, true, false}
use mathlib.Core.List.{List, [], ◌∷◌, map}
use Prim.Native.Nat.{ℕ}
use lib.ListN.{length}
use Rattle.ranges.specs.Ranges.{member, rises, minus}
use Rattle.ranges.specs.Packed.{first_in, last_in, firsts_in, lasts_in, packed}

-- whether each of these lists, its firsts and its lasts, rises
abbrev pub risen : List (List ℕ × List ℕ) → List Bool
risen rows = map (λ (r : List ℕ × List ℕ). rises 0 r.0 r.1) rows

-- "every first is at most its last, every first exceeds the last before it, and no last exceeds 10FFFF"
pub rising-rows :
    risen (
    ([], [])
    -- a range of one number
    ∷ (0x300 ∷ [], 0x300 ∷ [])
    ∷ (0x300 ∷ 0x302 ∷ [], 0x300 ∷ 0x302 ∷ [])
    -- a first one past the last before it
    ∷ (0x300 ∷ 0x302 ∷ [], 0x301 ∷ 0x303 ∷ [])
    -- the last character
    ∷ (0x350 ∷ [], 0x10FFFF ∷ [])
    ∷ (0x10FFFF ∷ [], 0x10FFFF ∷ [])
    ∷ []
    )
    ≡ true ∷ true ∷ true ∷ true ∷ true ∷ true ∷ []
unfolding rises
rising-rows = refl

pub other-rows :
    risen (
    (0x301 ∷ [], 0x300 ∷ [])
    ∷ (0x300 ∷ 0x303 ∷ [], 0x300 ∷ 0x302 ∷ [])
    -- a first that is the last before it
    ∷ (0x300 ∷ 0x301 ∷ [], 0x301 ∷ 0x303 ∷ [])
    ∷ (0x300 ∷ 0x300 ∷ [], 0x300 ∷ 0x301 ∷ [])
    -- past the last character
    ∷ (0x350 ∷ [], 0x110000 ∷ [])
    ∷ (0x300 ∷ 0x350 ∷ [], 0x301 ∷ 0x110000 ∷ [])
    ∷ []
    )
    ≡ false ∷ false ∷ false ∷ false ∷ false ∷ false ∷ []
unfolding rises
other-rows = refl

-- "Facts on range tables are proved over any rising list of ranges, then used for each.": the ranges E0..E2 and E9
pub member-rows :
    map (member (0xE0 ∷ 0xE9 ∷ []) (0xE2 ∷ 0xE9 ∷ [])) (0xDF ∷ 0xE0 ∷ 0xE1 ∷ 0xE2 ∷ 0xE3 ∷ 0xE8 ∷ 0xE9 ∷ 0xEA ∷ [])
    ≡ false ∷ true ∷ true ∷ true ∷ false ∷ false ∷ true ∷ false ∷ []
unfolding member
member-rows = refl

-- a table without 34F, without 890 and 891, and without all of a range; the first two are the Rust's
pub minus-rows :
    (minus 0x34F 0x34F ((0x300, 0x36F) ∷ (0x483, 0x487) ∷ (0x488, 0x489) ∷ []) ≡ (0x300, 0x34E) ∷ (0x350, 0x36F) ∷ (0x483, 0x487) ∷ (0x488, 0x489) ∷ [])
    × (minus 0x890 0x891 ((0x70F, 0x70F) ∷ (0x890, 0x891) ∷ (0x8E2, 0x8E2) ∷ []) ≡ (0x70F, 0x70F) ∷ (0x8E2, 0x8E2) ∷ [])
    × (minus 0x300 0x36F ((0x2FF, 0x300) ∷ (0x301, 0x301) ∷ (0x36F, 0x370) ∷ []) ≡ (0x2FF, 0x2FF) ∷ (0x370, 0x370) ∷ [])
minus-rows = (refl, refl, refl)

-- "the first character in the low 21 bits and the length less one above"
pub packed-rows :
    map packed (
    []
    -- one character: the first, the last, and one between
    ∷ ((0, 0) ∷ [])
    ∷ ((0x5BF, 0x5BF) ∷ [])
    ∷ ((0x10FFFF, 0x10FFFF) ∷ [])
    -- 79 characters, 32, and both
    ∷ ((0x300, 0x34E) ∷ [])
    ∷ ((0x350, 0x36F) ∷ [])
    ∷ ((0x300, 0x34E) ∷ (0x350, 0x36F) ∷ [])
    -- 2,048 characters, and one more
    ∷ ((0, 0x7FF) ∷ [])
    ∷ ((0, 0x800) ∷ [])
    -- 6,400 between two others
    ∷ ((0x300, 0x34E) ∷ (0xE000, 0xF8FF) ∷ (0x10FFFF, 0x10FFFF) ∷ [])
    ∷ []
    )
    ≡ []
    ∷ (0 ∷ [])
    ∷ (0x5BF ∷ [])
    ∷ (0x10FFFF ∷ [])
    ∷ (0x9C00300 ∷ [])
    ∷ (0x3E00350 ∷ [])
    ∷ (0x9C00300 ∷ 0x3E00350 ∷ [])
    ∷ (0xFFE00000 ∷ [])
    ∷ (0xFFE00000 ∷ 0x800 ∷ [])
    ∷ (0x9C00300 ∷ 0xFFE0E000 ∷ 0xFFE0E800 ∷ 0xFFE0F000 ∷ 0x1FE0F800 ∷ 0x10FFFF ∷ [])
    ∷ []
packed-rows = refl

-- "A range longer than 2,048 is stored as several, as few as will do.": 2,048, 2,049, 4,096, 4,097 characters up to the last one, and all
pub packed-counts :
    map (λ (f : ℕ). length (packed ((f, 0x10FFFF) ∷ []))) (0x10F800 ∷ 0x10F7FF ∷ 0x10F000 ∷ 0x10EFFF ∷ 0 ∷ [])
    ≡ 1 ∷ 2 ∷ 2 ∷ 3 ∷ 544 ∷ []
packed-counts = refl

-- the last number is no range of characters: all its bits are set
abbrev numbers : List ℕ
numbers = 0 ∷ 0x9C00300 ∷ 0x3E00350 ∷ 0xFFE00000 ∷ 0x10FFFF ∷ 0xFFFFFFFF ∷ []

pub unpacked-rows :
    (firsts_in numbers ≡ 0 ∷ 0x300 ∷ 0x350 ∷ 0 ∷ 0x10FFFF ∷ 0x1FFFFF ∷ [])
    × (lasts_in numbers ≡ 0 ∷ 0x34E ∷ 0x36F ∷ 0x7FF ∷ 0x10FFFF ∷ 0x2007FE ∷ [])
unfolding first_in last_in
unpacked-rows = (refl, refl)
