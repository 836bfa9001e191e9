-- What the page says of characters, by computing. The ranges stand in it as they are, which gives the two laws for every character.
-- Characters and counts are written out here from the Standard, so that a page and a definition that are wrong alike break them.
--     nonstarter_is, assigned_is             a character's two answers are those of the ranges of Unicode's data
--     starters, nonstarters, not-assigned    characters by name
--     since_15, after_15                     the version: what 15.0 brought is assigned, what came later is not
--     assigned_count, nonstarter_count       how many characters there are of each kind
use mathlib.Core.Path.{◌≡◌, refl}
use mathlib.Core.Bool.{Bool, true, not, ◌&&◌}
use mathlib.Core.List.{List, [], ◌∷◌}
use Prim.Native.Nat.{ℕ, suc, ◌+◌, ◌-◌}
use Rattle.ranges.specs.Ranges.{member, firsts_of, lasts_of}
use Rattle.page.specs.Page.{nonstarter_firsts, nonstarter_lasts, assigned_firsts, assigned_lasts, nonstarter, assigned}
use Rattle.page_15.specs.Unicode.{nonstarter_ranges, assigned_ranges}
use Rattle.page_15.specs.Numbers.{numbers}

pub nonstarter_is : (c : ℕ) → nonstarter numbers c ≡ member (firsts_of nonstarter_ranges) (lasts_of nonstarter_ranges) c
unfolding nonstarter numbers
nonstarter_is c = refl

pub assigned_is : (c : ℕ) → assigned numbers c ≡ member (firsts_of assigned_ranges) (lasts_of assigned_ranges) c
unfolding assigned numbers
assigned_is c = refl

-- ---- characters by name
abbrev every : (ℕ → Bool) → List ℕ → Bool
every f [] = true
every f (c ∷ cs) = f c && every f cs

-- NUL, LINE FEED, SPACE, A, E9 (e with acute), COMBINING GRAPHEME JOINER, an ideograph, REPLACEMENT CHARACTER, AUTOMOBILE
pub starters :
    every (λ c. assigned numbers c && not (nonstarter numbers c))
    (0 ∷ 0xa ∷ 0x20 ∷ 0x41 ∷ 0xe9 ∷ 0x34f ∷ 0x4e2d ∷ 0xfffd ∷ 0x1f697 ∷ []) ≡ true
unfolding nonstarter assigned member numbers
starters = refl

-- grave and acute accent, the neighbours of 34F, HEBREW POINT RAFE, DEVANAGARI SIGN VIRAMA, the kana's voiced sound mark
pub nonstarters :
    every (λ c. assigned numbers c && nonstarter numbers c) (0x300 ∷ 0x301 ∷ 0x34e ∷ 0x350 ∷ 0x5bf ∷ 0x94d ∷ 0x3099 ∷ []) ≡ true
unfolding nonstarter assigned member numbers
nonstarters = refl

-- 378 and 379, which are unassigned; surrogates, private use, noncharacters; and a number that is no code point
pub not-assigned :
    every (λ c. not (assigned numbers c) && not (nonstarter numbers c))
    (0x378 ∷ 0x379 ∷ 0xd800 ∷ 0xdfff ∷ 0xe000 ∷ 0xf8ff ∷ 0xfdd0 ∷ 0xffff ∷ 0xf0000 ∷ 0x10fffd ∷ 0x10ffff ∷ 0x110000 ∷ []) ≡ true
unfolding nonstarter assigned member numbers
not-assigned = refl

-- ---- the version
-- new in 15.0: ARABIC SMALL LOW WORD SAKTA, MODIFIER LETTER CYRILLIC SMALL A, WIRELESS, both ends of the ideographs' extension H
pub since_15 : every (assigned numbers) (0x10efd ∷ 0x1e030 ∷ 0x1f6dc ∷ 0x31350 ∷ 0x323af ∷ []) ≡ true
unfolding assigned member numbers
since_15 = refl

-- new in 15.1: 2FFC, 31EF, both ends of the ideographs' extension I; in 16.0: CYRILLIC CAPITAL LETTER TJE, the first of Garay
pub after_15 : every (λ c. not (assigned numbers c)) (0x2ffc ∷ 0x31ef ∷ 0x2ebf0 ∷ 0x2ee5d ∷ 0x1c89 ∷ 0x10d40 ∷ []) ≡ true
unfolding assigned member numbers
after_15 = refl

-- ---- how many
-- how many numbers the ranges have, which share none
abbrev counted : List ℕ → List ℕ → ℕ
counted [] ls = 0
counted (f ∷ fs) [] = 0
counted (f ∷ fs) (l ∷ ls) = suc l - f + counted fs ls

-- The Unicode Standard 15.0 counts 149,186 characters, graphic and format; control codes are 65 more
pub assigned_count : counted (assigned_firsts numbers) (assigned_lasts numbers) ≡ 149186 + 65
unfolding numbers
assigned_count = refl

-- DerivedCombiningClass.txt counts 1,113,190 of the 1,114,112 code points in class 0
pub nonstarter_count : counted (nonstarter_firsts numbers) (nonstarter_lasts numbers) ≡ 1114112 - 1113190
unfolding numbers
nonstarter_count = refl
