-- Pages at the bounds of each clause, by computing: which are accepted. The answers are the oracle's (`P` of its scripts), whose test of a
-- page is a second reading of document 01; the Rust has no page.
--     rows       short pages, each clause at both sides of its bound
--     counts     pages of 2,048 and of 2,049 ranges, in each group
use mathlib.Core.Path.{◌≡◌, refl}
use mathlib.Core.Bool.{Bool, true, false}
use mathlib.Core.List.{List, [], ◌∷◌, ◌++◌, map}
use Prim.Native.Nat.{ℕ, zero, suc, ◌+◌}
use Rattle.ranges.specs.Ranges.{member, rises}
use Rattle.page.specs.Page.{sized, rising, nonstarter, assigned, accepted}

abbrev right : List (List ℕ)
right =
    (0 ∷ 1 ∷ 0 ∷ 0x377 ∷ [])
    -- "no last exceeds 10FFFF"
    ∷ (0 ∷ 1 ∷ 0 ∷ 0x10FFFF ∷ [])
    ∷ (1 ∷ 1 ∷ 0x350 ∷ 0 ∷ 0x10FFFF ∷ 0x377 ∷ [])
    -- "every first is at most its last": a range of one character
    ∷ (1 ∷ 1 ∷ 0x300 ∷ 0 ∷ 0x300 ∷ 0x377 ∷ [])
    ∷ (0 ∷ 2 ∷ 0xA ∷ 0x34F ∷ 0xA ∷ 0x34F ∷ [])
    -- "every first exceeds the last before it": by one
    ∷ (0 ∷ 2 ∷ 0 ∷ 0x378 ∷ 0x377 ∷ 0x379 ∷ [])
    ∷ (2 ∷ 1 ∷ 0x300 ∷ 0x302 ∷ 0 ∷ 0x301 ∷ 0x303 ∷ 0x377 ∷ [])
    -- the same characters in both groups
    ∷ (1 ∷ 1 ∷ 0x61 ∷ 0 ∷ 0x61 ∷ 0x377 ∷ [])
    -- nonstarters beside the marks, and assigned characters that are the marks alone
    ∷ (4 ∷ 2 ∷ 0 ∷ 0xB ∷ 0x21 ∷ 0x350 ∷ 0xA ∷ 0x34F ∷ 9 ∷ 0x1F ∷ 0x34E ∷ 0x377 ∷ 0xA ∷ 0x34F ∷ [])
    ∷ []

abbrev wrong : List (List ℕ)
wrong =
    -- "Sizes first"
    []
    ∷ (0 ∷ [])
    ∷ (0 ∷ 0 ∷ [])
    -- "The length is exactly 2 + 2 × (N + A)."
    ∷ (0 ∷ 1 ∷ 0 ∷ 0x377 ∷ 0 ∷ [])
    ∷ (0 ∷ 1 ∷ 0 ∷ 0x377 ∷ 0x378 ∷ 0x379 ∷ [])
    ∷ (0 ∷ 1 ∷ 0 ∷ [])
    ∷ (1 ∷ 1 ∷ 0 ∷ 0x377 ∷ [])
    -- "no last exceeds 10FFFF"
    ∷ (0 ∷ 1 ∷ 0 ∷ 0x110000 ∷ [])
    ∷ (1 ∷ 1 ∷ 0x350 ∷ 0 ∷ 0x110000 ∷ 0x377 ∷ [])
    -- "every first is at most its last"
    ∷ (0 ∷ 2 ∷ 0 ∷ 0x379 ∷ 0x377 ∷ 0x378 ∷ [])
    ∷ (1 ∷ 1 ∷ 0x301 ∷ 0 ∷ 0x300 ∷ 0x377 ∷ [])
    -- "every first exceeds the last before it"
    ∷ (0 ∷ 2 ∷ 0 ∷ 0x377 ∷ 0x377 ∷ 0x379 ∷ [])
    ∷ (2 ∷ 1 ∷ 0x300 ∷ 0x301 ∷ 0 ∷ 0x301 ∷ 0x303 ∷ 0x377 ∷ [])
    -- "000A and 034F are assigned"
    ∷ (0 ∷ 2 ∷ 0 ∷ 0xB ∷ 9 ∷ 0x377 ∷ [])
    ∷ (0 ∷ 2 ∷ 0 ∷ 0x350 ∷ 0x34E ∷ 0x377 ∷ [])
    -- "000A, 0020 and 034F are no nonstarters"
    ∷ (1 ∷ 1 ∷ 0xA ∷ 0 ∷ 0xA ∷ 0x377 ∷ [])
    ∷ (1 ∷ 1 ∷ 0x20 ∷ 0 ∷ 0x20 ∷ 0x377 ∷ [])
    ∷ (1 ∷ 1 ∷ 0x34F ∷ 0 ∷ 0x34F ∷ 0x377 ∷ [])
    ∷ []

-- the list of as many answers
abbrev always : Bool → List (List ℕ) → List Bool
always b [] = []
always b (p ∷ ps) = b ∷ always b ps

pub rows : (map accepted right ≡ always true right) × (map accepted wrong ≡ always false wrong)
unfolding accepted sized rising nonstarter assigned member rises
rows = (refl, refl)

-- n ranges of one character each, from c on, with one between: their firsts, which are their lasts
abbrev singles : ℕ → ℕ → List ℕ
singles zero c = []
singles (suc n) c = c ∷ singles n (c + 2)

-- n nonstarters from 400 on, and 0..377 with a more assigned from 400 on
abbrev of_counts : ℕ → ℕ → List ℕ
of_counts n a = n ∷ suc a ∷ (singles n 0x400 ++ (0 ∷ singles a 0x400)) ++ (singles n 0x400 ++ (0x377 ∷ singles a 0x400))

-- "N nonstarter ranges, A assigned ranges (0 to 2,048 each)"
pub counts : map accepted (of_counts 2048 2047 ∷ of_counts 2049 0 ∷ of_counts 0 2048 ∷ []) ≡ true ∷ false ∷ false ∷ []
unfolding accepted sized rising nonstarter assigned member rises
counts = refl
