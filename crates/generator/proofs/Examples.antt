-- The definitions compute what others have of them: the first states of this generator as a book prints them, and the answers of the
-- comparison's oracle, which is plain Rust arithmetic. States and characters are hexadecimal.
--     published   the eleven states after 0
--     examples    the oracle's table, in which each of the 32 characters is picked
use Rattle.std.proofs.Common.{◌≡◌, ℕ, zero, suc, List, [], ◌∷◌, map, replicate, refl}
use Rattle.generator.specs.Generator.{next_of, back_of, listed, pick_of, fill_places, fill_state}

-- so many states from the one after s on
abbrev states : ℕ → ℕ → List ℕ
states zero s = []
states (suc n) s = next_of s ∷ states n (next_of s)

-- "the next is 1,664,525 × state + 1,013,904,223.": so Numerical Recipes in C, second edition, section 7.1, has it, with these states
-- after 0
pub published :
    states 11 0
    ≡ 0x3C6EF35F ∷ 0x47502932 ∷ 0xD1CCF6E9 ∷ 0xAAF95334 ∷ 0x6252E503 ∷ 0x9F2EC686 ∷ 0x57FE6C2D ∷ 0xA3D95FA8
    ∷ 0x81FDBEE7 ∷ 0x94F0AF1A ∷ 0xCBF633B1 ∷ []
unfolding next_of
published = refl

-- a seed, how many places are lent, the state handed back, the places afterwards; a state, and the one before
pub data Row : Type 0 where
  filling : ℕ → ℕ → ℕ → List ℕ → Row
  backwards : ℕ → ℕ → Row

-- by the definitions, and as the oracle has it
abbrev computed : Row → List ℕ
computed (filling seed n state places) = fill_state seed (replicate n 0) ∷ fill_places seed (replicate n 0)
computed (backwards state one-before) = back_of state ∷ []

abbrev expected : Row → List ℕ
expected (filling seed n state places) = state ∷ places
expected (backwards state one-before) = one-before ∷ []

-- "picks from this list of 32 by the top five bits of the new state": 44 steps from 235CC pick each of them; "It also steps a state back to
-- the one before."
abbrev table : List Row
table =
    filling 0x0 0 0x0 []
    ∷ filling 0x0 11 0xCBF633B1 (0x7 ∷ 0x18 ∷ 0x10FFFF ∷ 0x378 ∷ 0x20 ∷ 0xFEFF ∷ 0x6D ∷ 0x2126 ∷ 0xFB03 ∷ 0x85 ∷ 0x1F3FB ∷ [])
    ∷ filling 0x235CC 44 0x75CF6808 (
    0x48 ∷ 0x5B ∷ 0x34F ∷ 0x18 ∷ 0x61 ∷ 0xA ∷ 0x200D ∷ 0x40 ∷ 0x10FFFF ∷ 0x2126 ∷ 0x7 ∷ 0x378 ∷ 0xC ∷ 0x7E ∷ 0x903
    ∷ 0xFEFF ∷ 0x5B ∷ 0x9 ∷ 0xFB03 ∷ 0xFB03 ∷ 0x6D ∷ 0x3F ∷ 0x85 ∷ 0x3F ∷ 0x48 ∷ 0x7E ∷ 0x40 ∷ 0x7F ∷ 0x1F3FB ∷ 0xC
    ∷ 0x7 ∷ 0x2028 ∷ 0x20 ∷ 0x378 ∷ 0x7 ∷ 0x31 ∷ 0x5D ∷ 0x1B ∷ 0xFEFF ∷ 0x600 ∷ 0x378 ∷ 0xE9 ∷ 0xD ∷ 0x301 ∷ [])
    ∷ filling 0xFFFFFFFF 3 0x2283EC54 (0x7 ∷ 0x5D ∷ 0x1B ∷ [])
    ∷ backwards 0x0 0x25D60FE5
    ∷ backwards 0x3C6EF35F 0x0
    ∷ backwards 0x3C6EF35E 0x11FA73B
    ∷ backwards 0xFFFFFFFF 0x26F5B720
    ∷ []

pub examples : map computed table ≡ map expected table
unfolding next_of back_of listed pick_of fill_places fill_state
examples = refl
