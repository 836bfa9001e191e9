-- The generator of awkward text: its state, the list that it picks from, and what it fills. Document 02, A.6. Characters are hexadecimal.
use Rattle.std.specs.Prelude.{ℕ, zero, suc, ◌+◌, ◌-◌, ◌*◌, ◌/◌, ◌%◌, ◌^◌, List, [], ◌∷◌, length, slice_index}

-- ---- the state, a number below 2^32: what a step multiplies it by, and what it adds
abbrev pub factor : ℕ
factor = 1664525

abbrev pub addend : ℕ
addend = 1013904223

-- "A 32-bit state is multiplied and added modulo 2^32: the next is 1,664,525 × state + 1,013,904,223."
unfoldable pub next_of : ℕ → ℕ
next_of s = (factor * s + addend) % 2 ^ 32

-- the state after so many steps
abbrev pub after : ℕ → ℕ → ℕ
after zero s = s
after (suc n) s = after n (next_of s)

-- the number whose product with the factor is 1 modulo 2^32
abbrev pub inverse : ℕ
inverse = 4276115653

-- the state before: what was added is taken away, and the factor undone. "It also steps a state back to the one before."
unfoldable pub back_of : ℕ → ℕ
back_of s = (inverse * (s + (2 ^ 32 - addend))) % 2 ^ 32

-- ---- the characters
-- "this list of 32 .. in hexadecimal: 61 0A 0D 0C 1B 5B 5D 07 18 31 6D 48 20 E9 301 200D FB03 2028 85 FEFF 2126 378
-- 34F 600 903 1F3FB 10FFFF 7F 40 3F 7E 9"
unfoldable pub listed : List ℕ
listed =
    0x61 ∷ 0x0A ∷ 0x0D ∷ 0x0C ∷ 0x1B ∷ 0x5B ∷ 0x5D ∷ 0x07 ∷ 0x18 ∷ 0x31 ∷ 0x6D ∷ 0x48 ∷ 0x20 ∷ 0xE9 ∷ 0x301 ∷ 0x200D
    ∷ 0xFB03 ∷ 0x2028 ∷ 0x85 ∷ 0xFEFF ∷ 0x2126 ∷ 0x378 ∷ 0x34F ∷ 0x600 ∷ 0x903 ∷ 0x1F3FB ∷ 0x10FFFF ∷ 0x7F ∷ 0x40 ∷ 0x3F ∷ 0x7E ∷ 0x9 ∷ []

-- the one that a new state picks: "by the top five bits of the new state". A state is below 2^32, so that none leads past the list's end,
-- where 0 stands
unfoldable pub pick_of : ℕ → ℕ
pick_of s = slice_index listed (s / 2 ^ 27)

-- those of so many steps from a state on: "Each step picks from this list"
abbrev pub picks : ℕ → ℕ → List ℕ
picks zero s = []
picks (suc n) s = pick_of (next_of s) ∷ picks n (next_of s)

-- ---- filling: what a lent slice holds afterwards, and the state that is handed back. "The generator fills a lent slice and hands back its
-- state."
unfoldable pub fill_places : ℕ → List ℕ → List ℕ
fill_places s out = picks (length out) s

unfoldable pub fill_state : ℕ → List ℕ → ℕ
fill_state s out = after (length out) s
