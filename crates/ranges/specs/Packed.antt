-- Ranges stored as single numbers of 32 bits: document 02, A.2. A list of such numbers stands for the list of their ranges.
use Rattle.std.specs.Prelude.{◌≡◌, List, [], ◌∷◌, ◌++◌, map, ℕ, zero, suc, ◌+◌, ◌-◌, ◌*◌, ◌/◌, ◌%◌, ◌^◌}
use Rattle.ranges.specs.Ranges.{member, rises, firsts_of, lasts_of}

-- "store each range as one 32-bit number, the first character in the low 21 bits and the length less one above": the range from f to l
abbrev pub packed_range : ℕ → ℕ → ℕ
packed_range f l = (l - f) * 2 ^ 21 + f

-- the range that a number stands for: its first, and its last
unfoldable pub first_in : ℕ → ℕ
first_in n = n % 2 ^ 21

unfoldable pub last_in : ℕ → ℕ
last_in n = first_in n + n / 2 ^ 21

-- the ranges that a list of numbers stands for: their firsts, and their lasts
abbrev pub firsts_in : List ℕ → List ℕ
firsts_in q = map first_in q

abbrev pub lasts_in : List ℕ → List ℕ
lasts_in q = map last_in q

-- "A range longer than 2,048 is stored as several": k of 2,048 characters, and one of what is left
abbrev pub pieces : ℕ → ℕ → ℕ → List ℕ
pieces zero f l = packed_range f l ∷ []
pieces (suc k) f l = packed_range f (f + 2047) ∷ pieces k (f + 2048) l

-- "as few as will do": as many of 2,048 as leave one character or more (`fewest`, proofs/Fewest.antt)
abbrev pub packed : List (ℕ × ℕ) → List ℕ
packed [] = []
packed (r ∷ t) = pieces ((r.1 - r.0) / 2048) r.0 r.1 ++ packed t

-- "Each list still rises without overlap, and every class answers as before for each character.": a list of numbers and a table rise
-- alike and have the same members. So do any table of ranges of characters and its packed list (`packed_stands`, proofs/Packed.antt).
pub record StandsFor (t : List (ℕ × ℕ)) (q : List ℕ) : Type 0 where
  pub rise_alike : (m : ℕ) → rises m (firsts_in q) (lasts_in q) ≡ rises m (firsts_of t) (lasts_of t)
  pub same_members : (c : ℕ) → member (firsts_in q) (lasts_in q) c ≡ member (firsts_of t) (lasts_of t) c
