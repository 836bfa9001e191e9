-- UTF-16 as the Unicode Standard 15.0 defines it, sections 3.9 and 3.10: the units that encode a character (D91), and the bytes of a unit in either order
-- (D96, D97). "The Unicode Standard defines both forms." Document 02, A.3.
use Rattle.std.specs.Prelude.{ℕ, ◌+◌, ◌-◌, ◌*◌, ◌/◌, ◌%◌, ◌≡◌, true, cond, List, [], ◌∷◌, ◌++◌, ltb}
use Rattle.scalars.specs.Chars.{are_chars}
use Rattle.utf16.specs.declared.ByteOrder.{ByteOrder}
use Rattle.utf16.specs.declared.ByteOrder.TheVariants.{Little, Big}

-- ---- the encoding form
-- the units of 16 bits that encode a character: D91, Table 3-5, where wwww = uuuuu - 1
--     0000..FFFF       xxxxxxxxxxxxxxxx            xxxxxxxxxxxxxxxx
--     10000..10FFFF    000uuuuuxxxxxxxxxxxxxxxx    110110wwwwxxxxxx 110111xxxxxxxxxx
unfoldable pub units_of : ℕ → List ℕ
units_of c =
    cond (ltb c 0x10000) (c ∷ [])
    ((0xD800 + (c / 0x10000 - 1) * 0x40 + c / 0x400 % 0x40) ∷ (0xDC00 + c % 0x400) ∷ [])

-- those of a list of characters
abbrev pub units_all : List ℕ → List ℕ
units_all [] = []
units_all (c ∷ cs) = units_of c ++ units_all cs

-- ---- the encoding schemes
-- a unit's byte that stands first, and the one that stands second
-- Unicode Standard, D96: "in big-endian format"
-- Unicode Standard, D97: "in little-endian format"
abbrev pub first_byte : ByteOrder → ℕ → ℕ
first_byte Big u = u / 256
first_byte Little u = u % 256

abbrev pub second_byte : ByteOrder → ℕ → ℕ
second_byte Big u = u % 256
second_byte Little u = u / 256

-- the bytes of units
abbrev pub serialised : ByteOrder → List ℕ → List ℕ
serialised o [] = []
serialised o (u ∷ us) = first_byte o u ∷ second_byte o u ∷ serialised o us

-- the bytes that encode a list of characters
unfoldable pub utf16_of : ByteOrder → List ℕ → List ℕ
utf16_of o cs = serialised o (units_all cs)

-- the bytes bs encode the characters cs
pub record Encodes (o : ByteOrder) (bs cs : List ℕ) : Type 0 where
  pub chars : are_chars cs ≡ true
  pub bytes : bs ≡ utf16_of o cs
