-- The Unicode Standard's own examples, and runs with the answers of the comparison's oracle, which has them from the Rust's
-- `char::decode_utf16` and `char::encode_utf16`: the definitions give the same, by computing both. Bytes, characters and
-- units are hexadecimal.
--     in_units, in_bytes              D91, D96 and D97: their example
--     read_examples, write_examples   the tables
use Prim.Native.Nat.{ℕ}
use mathlib.Core.Path.{◌≡◌, refl}
use mathlib.Core.List.{List, [], ◌∷◌, map}
use lib.ListN.{replicate}
use Rattle.common.specs.Answers.{written_numbers}
use Rattle.scalars.specs.Chars.{is_char}
use Rattle.utf16.specs.declared.ByteOrder.{ByteOrder}
use Rattle.utf16.specs.declared.ByteOrder.TheVariants.{Little, Big}
use Rattle.utf16.specs.Utf16.{units_of, units_all, utf16_of}
use Rattle.utf16.specs.Reading.{is_high, is_low, unpaired, unpaired_in, char_of}
use Rattle.utf16.specs.Entries.{decoded_numbers, decode_answer, decode_places, encode_answer, encode_places}
use Rattle.common.specs.declared.Refusal.{Refusal}
use Rattle.std.specs.Prelude.{Result, Ok, Err}
use Rattle.common.specs.declared.Refusal.TheVariants.{NotAChar, NoRoom as NoBytes}
use Rattle.utf16.specs.declared.DecodeError.{DecodeError}
use Rattle.utf16.specs.declared.DecodeError.TheVariants.{OddBytes, Unpaired, NoRoom}

-- ---- "The Unicode Standard defines both forms."
-- Unicode Standard, D91: "the code point sequence <004D, 0430, 4E8C, 10302> is represented as <004D 0430 4E8C D800 DF02>"
abbrev text : List ℕ
text = 0x4D ∷ 0x430 ∷ 0x4E8C ∷ 0x10302 ∷ []

pub in_units : units_all text ≡ 0x4D ∷ 0x430 ∷ 0x4E8C ∷ 0xD800 ∷ 0xDF02 ∷ []
unfolding units_of
in_units = refl

-- Unicode Standard, D96: "is serialized as <00 4D 04 30 4E 8C D8 00 DF 02>"
-- Unicode Standard, D97: "is serialized as <4D 00 30 04 8C 4E 00 D8 02 DF>"
pub in_bytes :
    (utf16_of Big text ≡ 0x00 ∷ 0x4D ∷ 0x04 ∷ 0x30 ∷ 0x4E ∷ 0x8C ∷ 0xD8 ∷ 0x00 ∷ 0xDF ∷ 0x02 ∷ [])
    × (utf16_of Little text ≡ 0x4D ∷ 0x00 ∷ 0x30 ∷ 0x04 ∷ 0x8C ∷ 0x4E ∷ 0x00 ∷ 0xD8 ∷ 0x02 ∷ 0xDF ∷ [])
unfolding units_of utf16_of
in_bytes = (refl, refl)

-- ---- reading and writing
-- an order, bytes or characters, how many blank places are lent, the code's answer, and the places afterwards
pub data Row : Type 0 where
  reading : ByteOrder → List ℕ → ℕ → Result ℕ DecodeError → List ℕ → Row
  writing : ByteOrder → List ℕ → ℕ → Result ℕ Refusal → List ℕ → Row

-- a place that is blank
abbrev ee : ℕ
ee = 0xEE

-- the answer's numbers and the places: by the definitions, and as the oracle has them
abbrev computed : Row → List (List ℕ)
computed (reading o bs room answer places) = decode_answer o bs (replicate room ee) ∷ decode_places o bs (replicate room ee) ∷ []
computed (writing o cs room answer places) = encode_answer o cs (replicate room ee) ∷ encode_places o cs (replicate room ee) ∷ []

abbrev expected : Row → List (List ℕ)
expected (reading o bs room answer places) = decoded_numbers answer ∷ places ∷ []
expected (writing o cs room answer places) = written_numbers answer ∷ places ∷ []

abbrev read_table : List Row
read_table =
    -- "Read and write both": a byte order each; nothing at all
    reading Little [] 0 (Ok 0) []
    ∷ reading Little (0x61 ∷ 0x00 ∷ []) 2 (Ok 1) (0x61 ∷ ee ∷ [])
    ∷ reading Big (0x00 ∷ 0x61 ∷ []) 2 (Ok 1) (0x61 ∷ ee ∷ [])
    ∷ reading Little (0x00 ∷ 0x61 ∷ []) 1 (Ok 1) (0x6100 ∷ [])
    -- the first and the last pair, and the units beside the surrogates
    ∷ reading Little (0x00 ∷ 0xD8 ∷ 0x00 ∷ 0xDC ∷ []) 1 (Ok 1) (0x10000 ∷ [])
    ∷ reading Big (0xDB ∷ 0xFF ∷ 0xDF ∷ 0xFF ∷ []) 2 (Ok 1) (0x10FFFF ∷ ee ∷ [])
    ∷ reading Big (0xD7 ∷ 0xFF ∷ 0xE0 ∷ 0x00 ∷ 0xFF ∷ 0xFF ∷ []) 3 (Ok 3) (0xD7FF ∷ 0xE000 ∷ 0xFFFF ∷ [])
    -- "U+FEFF is passed on as a character.": in its order, in the other, which is FFFE, and twice
    ∷ reading Little (0xFF ∷ 0xFE ∷ 0x61 ∷ 0x00 ∷ []) 2 (Ok 2) (0xFEFF ∷ 0x61 ∷ [])
    ∷ reading Big (0xFE ∷ 0xFF ∷ 0x00 ∷ 0x61 ∷ []) 2 (Ok 2) (0xFEFF ∷ 0x61 ∷ [])
    ∷ reading Big (0xFF ∷ 0xFE ∷ 0x61 ∷ 0x00 ∷ []) 2 (Ok 2) (0xFFFE ∷ 0x6100 ∷ [])
    ∷ reading Little (0xFE ∷ 0xFF ∷ 0x00 ∷ 0x61 ∷ []) 2 (Ok 2) (0xFFFE ∷ 0x6100 ∷ [])
    ∷ reading Big (0xFE ∷ 0xFF ∷ 0xFE ∷ 0xFF ∷ []) 2 (Ok 2) (0xFEFF ∷ 0xFEFF ∷ [])
    -- "14 for an odd number of bytes", also before an unpaired surrogate and for lack of room
    ∷ reading Little (0x61 ∷ []) 1 (Err OddBytes) (ee ∷ [])
    ∷ reading Little (0x00 ∷ 0xD8 ∷ 0x61 ∷ []) 0 (Err OddBytes) []
    -- "15 for an unpaired surrogate, with the first such unit's place counted from 0"
    ∷ reading Little (0x61 ∷ 0x00 ∷ 0x00 ∷ 0xD8 ∷ []) 2 (Err (Unpaired 1)) (ee ∷ ee ∷ [])
    ∷ reading Big (0xDC ∷ 0x00 ∷ 0xD8 ∷ 0x00 ∷ []) 2 (Err (Unpaired 0)) (ee ∷ ee ∷ [])
    ∷ reading Big (0xD8 ∷ 0x00 ∷ 0xD8 ∷ 0x00 ∷ 0xDC ∷ 0x00 ∷ []) 3 (Err (Unpaired 0)) (ee ∷ ee ∷ ee ∷ [])
    ∷ reading Big (0xD8 ∷ 0x00 ∷ 0xDC ∷ 0x00 ∷ 0xDC ∷ 0x00 ∷ []) 3 (Err (Unpaired 2)) (ee ∷ ee ∷ ee ∷ [])
    ∷ reading Little (0xFF ∷ 0xDB ∷ 0x61 ∷ 0x00 ∷ []) 2 (Err (Unpaired 0)) (ee ∷ ee ∷ [])
    ∷ reading Little (0x61 ∷ 0x00 ∷ 0xFF ∷ 0xDF ∷ []) 0 (Err (Unpaired 1)) []
    -- "Reading needs one place for each character decoded.": one too few, and as many
    ∷ reading Little (0x61 ∷ 0x00 ∷ 0x62 ∷ 0x00 ∷ []) 1 (Err NoRoom) (ee ∷ [])
    ∷ reading Little (0x61 ∷ 0x00 ∷ 0x62 ∷ 0x00 ∷ []) 2 (Ok 2) (0x61 ∷ 0x62 ∷ [])
    ∷ reading Big (0xD8 ∷ 0x3D ∷ 0xDE ∷ 0x00 ∷ []) 0 (Err NoRoom) []
    ∷ reading Big (0xD8 ∷ 0x3D ∷ 0xDE ∷ 0x00 ∷ []) 1 (Ok 1) (0x1F600 ∷ [])
    ∷ []

abbrev write_table : List Row
write_table =
    writing Big [] 0 (Ok 0) []
    ∷ writing Little (0x61 ∷ []) 5 (Ok 2) (0x61 ∷ 0x00 ∷ ee ∷ ee ∷ ee ∷ [])
    ∷ writing Big (0x20AC ∷ []) 4 (Ok 2) (0x20 ∷ 0xAC ∷ ee ∷ ee ∷ [])
    ∷ writing Little (0x10000 ∷ []) 4 (Ok 4) (0x00 ∷ 0xD8 ∷ 0x00 ∷ 0xDC ∷ [])
    ∷ writing Big (0x10FFFF ∷ []) 4 (Ok 4) (0xDB ∷ 0xFF ∷ 0xDF ∷ 0xFF ∷ [])
    ∷ writing Big (0x1F600 ∷ 0xFFFF ∷ []) 8 (Ok 6) (0xD8 ∷ 0x3D ∷ 0xDE ∷ 0x00 ∷ 0xFF ∷ 0xFF ∷ ee ∷ ee ∷ [])
    ∷ writing Little (0xFEFF ∷ []) 4 (Ok 2) (0xFF ∷ 0xFE ∷ ee ∷ ee ∷ [])
    ∷ writing Big (0xFFFE ∷ 0x61 ∷ []) 8 (Ok 4) (0xFF ∷ 0xFE ∷ 0x00 ∷ 0x61 ∷ ee ∷ ee ∷ ee ∷ ee ∷ [])
    -- "Writing needs 4 bytes of room for each character and gives 1 and 8 as elsewhere.": also where 2 would do
    ∷ writing Little (0x61 ∷ []) 3 (Err NoBytes) (ee ∷ ee ∷ ee ∷ [])
    ∷ writing Little (0x61 ∷ 0x62 ∷ []) 7 (Err NoBytes) (ee ∷ ee ∷ ee ∷ ee ∷ ee ∷ ee ∷ ee ∷ [])
    ∷ writing Little (0xD800 ∷ []) 4 (Err NotAChar) (ee ∷ ee ∷ ee ∷ ee ∷ [])
    ∷ writing Big (0x61 ∷ 0x110000 ∷ []) 0 (Err NotAChar) []
    ∷ []

pub read_examples : map computed read_table ≡ map expected read_table
unfolding is_high is_low unpaired unpaired_in char_of decode_answer decode_places
read_examples = refl

pub write_examples : map computed write_table ≡ map expected write_table
unfolding is_char units_of utf16_of encode_answer encode_places
write_examples = refl
