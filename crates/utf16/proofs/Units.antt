-- Bytes as units, and back, for either order: of this file `unit_low`, `byte_first`, `byte_second` and `unit_back` alone ask which.
--     big_endian, little_endian  a unit's bytes: the high one and then the low one; exchanged
--     length_units               a unit for every two bytes
--     units_inside, units_past   a loop's test, in units
--     unit_at                    the unit at a place, by its two bytes
--     units_take, bytes_take     the units of a start of the bytes; they are bytes
--     units_back                 units as bytes, read again
--     bytes_back                 an even number of bytes as units, written again
--     Sixteen, units_low         each unit of a list has 16 bits; those of bytes do
use Prim.Native.Nat.{ℕ, zero, suc, ◌+◌, ◌*◌, ◌/◌, ◌%◌, ◌≤◌, ◌<◌}
use mathlib.Core.Path.{◌≡◌, refl, sym, ap, ◌∙◌}
use mathlib.Core.List.{List, [], ◌∷◌}
use native.Mathlib.Omega.{arith}
use lib.ListN.{length, get_or, take, length-take, get_or-eq_default}
use lib.Seq.{get_or-take}
use Rattle.common.proofs.Kit.{by_lt}
use Rattle.utf16.specs.declared.ByteOrder.{ByteOrder}
use Rattle.utf16.specs.declared.ByteOrder.TheVariants.{Little, Big}
use Rattle.utf16.specs.Utf16.{first_byte, second_byte, serialised}
use Rattle.utf16.specs.Reading.{unit_of, units_in}
use Rattle.utf16.specs.Promises.{Bytes}

-- Unicode Standard, D96: "in big_endian format"
pub big_endian : (u : ℕ) → u < 0x10000 →
    (first_byte Big u * 256 + second_byte Big u ≡ u) × ((first_byte Big u < 256) × (second_byte Big u < 256))
big_endian u h = (omega arith, (omega arith, omega arith))

-- Unicode Standard, D97: "in little_endian format"
pub little_endian : (u : ℕ) → (first_byte Little u ≡ second_byte Big u) × (second_byte Little u ≡ first_byte Big u)
little_endian u = (refl, refl)

pub length_units : (o : ByteOrder) (bs : List ℕ) → length (units_in o bs) ≡ length bs / 2
length_units o [] = refl
length_units o (a ∷ []) = refl
length_units o (a ∷ b ∷ bs) = omega (arith, length_units o bs)

pub units_inside : (o : ByteOrder) (bs : List ℕ) (i : ℕ) → i < length bs / 2 → i < length (units_in o bs)
units_inside o bs i h = omega (arith, length_units o bs)

pub units_past : (o : ByteOrder) (bs : List ℕ) (i : ℕ) → length bs / 2 ≤ i → length (units_in o bs) ≤ i
units_past o bs i h = omega (arith, length_units o bs)

two_more : (n : ℕ) → 2 * suc n ≡ suc (suc (2 * n))
two_more n = omega arith

-- the unit whose bytes stand from a place on
abbrev unit_from : ByteOrder → List ℕ → ℕ → ℕ
unit_from o bs at = unit_of o (get_or bs at 0) (get_or bs (at + 1) 0)

from_more : (o : ByteOrder) (a b : ℕ) (bs : List ℕ) (at : ℕ) → unit_from o (a ∷ b ∷ bs) (suc (suc at)) ≡ unit_from o bs at
from_more o a b bs at =
    let e : suc (suc at) + 1 ≡ suc (suc (at + 1)) = omega arith in
    rw e

pub unit_at : (o : ByteOrder) (bs : List ℕ) (i : ℕ) → i < length bs / 2 → get_or (units_in o bs) i 0 ≡ unit_from o bs (2 * i)
unit_at o [] i h = absurd (omega arith)
unit_at o (a ∷ []) i h = absurd (omega arith)
unit_at o (a ∷ b ∷ bs) zero h = refl
unit_at o (a ∷ b ∷ bs) (suc i) h =
    unit_at o bs i (omega arith) ∙ sym (from_more o a b bs (2 * i)) ∙ ap (unit_from o (a ∷ b ∷ bs)) (sym (two_more i))

unit_low : (o : ByteOrder) (a b : ℕ) → a < 256 → b < 256 → unit_of o a b < 0x10000
unit_low Big a b h g = omega arith
unit_low Little a b h g = omega arith

pub units_take : (o : ByteOrder) (n : ℕ) (bs : List ℕ) → units_in o (take (2 * n) bs) ≡ take n (units_in o bs)
units_take o zero bs = refl
units_take o (suc n) [] = rw (two_more n)
units_take o (suc n) (a ∷ []) = rw (two_more n)
units_take o (suc n) (a ∷ b ∷ bs) = rw (two_more n) (ap (λ (l : List ℕ). unit_of o a b ∷ l) (units_take o n bs))

pub bytes_take : (n : ℕ) (bs : List ℕ) → Bytes bs → Bytes (take n bs)
bytes_take n bs k i =
    by_lt i n (λ h. rw (get_or-take n bs i 0 h) (k i))
    (λ h. rw (get_or-eq_default (take n bs) 0 {n = i} (omega (arith, length-take n bs))) (omega arith))

-- ---- and back
byte_first : (o : ByteOrder) (a b : ℕ) → a < 256 → b < 256 → first_byte o (unit_of o a b) ≡ a
byte_first Big a b h g = omega arith
byte_first Little a b h g = omega arith

byte_second : (o : ByteOrder) (a b : ℕ) → a < 256 → b < 256 → second_byte o (unit_of o a b) ≡ b
byte_second Big a b h g = omega arith
byte_second Little a b h g = omega arith

unit_back : (o : ByteOrder) (u : ℕ) → unit_of o (first_byte o u) (second_byte o u) ≡ u
unit_back Big u = omega arith
unit_back Little u = omega arith

module _ (o : ByteOrder) where
  pub units_back : (us : List ℕ) → units_in o (serialised o us) ≡ us
  units_back [] = refl
  units_back (u ∷ us) = rw (unit_back o u, units_back us)

  pub bytes_back : (bs : List ℕ) → Bytes bs → length bs % 2 ≡ 0 → serialised o (units_in o bs) ≡ bs
  bytes_back [] k e = refl
  bytes_back (a ∷ []) k e = absurd (omega arith)
  bytes_back (a ∷ b ∷ bs) k e =
      rw (byte_first o a b (k 0) (k 1), byte_second o a b (k 0) (k 1), bytes_back bs (λ i. k (suc (suc i))) (omega arith))

-- units of bytes have 16 bits
abbrev pub Sixteen : List ℕ → Type 0
Sixteen us = (i : ℕ) → get_or us i 0 < 0x10000

pub units_low : (o : ByteOrder) (bs : List ℕ) → Bytes bs → Sixteen (units_in o bs)
units_low o [] k i = omega arith
units_low o (a ∷ []) k i = omega arith
units_low o (a ∷ b ∷ bs) k zero = unit_low o a b (k 0) (k 1)
units_low o (a ∷ b ∷ bs) k (suc i) = units_low o bs (λ j. k (suc (suc j))) i
