-- The rows of Table 3-5, and the bytes of a text character by character.
--     row_one, row_two     a character's units: itself, or a pair as RFC 2781, 2.1, makes it, by the 20 bits of c - 10000
--     length_serial        two bytes a unit
--     length_units_of      one unit or two
--     utf16_cons           a text's bytes are its first character's, and those of the others
use Prim.Native.Nat.{ℕ, ◌+◌, ◌-◌, ◌*◌, ◌/◌, ◌%◌, ◌≤◌, ◌<◌}
use mathlib.Core.Path.{◌≡◌, refl}
use mathlib.Core.List.{List, [], ◌∷◌, ◌++◌}
use native.Mathlib.Omega.{arith}
use borrow.Author.Tests.{lt-ltb, le-ltb}
use lib.ListN.{length}
use Rattle.common.proofs.Kit.{by_lt}
use Rattle.utf16.specs.declared.ByteOrder.{ByteOrder}
use Rattle.utf16.specs.Utf16.{units_of, units_all, serialised, utf16_of}

-- ---- a character's units
-- "The Unicode Standard defines both forms.": a character up to FFFF is its own unit
pub row_one : (c : ℕ) → c < 0x10000 → units_of c ≡ c ∷ []
unfolding units_of
row_one c h = simp (lt-ltb c 0x10000 h)

-- "The Unicode Standard defines both forms.", as RFC 2781, 2.1, has it: the ten high bits of c - 10000 go to the first unit, the ten low
-- ones to the second. With v = c - 10000 and q = v / 400: c / 10000 = 1 + q / 40, c / 400 = 40 + q and c % 400 = v % 400
pub row_two : (c : ℕ) → 0x10000 ≤ c → units_of c ≡ (0xD800 + (c - 0x10000) / 0x400) ∷ (0xDC00 + (c - 0x10000) % 0x400) ∷ []
unfolding units_of
row_two c h =
    let v = c - 0x10000 in
    let q = v / 0x400 in
    let a : c / 0x10000 ≡ 1 + q / 0x40 = omega arith in
    let b : c / 0x400 ≡ 0x40 + q = omega arith in
    let e : 0xD800 + (c / 0x10000 - 1) * 0x40 + c / 0x400 % 0x40 ≡ 0xD800 + q = rw (a, b) (omega arith) in
    let f : c % 0x400 ≡ v % 0x400 = omega arith in
    simp (le-ltb c 0x10000 h, e, f)

pub length_units_of : (c : ℕ) → (1 ≤ length (units_of c)) × (length (units_of c) ≤ 2)
length_units_of c = by_lt c 0x10000 (λ h. rw (row_one c h) (omega arith, omega arith)) (λ h. rw (row_two c h) (omega arith, omega arith))

-- ---- bytes
module _ (o : ByteOrder) where
  serial_append : (us vs : List ℕ) → serialised o (us ++ vs) ≡ serialised o us ++ serialised o vs
  serial_append [] vs = refl
  serial_append (u ∷ us) vs = rw (serial_append us vs)

  pub length_serial : (us : List ℕ) → length (serialised o us) ≡ 2 * length us
  length_serial [] = refl
  length_serial (u ∷ us) = omega (arith, length_serial us)

  pub utf16_cons : (c : ℕ) (cs : List ℕ) → utf16_of o (c ∷ cs) ≡ serialised o (units_of c) ++ utf16_of o cs
  unfolding utf16_of
  utf16_cons c cs = serial_append (units_of c) (units_all cs)
