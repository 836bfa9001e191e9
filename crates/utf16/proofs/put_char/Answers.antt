-- `put_char` meets its contract: a character below 10000 is its unit, and any other has two, one behind the other.
use Prim.Native.Nat.{ℕ, ◌+◌, ◌-◌, ◌/◌, ◌%◌, ◌≤◌}
use mathlib.Core.List.{List, [], ◌∷◌}
use mathlib.Core.Path.{◌≡◌, refl, ◌∙◌}
use native.Mathlib.Omega.{arith}
use native.Mathlib.Numerals.{towards_suc}
use lib.ListN.{length}
use lib.Seq.{sets}
use Rattle.utf16.specs.declared.ByteOrder.{ByteOrder}
use Rattle.utf16.specs.Utf16.{units_of, first_byte, second_byte, serialised}
use Rattle.utf16.proofs.Rows.{row_one, row_two}
use Rattle.utf16.proofs.put_char.Goals as goal

-- the bytes of a unit
abbrev two : ByteOrder → ℕ → List ℕ
two o u = first_byte o u ∷ second_byte o u ∷ []

pair_written : (o : ByteOrder) (out mid last : List ℕ) (at c : ℕ) → 0x10000 ≤ c →
    mid ≡ sets out at (two o (0xD800 + (c - 0x10000) / 0x400)) → last ≡ sets mid (at + 2) (two o (0xDC00 + (c - 0x10000) % 0x400)) →
    (at + 4 ≡ at + length (serialised o (units_of c))) × (last ≡ sets out at (serialised o (units_of c)))
pair_written o out mid last at c h e f = rw (row_two c h) (refl, f ∙ rw e (simp towards_suc))

pub returns-then-c-lt65536 : goal.returns-then-c-lt65536
returns-then-c-lt65536 c = simp (row_one _ c.if-c-lt65536.true) (omega arith, c.put_unit.ensures)

pub returns : goal.returns
returns c = pair_written _ _ _ _ _ _ c.if-c-lt65536.false c.put_unit-2.ensures c.put_unit-3.ensures
