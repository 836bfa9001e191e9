-- `utf16::decode_utf16` meets its contract: its tests are those of `decode_answer`, in the same order. The characters are as many as the
-- units but for one unit of each pair.
-- what was found, read back
use Prim.Native.Nat.{ℕ, ◌-◌, ◌/◌, ◌%◌, ◌≤◌, ◌<◌}
use mathlib.Core.List.{List, [], ◌∷◌}
use mathlib.Core.Path.{◌≡◌, refl, sym, ◌∙◌}
use native.Mathlib.Omega.{arith}
use borrow.Author.Tests.{eq-eqb, ne_eqb, le-ltb, lt-ltb}
use lib.ListN.{length}
use lib.Seq.{sets}
use Rattle.common.proofs.Kit.{err_is}
use Rattle.utf16.specs.declared.ByteOrder.{ByteOrder}
use Rattle.utf16.specs.Reading.{units_in, unpaired_in, chars_in}
use Rattle.utf16.specs.Entries.{decoded_numbers, decode_answer, decode_places}
use Rattle.utf16.specs.Inner.{lows, found_by, found_in}
use Rattle.utf16.proofs.Units.{length_units}
use Rattle.utf16.proofs.Pairs.{length_chars}
use Rattle.utf16.specs.declared.DecodeError.{DecodeError}
use Rattle.utf16.specs.declared.DecodeError.TheVariants.{Unpaired}
use Rattle.std.specs.Prelude.{Ok, Err}
use Rattle.utf16.proofs.decode_utf16.Goals as goal

first_is : (l : List ℕ) (n : ℕ) (e : DecodeError) → found_by l n ≡ Err e → (i : ℕ) × (later : List ℕ) × (l ≡ i ∷ later) × (e ≡ Unpaired i)
first_is [] n e h = let z : ◌≡◌ {A = ℕ} 0 1 = cc in absurd (omega arith)
first_is (x ∷ later) n e h = let z : e ≡ Unpaired x = cc in (x, later, refl, z)

none_is : (l : List ℕ) (n p : ℕ) → found_by l n ≡ Ok p → (l ≡ []) × (p ≡ n)
none_is [] n p e = let z : n ≡ p = cc in (refl, sym z)
none_is (x ∷ later) n p e = let z : ◌≡◌ {A = ℕ} 0 1 = cc in absurd (omega arith)

module _ (o : ByteOrder) (bs out : List ℕ) where
  abbrev us : List ℕ
  us = units_in o bs

  abbrev Gives : List ℕ → List ℕ → Type 0
  Gives answer places = (answer ≡ decode_answer o bs out) × (places ≡ decode_places o bs out)

  odd : length bs % 2 ≡ 1 → Gives (14 ∷ []) out
  unfolding decode_answer decode_places
  odd h = rw (eq-eqb (length bs % 2) 1 h) (refl, refl)

  module _ (even : length bs % 2 ≡ 1 → ⊥) where
    refused : (i : ℕ) (later : List ℕ) (e : DecodeError) → unpaired_in us ≡ i ∷ later → e ≡ Unpaired i → Gives (decoded_numbers (Err e)) out
    unfolding decode_answer decode_places
    refused i later e l z = rw (ne_eqb (length bs % 2) 1 even, l, z) (refl, refl)

    unpaired : (e : DecodeError) → found_in us ≡ Err e → Gives (decoded_numbers (Err e)) out
    unpaired e h = let f = first_is (unpaired_in us) (lows us) e h in refused f.0 f.1 e f.2 f.3

    module _ (p : ℕ) (e : found_in us ≡ Ok p) where
      few : p ≤ length bs / 2
      few = omega (arith, (none_is (unpaired_in us) (lows us) p e).1, length_chars us, length_units o bs)

      -- how many characters there are
      chars : length bs / 2 - p ≡ length (chars_in us)
      chars = omega (arith, (none_is (unpaired_in us) (lows us) p e).1, length_chars us, length_units o bs)

      no_room : length out < length bs / 2 - p → Gives (8 ∷ []) out
      unfolding decode_answer decode_places
      no_room h =
          let l : unpaired_in us ≡ [] = (none_is (unpaired_in us) (lows us) p e).0 in
          rw (ne_eqb (length bs % 2) 1 even, l, ← chars, lt-ltb (length out) (length bs / 2 - p) h) (refl, refl)

      decoded : length bs / 2 - p ≤ length out → Gives (0 ∷ (length bs / 2 - p) ∷ []) (sets out 0 (chars_in us))
      unfolding decode_answer decode_places
      decoded h =
          let l : unpaired_in us ≡ [] = (none_is (unpaired_in us) (lows us) p e).0 in
          rw (ne_eqb (length bs % 2) 1 even, l, ← chars, le-ltb (length out) (length bs / 2 - p) h) (refl, refl)

pub returns-then-bytes-eq1 : goal.returns-then-bytes-eq1
returns-then-bytes-eq1 c =
    let r = odd _ _ _ c.if-bytes-eq1.true in
    record { answer = r.0; places = r.1 }

pub overflow_sub-n : goal.overflow_sub-n
overflow_sub-n c =
    let a = c.args in
    few a.order a.bytes.now a.out.now c.if-bytes-eq1.false _ (sym c.look_over.ensures ∙ c.in_ok-pairs.was)

pub returns-then-out-n : goal.returns-then-out-n
returns-then-out-n c =
    let r = no_room _ _ _ c.if-bytes-eq1.false _ (sym c.look_over.ensures ∙ c.in_ok-pairs.was) c.if-out-n.true in
    record { answer = r.0; places = r.1 }

pub store-requires : goal.store-requires
store-requires c =
    let a = c.args in
    omega (arith, chars a.order a.bytes.now a.out.now c.if-bytes-eq1.false _ (sym c.look_over.ensures ∙ c.in_ok-pairs.was), c.if-out-n.false)

pub returns-in_err-pairs : goal.returns-in_err-pairs
returns-in_err-pairs c =
    let r = unpaired _ _ _ c.if-bytes-eq1.false _ (sym c.look_over.ensures ∙ c.in_err-pairs.was) in
    record { answer = rw (err_is _ _ c.from_residual.ensures.1) r.0; places = r.1 }

pub returns : goal.returns
returns c =
    let d = decoded _ _ _ c.if-bytes-eq1.false _ (sym c.look_over.ensures ∙ c.in_ok-pairs.was) c.if-out-n.false in
    record { answer = d.0; places = rw c.store.ensures d.1 }
