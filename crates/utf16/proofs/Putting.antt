-- The loops of `put_chars`: storing the bytes of the characters that are left leads to the places and the count that storing those that were
-- left at the beginning leads to.
--     Putting         at the head of a loop, from place i₀ of the characters and at₀ of the bytes on, to i and at
--     begin           nothing is stored
--     here, then      an inner loop begins where the outer one is, and goes on for it
--     asks, again     one character: what its store asks, and after it
--     stretched       a stretch, for which there is room (run_room)
--     ended           no character is left
use Rattle.std.proofs.Common.{◌≡◌, ℕ, zero, suc, ◌+◌, ◌-◌, ◌*◌, ◌≤◌, ◌<◌, true, List, [], ◌∷◌, ◌++◌, length, get_or, take, drop, length-append, length-take, length-drop, get_or-drop, drop-drop, refl, sym, ap, ◌∙◌, add-one, arith}
use lib.Seq.{sets, length-sets, drop-cons, drop-length}
use Rattle.common.proofs.Kit.{both_true}
use Rattle.common.proofs.Lists.{sets_append}
use Rattle.scalars.specs.Chars.{is_char, are_chars}
use Rattle.scalars.proofs.Rows.{char_lt}
use Rattle.utf16.specs.declared.ByteOrder.{ByteOrder}
use Rattle.utf16.specs.Utf16.{units_of, serialised, utf16_of}
use Rattle.utf16.specs.Inner.{OneUnitTo}
use Rattle.utf16.proofs.Rows.{length_units_of, length_serial, utf16_cons}
use Rattle.utf16.proofs.Stretches.{short_list}

pub record Putting (o : ByteOrder) (cs out₀ : List ℕ) (at₀ i₀ : ℕ) (out : List ℕ) (at i : ℕ) : Type 0 where
  pub low : i ≤ length cs
  pub chars : are_chars (drop i cs) ≡ true
  pub room : at + 4 * (length cs - i) ≤ length out
  pub same : length out ≡ length out₀
  pub count : at + length (utf16_of o (drop i cs)) ≡ at₀ + length (utf16_of o (drop i₀ cs))
  pub places : sets out at (utf16_of o (drop i cs)) ≡ sets out₀ at₀ (utf16_of o (drop i₀ cs))

pub begin : (o : ByteOrder) (cs out : List ℕ) (at i : ℕ) → i ≤ length cs → are_chars (drop i cs) ≡ true → at + 4 * (length cs - i) ≤ length out →
    Putting o cs out at i out at i
begin o cs out at i l s h = record { low = l; chars = s; room = h; same = refl; count = refl; places = refl }

chars-drop : (m : ℕ) (cs : List ℕ) → are_chars cs ≡ true → are_chars (drop m cs) ≡ true
chars-drop zero cs h = h
chars-drop (suc m) [] h = refl
chars-drop (suc m) (c ∷ cs) h = chars-drop m cs (both_true (is_char c) (are_chars cs) h).1

module _ (o : ByteOrder) (cs out₀ : List ℕ) (at₀ i₀ : ℕ) (out : List ℕ) (at i : ℕ) (g : Putting o cs out₀ at₀ i₀ out at i) where
  pub here : Putting o cs out at i out at i
  here = begin o cs out at i g.low g.chars g.room

  pub then : (out₂ : List ℕ) (at₂ i₂ : ℕ) → Putting o cs out at i out₂ at₂ i₂ → Putting o cs out₀ at₀ i₀ out₂ at₂ i₂
  then out₂ at₂ i₂ f =
      record {
        low = f.low;
        chars = f.chars;
        room = f.room;
        same = f.same ∙ g.same;
        count = f.count ∙ g.count;
        places = f.places ∙ g.places;
      }

  -- one character
  module _ (h : i < length cs) where
    abbrev c : ℕ
    c = get_or cs i 0

    abbrev bytes : List ℕ
    bytes = serialised o (units_of c)

    left_is : drop i cs ≡ c ∷ drop (i + 1) cs
    left_is = rw add-one (drop-cons cs i 0 h)

    parts : (is_char c ≡ true) × (are_chars (drop (i + 1) cs) ≡ true)
    parts = both_true _ _ (rw left_is at g.chars)

    pub asks : (c < 0x110000) × (at + 4 ≤ length out)
    asks = (char_lt c parts.0, omega (arith, g.room))

    pub again : Putting o cs out₀ at₀ i₀ (sets out at bytes) (at + length bytes) (i + 1)
    again =
        let l = utf16_cons o c (drop (i + 1) cs) in
        record {
          low = omega arith;
          chars = parts.1;
          room = rw (length-sets out at bytes) (omega (arith, g.room, length_serial o (units_of c), length_units_of c));
          same = length-sets out at bytes ∙ g.same;
          count = omega (arith, simp (left_is, l, length-append) at g.count);
          places = sym (sets_append bytes (utf16_of o (drop (i + 1) cs)) out at) ∙ (rw (left_is, l) at g.places);
        }

  -- a stretch
  module _ (t : ℕ) (p : OneUnitTo cs i t) where
    abbrev run : List ℕ
    run = take (t - i) (drop i cs)

    length_run : length (serialised o run) ≡ 2 * (t - i)
    length_run = length_serial o run ∙ simp (length-take, length-drop) (omega (arith, p.begun, p.inside))

    here_is : i + (t - i) ≡ t
    here_is = omega (arith, p.begun)

    run-then : utf16_of o (drop i cs) ≡ serialised o run ++ utf16_of o (drop t cs)
    run-then =
        rw (drop-drop, here_is) at
        (short_list o (t - i) (drop i cs) (simp length-drop (omega (arith, p.begun, p.inside)))
        (λ x l. rw (get_or-drop i cs x 0) (p.each (i + x) (omega arith) (omega (arith, here_is)))))

    pub run_room : at + 2 * (t - i) ≤ length out
    run_room = omega (arith, g.room, p.inside)

    pub stretched : Putting o cs out₀ at₀ i₀ (sets out at (serialised o run)) (at + 2 * (t - i)) t
    stretched =
        record {
          low = p.inside;
          chars = rw (drop-drop, here_is) at (chars-drop (t - i) (drop i cs) g.chars);
          room = rw (length-sets out at (serialised o run)) (omega (arith, g.room, p.begun));
          same = length-sets out at (serialised o run) ∙ g.same;
          count = omega (arith, length_run, simp (run-then, length-append) at g.count);
          places =
              ap (λ (m : ℕ). sets (sets out at (serialised o run)) (at + m) (utf16_of o (drop t cs))) (sym length_run)
              ∙ sym (sets_append (serialised o run) (utf16_of o (drop t cs)) out at)
              ∙ (rw run-then at g.places);
        }

pub ended : (o : ByteOrder) (cs out₀ out : List ℕ) (at i : ℕ) → Putting o cs out₀ 0 0 out at i → length cs ≤ i →
    (at ≡ length (utf16_of o cs)) × (out ≡ sets out₀ 0 (utf16_of o cs))
unfolding utf16_of
ended o cs out₀ out at i g h =
    let e : i ≡ length cs = omega (arith, g.low) in
    (omega (arith, rw (e, drop-length) at g.count), rw (e, drop-length) at g.places)
