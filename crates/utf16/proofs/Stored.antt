-- The loops of `store`: storing the characters of the units that are left leads to the places that storing those that were left at the
-- beginning leads to. The units of a stretch are their own characters.
--     Stored          at the head of a loop, from place i₀ of the units and k₀ of the places on, to i and k
--     begin           nothing is stored
--     here, then      an inner loop begins where the outer one is, and goes on for it
--     passed          a unit that gives no character; stored_one, one that gives one, for which there is room
--     stretched       a stretch, for which there is room (run_room)
--     ended           no unit is left
use Rattle.std.proofs.Common.{◌≡◌, ℕ, ◌+◌, ◌-◌, ◌≤◌, ◌<◌, true, false, List, ◌∷◌, ◌++◌, length, get_or, take, drop, set, length-set, length-append, length-take, length-drop, get_or-drop, drop-drop, refl, sym, ap, ◌∙◌, add-zero, add-one, arith}
use lib.Seq.{sets, length-sets, drop-cons, drop-length}
use Rattle.common.proofs.Lists.{sets_append}
use Rattle.utf16.specs.declared.ByteOrder.{ByteOrder}
use Rattle.utf16.specs.Reading.{units_in, is_low, next, char_of, chars_in}
use Rattle.utf16.specs.Inner.{PlainTo}
use Rattle.utf16.proofs.Units.{length_units}
use Rattle.utf16.proofs.Stretches.{plain_list}

pub record Stored (us out₀ : List ℕ) (k₀ i₀ : ℕ) (out : List ℕ) (k i : ℕ) : Type 0 where
  pub low : i ≤ length us
  pub fits : k₀ + length (chars_in (drop i₀ us)) ≤ length out₀
  pub same : length out ≡ length out₀
  pub count : k + length (chars_in (drop i us)) ≡ k₀ + length (chars_in (drop i₀ us))
  pub places : sets out k (chars_in (drop i us)) ≡ sets out₀ k₀ (chars_in (drop i₀ us))

pub begin : (us out : List ℕ) (k i : ℕ) → i ≤ length us → k + length (chars_in (drop i us)) ≤ length out → Stored us out k i out k i
begin us out k i l h = record { low = l; fits = h; same = refl; count = refl; places = refl }

module _ (us out₀ : List ℕ) (k₀ i₀ : ℕ) (out : List ℕ) (k i : ℕ) (g : Stored us out₀ k₀ i₀ out k i) where
  pub here : Stored us out k i out k i
  here = begin us out k i g.low (omega (arith, g.fits, g.same, g.count))

  pub then : (out₂ : List ℕ) (k₂ i₂ : ℕ) → Stored us out k i out₂ k₂ i₂ → Stored us out₀ k₀ i₀ out₂ k₂ i₂
  then out₂ k₂ i₂ f =
      record {
        low = f.low;
        fits = g.fits;
        same = f.same ∙ g.same;
        count = f.count ∙ g.count;
        places = f.places ∙ g.places;
      }

  -- one unit
  module _ (h : i < length us) where
    abbrev u : ℕ
    u = get_or us i 0

    left_is : drop i us ≡ u ∷ drop (i + 1) us
    left_is = rw add-one (drop-cons us i 0 h)

    next_is : next (drop (i + 1) us) ≡ get_or us (i + 1) 0
    next_is = rw add-zero at (get_or-drop (i + 1) us 0 0)

    pub passed : is_low u ≡ true → Stored us out₀ k₀ i₀ out k (i + 1)
    passed l =
        let e : chars_in (drop i us) ≡ chars_in (drop (i + 1) us) = rw (left_is, l) in
        record { low = omega arith; fits = g.fits; same = g.same; count = rw e at g.count; places = rw e at g.places }

    module _ (l : is_low u ≡ false) (c : ℕ) (v : c ≡ char_of u (get_or us (i + 1) 0)) where
      chars-are : chars_in (drop i us) ≡ c ∷ chars_in (drop (i + 1) us)
      chars-are = rw (left_is, l, next_is, v)

      pub room : k < length out
      room = omega (arith, g.fits, g.same, simp chars-are at g.count)

      pub stored_one : Stored us out₀ k₀ i₀ (set out k c) (k + 1) (i + 1)
      stored_one =
          record {
            low = omega arith;
            fits = g.fits;
            same = length-set out k c ∙ g.same;
            count = omega (arith, simp chars-are at g.count);
            places = rw (add-one k) (rw chars-are at g.places);
          }

pub ended : (us out₀ out : List ℕ) (k i : ℕ) → Stored us out₀ 0 0 out k i → length us ≤ i → out ≡ sets out₀ 0 (chars_in us)
ended us out₀ out k i g h =
    let e : i ≡ length us = omega (arith, g.low) in
    rw (e, drop-length) at g.places

-- a stretch: its units are stored as they are
module _ (o : ByteOrder) (bs out₀ : List ℕ) (k₀ i₀ : ℕ) (out : List ℕ) (k i t : ℕ)
    (g : Stored (units_in o bs) out₀ k₀ i₀ out k i) (p : PlainTo bs i t) where
  abbrev us : List ℕ
  us = units_in o bs

  abbrev run : List ℕ
  run = take (t - i) (drop i us)

  length_run : length run ≡ t - i
  length_run = simp (length-take, length-drop) (omega (arith, p.begun, p.inside, length_units o bs))

  run-then : chars_in (drop i us) ≡ run ++ chars_in (drop t us)
  run-then =
      let e : i + (t - i) ≡ t = omega (arith, p.begun) in
      rw (drop-drop, e) at
      (plain_list (t - i) (drop i us) (simp length-drop (omega (arith, p.begun, p.inside, length_units o bs)))
      (λ x l. rw (get_or-drop i us x 0) (p.each o (i + x) (omega arith) (omega (arith, e)))))

  run-count : k + ((t - i) + length (chars_in (drop t us))) ≡ k₀ + length (chars_in (drop i₀ us))
  run-count = omega (arith, length_run, simp (run-then, length-append) at g.count)

  pub run_room : k + (t - i) ≤ length out
  run_room = omega (arith, run-count, g.fits, g.same)

  pub stretched : Stored us out₀ k₀ i₀ (sets out k run) (k + (t - i)) t
  stretched =
      record {
        low = omega (arith, p.inside, length_units o bs);
        fits = g.fits;
        same = length-sets out k run ∙ g.same;
        count = omega (arith, run-count);
        places =
            ap (λ (m : ℕ). sets (sets out k run) (k + m) (chars_in (drop t us))) (sym length_run)
            ∙ sym (sets_append run (chars_in (drop t us)) out k)
            ∙ (rw run-then at g.places);
      }
