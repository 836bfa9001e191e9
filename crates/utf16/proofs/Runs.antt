-- The loop of `put_short`: the bytes of what is left of a run, stored from the place at hand on, lead to the places that those of the whole
-- lead to.
--     StoringUnits    at the head of the loop
--     begin           no character is stored
--     again           one more
--     ended           all are
use Rattle.std.proofs.Common.{◌≡◌, ℕ, ◌+◌, ◌*◌, ◌≤◌, ◌<◌, List, [], ◌∷◌, length, get_or, drop, refl, sym, ap, ◌∙◌, add-one, add-zero, arith}
use lib.Seq.{sets, length-sets, drop-cons, drop-length}
use Rattle.common.proofs.Lists.{sets_append}
use Rattle.utf16.specs.declared.ByteOrder.{ByteOrder}
use Rattle.utf16.specs.Utf16.{first_byte, second_byte, serialised}

pub record StoringUnits (o : ByteOrder) (run out₀ : List ℕ) (at : ℕ) (out : List ℕ) (j : ℕ) : Type 0 where
  pub low : j ≤ length run
  pub room : at + 2 * length run ≤ length out
  pub same : length out ≡ length out₀
  pub left : sets out (at + 2 * j) (serialised o (drop j run)) ≡ sets out₀ at (serialised o run)

pub begin : (o : ByteOrder) (run out : List ℕ) (at : ℕ) → at + 2 * length run ≤ length out → StoringUnits o run out at out 0
begin o run out at h = record { low = omega arith; room = h; same = refl; left = rw add-zero }

module _ (o : ByteOrder) (run out₀ : List ℕ) (at : ℕ) (out : List ℕ) (j : ℕ) (g : StoringUnits o run out₀ at out j) where
  pub again : (c : ℕ) → j < length run → c ≡ get_or run j 0 → StoringUnits o run out₀ at (sets out (at + 2 * j) (first_byte o c ∷ second_byte o c ∷ [])) (j + 1)
  again c h e =
      let two = first_byte o c ∷ second_byte o c ∷ [] in
      let l : drop j run ≡ c ∷ drop (j + 1) run = rw (e, add-one) (drop-cons run j 0 h) in
      let m : at + 2 * (j + 1) ≡ at + 2 * j + 2 = omega arith in
      record {
        low = omega arith;
        room = rw (length-sets out (at + 2 * j) two) g.room;
        same = length-sets out (at + 2 * j) two ∙ g.same;
        left =
            ap (λ (n : ℕ). sets (sets out (at + 2 * j) two) n (serialised o (drop (j + 1) run))) m
            ∙ sym (sets_append two (serialised o (drop (j + 1) run)) out (at + 2 * j))
            ∙ (rw l at g.left);
      }

  pub ended : length run ≤ j → out ≡ sets out₀ at (serialised o run)
  ended h =
      let e : j ≡ length run = omega (arith, g.low) in
      rw (e, drop-length) at g.left
