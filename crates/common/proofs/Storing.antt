-- A loop that stores a run one by one from place k on: what is left of the run, stored from the place at hand on, leads to the places that
-- the whole leads to.
--     Storing    at the head of the loop
--     begin      no store yet
--     again      a store more
--     ended      all are stored
use Prim.Native.Nat.{ℕ, ◌+◌, ◌≤◌, ◌<◌}
use mathlib.Core.List.{List}
use mathlib.Core.Path.{◌≡◌, refl, ◌∙◌}
use native.Mathlib.Nat.{add-zero, add-suc}
use native.Mathlib.Numerals.{add-one}
use native.Mathlib.Omega.{arith}
use lib.ListN.{length, get_or, drop, set, length-set}
use lib.Seq.{sets, drop-cons, drop-length}

pub record Storing (run out₀ : List ℕ) (k : ℕ) (out : List ℕ) (j : ℕ) : Type 0 where
  pub low : j ≤ length run
  pub room : k + length run ≤ length out
  pub same : length out ≡ length out₀
  pub left : sets out (k + j) (drop j run) ≡ sets out₀ k run

pub begin : (run out : List ℕ) (k : ℕ) → k + length run ≤ length out → Storing run out k out 0
begin run out k h = record { low = omega arith; room = h; same = refl; left = rw add-zero }

module _ (run out₀ : List ℕ) (k : ℕ) (out : List ℕ) (j : ℕ) (g : Storing run out₀ k out j) where
  pub again : (c : ℕ) → j < length run → c ≡ get_or run j 0 → Storing run out₀ k (set out (k + j) c) (j + 1)
  again c h e =
      record {
        low = omega arith;
        room = simp length-set g.room;
        same = length-set out (k + j) c ∙ g.same;
        left = rw (e, add-one, add-suc) (rw (drop-cons run j 0 h) at g.left);
      }

  pub ended : length run ≤ j → out ≡ sets out₀ k run
  ended h =
      let e : j ≡ length run = omega (arith, g.low) in
      rw (e, drop-length) at g.left
