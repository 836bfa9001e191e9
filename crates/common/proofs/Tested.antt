-- A loop that tests so many places from `at` on, without an early exit: where its flag holds, all that were tested have the property.
--     Tested    at the head of the loop
--     begin     none was tested, and nothing is said
--     again     one more, with the flag of its test
--     ended     all were tested
use Prim.Native.Nat.{ℕ, ◌+◌, ◌≤◌, ◌<◌}
use mathlib.Core.Path.{◌≡◌}
use mathlib.Core.Bool.{Bool, true, ◌&&◌}
use native.Mathlib.Omega.{arith}
use Rattle.common.proofs.Kit.{both_true}
use Rattle.common.proofs.Places.{none, more}

pub record Tested (P : ℕ → Type 0) (at size : ℕ) (good : Bool) (tested : ℕ) : Type 0 where
  pub each : good ≡ true → (x : ℕ) → at ≤ x → x < at + tested → P x
  pub low : tested ≤ size

module _ (P : ℕ → Type 0) (at size : ℕ) where
  pub begin : (tested : ℕ) → tested ≤ 0 → Tested P at size true tested
  begin tested h = record { each = λ t. none P at (at + tested) (omega arith); low = omega arith }

  pub again : (good : Bool) (j : ℕ) → Tested P at size good j → j < size → (b : Bool) → (b ≡ true → P (at + j)) → Tested P at size (good && b) (j + 1)
  again good j g l b p =
      record {
        each = λ t.
            let x = both_true good b t in
            let e : at + (j + 1) ≡ at + j + 1 = omega arith in
            rw e (more P at (at + j) (g.each x.0) (p x.1));
        low = omega arith;
      }

  pub ended : (good : Bool) (j : ℕ) → Tested P at size good j → size ≤ j → good ≡ true → (x : ℕ) → at ≤ x → x < at + size → P x
  ended good j g l t = let e : j ≡ size = omega (arith, g.low) in rw e at (g.each t)
