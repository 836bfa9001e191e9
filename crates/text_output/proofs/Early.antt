-- A fact of the number that refuses a write before its steps, from the same fact of each number that can. Idea: by the values of the tests,
-- in whatever order they come.
--     refusal_by_lem    of the number
--     bytes_by      of the number by which bytes refuse
use Prim.Native.Nat.{ℕ}
use mathlib.Core.List.{List}
use lib.Dec.{eqb, ltb}
use Rattle.common.proofs.Kit.{by, split}
use Rattle.page.specs.Page.{accepted}
use Rattle.text_output.specs.declared.TextOutput.{TextOutput}
use Rattle.text_output.specs.Writer.{machine_of, sound}
use Rattle.text_output.specs.Write.{input_refusal, places_for_write, write_refusal, bytes_refusal}

module _ (P : ℕ → Type 0) (zero : P 0) where
  pub refusal_by_lem : P 9 → P 2 → P 8 → (w : TextOutput) (p : List ℕ) (values n room : ℕ) → P values → P (write_refusal w p values n room)
  unfolding write_refusal
  refusal_by_lem nine two eight w p values n room v =
      let input : P (input_refusal w p values) =
      by (sound (machine_of w))
      (λ s. by (accepted p) (λ a. simp (s, a) search) (λ a. simp (s, a) search))
      (λ s. by (accepted p) (λ a. simp (s, a) search) (λ a. simp (s, a) search)) in
      split P (eqb (input_refusal w p values) 0) (λ e. split P (ltb room (places_for_write w n)) (λ r. eight) (λ r. zero)) (λ e. input)

  pub bytes_by : P 3 → (bytes chars : ℕ) → P (bytes_refusal bytes chars)
  bytes_by three bytes chars =
      by (ltb 0 bytes)
      (λ s. by (eqb chars 0) (λ t. simp (s, t) search) (λ t. simp (s, t) search))
      (λ s. by (eqb chars 0) (λ t. simp (s, t) search) (λ t. simp (s, t) search))
