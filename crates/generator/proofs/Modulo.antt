-- A number multiplied and added to modulo m, and the way back: for any m, factor a and addend c, and a number b whose product with a is 1
-- modulo m. Idea: below a `% m` another one may stand or not, and what is added may be taken away by adding the rest up to m.
--     mul-mod      the inner `% m` of a product
--     taken_away   an addend, taken away again
--     back_step    back from where a step led
--     step_back    a step from where the way back led
use Rattle.std.proofs.Common.{◌≡◌, ℕ, ◌+◌, ◌-◌, ◌*◌, ◌/◌, ◌%◌, ◌<◌, ◌≤◌, sym, ap, ◌∙◌, add_assoc, mod-eq_of_lt, mul_assoc, mul_comm, add-sub_of_le, mul-one, mul-add, sub-add_cancel, mul_left_comm}
use native.Mathlib.Nat.{mod-add-div, mod-add-mod, add-mod_right, add-mul-mod_self_left}

pub mul-mod : (k x m : ℕ) → (k * (x % m)) % m ≡ (k * x) % m
mul-mod k x m =
    sym
    (ap (λ (y : ℕ). (k * y) % m) (sym (mod-add-div x m))
    ∙ ap (λ (y : ℕ). y % m) (mul-add k (x % m) (m * (x / m)) ∙ ap (λ (y : ℕ). k * (x % m) + y) (mul_left_comm k m (x / m)))
    ∙ add-mul-mod_self_left (k * (x % m)) m (k * (x / m)))

pub taken_away : (m c x : ℕ) → c ≤ m → ((x + c) % m + (m - c)) % m ≡ x % m
taken_away m c x fits =
    mod-add-mod (x + c) m (m - c)
    ∙ ap (λ (y : ℕ). y % m) (add_assoc x c (m - c) ∙ ap (λ (y : ℕ). x + y) (add-sub_of_le fits))
    ∙ add-mod_right x m

module _ (m a b c : ℕ) (inverse : (a * b) % m ≡ 1) (fits : c ≤ m) where
  -- factor and inverse together do nothing
  undone : (x : ℕ) → (a * (b * x)) % m ≡ x % m
  undone x =
      ap (λ (y : ℕ). y % m) (sym (mul_assoc a b x) ∙ mul_comm (a * b) x)
      ∙ sym (mul-mod x (a * b) m) ∙ ap (λ (y : ℕ). (x * y) % m) inverse ∙ ap (λ (y : ℕ). y % m) (mul-one x)

  pub back_step : (s : ℕ) → s < m → (b * ((a * s + c) % m + (m - c))) % m ≡ s
  back_step s h =
      sym (mul-mod b ((a * s + c) % m + (m - c)) m)
      ∙ ap (λ (y : ℕ). (b * y) % m) (taken_away m c (a * s) fits) ∙ mul-mod b (a * s) m
      ∙ ap (λ (y : ℕ). y % m) (mul_left_comm b a s) ∙ undone s ∙ mod-eq_of_lt h

  pub step_back : (s : ℕ) → s < m → (a * ((b * (s + (m - c))) % m) + c) % m ≡ s
  step_back s h =
      let t : ℕ = s + (m - c) in
      sym (mod-add-mod (a * ((b * t) % m)) m c)
      ∙ ap (λ (y : ℕ). (y + c) % m) (mul-mod a (b * t) m ∙ undone t) ∙ mod-add-mod t m c
      ∙ ap (λ (y : ℕ). y % m) (add_assoc s (m - c) c ∙ ap (λ (y : ℕ). s + y) (sub-add_cancel fits))
      ∙ add-mod_right s m ∙ mod-eq_of_lt h
