-- Going by cases on a test.
--     by, by_lt     a fact by the two cases of a flag, of an order
--     split         a fact of a `cond` by its two cases
--     never         what follows from a contradiction
--     both_true     the parts of an `&&` that holds
--     both          the other way
--     or_cases      an `||` that holds, by its parts
--     err_is        what `?` makes of an error
--     tests         `search tests` closes a return of an `if` chain whose definition is a chain of `cond` over the same tests;
--                   `yes`, `no`, `yes_by` and `no_by` are its rules
use Prim.Native.Nat.{ℕ, ◌≤◌, ◌<◌}
use mathlib.Core.Path.{◌≡◌, refl, sym, ap, ◌∙◌}
use mathlib.Core.Bool.{Bool, true, false, cond, ◌&&◌, ◌||◌}
use mathlib.Core.Logic.{◌⊎◌, inl, inr}
use native.Mathlib.Omega.{arith}
use lib.Dec.{ltb}
use Rattle.std.specs.Prelude.{Result, Ok, Err, IsErrAnd}
use borrow.Author.Tests.{ltb-true, ltb-false, eq-eqb, ne_eqb, lt-ltb, le-ltb, le-leb, lt-leb}

pub never : {P : Type 0} → false ≡ true → P
never {P} h = let z : ◌≡◌ {A = ℕ} 0 1 = cc in let e : ⊥ = omega arith in elim e as (λ (x : ⊥). P) [ ]

pub by : {P : Type 0} (b : Bool) → (b ≡ true → P) → (b ≡ false → P) → P
by true f g = f refl
by false f g = g refl

pub by_lt : {P : Type 0} (a b : ℕ) → (a < b → P) → (b ≤ a → P) → P
by_lt a b f g = by (ltb a b) (λ p. f (ltb-true a b p)) (λ p. g (ltb-false a b p))

pub split : {A : Type 0} (P : A → Type 0) (b : Bool) {x y : A} → (b ≡ true → P x) → (b ≡ false → P y) → P (cond b x y)
split P true f g = f refl
split P false f g = g refl

pub both_true : (b c : Bool) → b && c ≡ true → (b ≡ true) × (c ≡ true)
both_true true c h = (refl, h)
both_true false c h = never h

pub or_cases : (b c : Bool) → b || c ≡ true → (b ≡ true) ⊎ (c ≡ true)
or_cases true c h = inl refl
or_cases false c h = inr h

pub both : {b c : Bool} → b ≡ true → c ≡ true → b && c ≡ true
both p q = rw (p, q)

pub yes : {A : Type 0} (b : Bool) (x y z : A) → b ≡ true → z ≡ x → z ≡ cond b x y
yes b x y z p e = rw p e

pub no : {A : Type 0} (b : Bool) (x y z : A) → b ≡ false → z ≡ y → z ≡ cond b x y
no b x y z p e = rw p e

-- the same by the flag that a call returned
pub yes_by : {A : Type 0} (b f : Bool) (x y z : A) → f ≡ true → f ≡ b → z ≡ x → z ≡ cond b x y
yes_by b f x y z p q e = rw (sym q ∙ p) e

pub no_by : {A : Type 0} (b f : Bool) (x y z : A) → f ≡ false → f ≡ b → z ≡ y → z ≡ cond b x y
no_by b f x y z p q e = rw (sym q ∙ p) e

pub ruleset tests = (yes, no, yes_by, no_by, eq-eqb, ne_eqb, lt-ltb, le-ltb, le-leb, lt-leb)

-- the error of a result, by what is known of it
pub err_is : {A E : Type 0} (r : Result A E) (e : E) → IsErrAnd r (λ x. x ≡ e) → r ≡ Err e
err_is (Ok _) e h = elim h [ ]
err_is (Err x) e h = ap Err h
