-- `replace::replace_by` meets its contract: with the option on, each arm is a row of `unit_signs`, and any other number has none.
use Prim.Native.Nat.{ℕ}
use mathlib.Core.Path.{◌≡◌, ◌∙◌}
use mathlib.Core.Bool.{Bool, true, false}
use mathlib.Core.Logic.{⊎_elim}
use native.Mathlib.Omega.{arith}
use borrow.Author.Tests.{leb-true}
use lib.Dec.{leb}
use Rattle.common.proofs.Kit.{by, both_true}
use Rattle.replace.specs.Table.{one, has}
use Rattle.replace.specs.Replace.{replace_of}
use Rattle.replace.proofs.replace_by.Goals as goal

no_row : (k c : ℕ) → (c ≡ k → ⊥) → has (one k) c ≡ false
no_row k c n =
    by (has (one k) c)
    (λ e. let g = both_true (leb k c) (leb c k) e in absurd (n (omega (arith, leb-true k c g.0, leb-true c k g.1)))) (λ e. e)

-- no row of the option has another number
others : (units : Bool) (c : ℕ) → units ≡ true → (c ≡ 0x2126 → ⊥) → (c ≡ 0x212a → ⊥) → (c ≡ 0x212b → ⊥) → replace_of false c ≡ replace_of units c
unfolding replace_of
others units c e a b d = rw (e, no_row 0x2126 c a, no_row 0x212a c b, no_row 0x212b c d)

off : (units : Bool) (c : ℕ) → units ≡ false → replace_of false c ≡ replace_of units c
off units c e = rw e

pub returns-in-8486 : goal.returns-in-8486
unfolding replace_of
returns-in-8486 c = simp (c.in-8486.is, c.if-units.true)

pub returns-in-8490 : goal.returns-in-8490
unfolding replace_of
returns-in-8490 c = simp (c.in-8490.is, c.if-units.true)

pub returns-in-8491 : goal.returns-in-8491
unfolding replace_of
returns-in-8491 c = simp (c.in-8491.is, c.if-units.true)

pub returns : goal.returns
returns c =
    c.replace.ensures ∙
    ⊎_elim (λ w. others _ _ w.if-units.true w.in_default.in_default-own.rest.0.0.1 w.in_default.in_default-own.rest.0.1 w.in_default.in_default-own.rest.1) (λ w. off _ _ w.if-units.false) c.if-units.branch-raw
