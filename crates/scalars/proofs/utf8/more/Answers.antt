-- `scalars::utf8::more` meets its contract: past the end the byte is 0, which is no continuation byte; elsewhere its test
-- is `more_of`'s.
use Prim.Native.Nat.{ℕ, ◌≤◌}
use native.Mathlib.Omega.{arith}
use borrow.Author.Tests.{leb-true}
use lib.Dec.{leb}
use lib.ListN.{length, get_or-eq_default}
use Rattle.scalars.specs.Utf8.{continuation}
use Rattle.scalars.specs.Inner.{more_of}
use Rattle.common.proofs.Kit.{both_true}
use Rattle.scalars.proofs.utf8.more.Goals as goal

pub returns-then-bytes-i : goal.returns-then-bytes-i
unfolding more_of continuation
returns-then-bytes-i c =
    let a = c.args in
    let past : length a.bytes.now ≤ a.i = omega arith in
    simp (get_or-eq_default {A = ℕ} a.bytes.now 0 past)

pub overflow_sub-result : goal.overflow_sub-result
overflow_sub-result c = leb-true _ _ (both_true _ _ c.if-b.true).0

pub overflow_add-result : goal.overflow_add-result
overflow_add-result c =
    let b = c.from-b.result in
    omega (arith, leb-true b 0xBF (both_true (leb 0x80 b) (leb b 0xBF) c.if-b.true).1)

pub returns-then-b : goal.returns-then-b
unfolding more_of continuation
returns-then-b c = rw (← c.from-b.ensures) (simp c.if-b.true)

pub returns-else-b : goal.returns-else-b
unfolding more_of continuation
returns-else-b c = rw (← c.from-b.ensures) (simp c.if-b.false)
