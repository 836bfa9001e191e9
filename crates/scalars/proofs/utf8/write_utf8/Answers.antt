-- `scalars::write_utf8` meets its contract: each way stores the bytes of one row of the table, one by one.
use Rattle.std.proofs.Common.{refl, arith, length-set}
use native.Mathlib.Numerals.{towards_suc}
use Rattle.scalars.proofs.Rows.{char_lt, row1, row2, row3, row4, length_encode, long2, long3, long4, written}
use Rattle.scalars.proofs.utf8.write_utf8.Goals as goal

pub bounds-buf-at : goal.bounds-buf-at
bounds-buf-at c = omega (arith, length_encode c.args.c)

pub returns-then-c-lt128 : goal.returns-then-c-lt128
returns-then-c-lt128 c = written _ _ _ _ 1 (row1 _ c.if-c-lt128.true) refl refl

pub bounds-buf-at-then-c-lt2048 : goal.bounds-buf-at-then-c-lt2048
bounds-buf-at-then-c-lt2048 c = omega (arith, length_encode c.args.c)

pub bounds-buf-at-then-c-lt2048-2 : goal.bounds-buf-at-then-c-lt2048-2
bounds-buf-at-then-c-lt2048-2 c = simp length-set (omega (arith, long2 _ c.if-c-lt128.false))

pub returns-then-c-lt2048 : goal.returns-then-c-lt2048
returns-then-c-lt2048 c = written _ _ _ _ 2 (row2 _ c.if-c-lt128.false c.if-c-lt2048.true) refl (simp towards_suc)

pub bounds-buf-at-then-c-lt65536 : goal.bounds-buf-at-then-c-lt65536
bounds-buf-at-then-c-lt65536 c = omega (arith, length_encode c.args.c)

pub bounds-buf-at-then-c-lt65536-2 : goal.bounds-buf-at-then-c-lt65536-2
bounds-buf-at-then-c-lt65536-2 c = simp length-set (omega (arith, long3 _ c.if-c-lt2048.false))

pub bounds-buf-at-then-c-lt65536-3 : goal.bounds-buf-at-then-c-lt65536-3
bounds-buf-at-then-c-lt65536-3 c = simp length-set (omega (arith, long3 _ c.if-c-lt2048.false))

pub returns-then-c-lt65536 : goal.returns-then-c-lt65536
returns-then-c-lt65536 c = written _ _ _ _ 3 (row3 _ c.if-c-lt2048.false c.if-c-lt65536.true) refl (simp towards_suc)

pub overflow_cast-buf-2 : goal.overflow_cast-buf-2
overflow_cast-buf-2 c = omega (arith, char_lt _ c.requires.0)

pub bounds-buf-at-2 : goal.bounds-buf-at-2
bounds-buf-at-2 c = omega (arith, length_encode c.args.c)

pub bounds-buf-at-3 : goal.bounds-buf-at-3
bounds-buf-at-3 c = simp length-set (omega (arith, long4 _ c.if-c-lt65536.false))

pub bounds-buf-at-4 : goal.bounds-buf-at-4
bounds-buf-at-4 c = simp length-set (omega (arith, long4 _ c.if-c-lt65536.false))

pub bounds-buf-at-5 : goal.bounds-buf-at-5
bounds-buf-at-5 c = simp length-set (omega (arith, long4 _ c.if-c-lt65536.false))

pub returns : goal.returns
returns c = written _ _ _ _ 4 (row4 _ c.if-c-lt65536.false) refl (simp towards_suc)
