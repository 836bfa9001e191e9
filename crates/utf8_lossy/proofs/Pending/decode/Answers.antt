-- What is left of the chunk leads to the same end as the whole (`Running`).
use Rattle.std.proofs.Common.{arith}
use Rattle.utf8_lossy.proofs.Room.{pending_short}
use Rattle.utf8_lossy.proofs.Calls.{decode_refused, decode_ended, decode_asks, decode_counts}
use Rattle.utf8_lossy.proofs.Pending.decode.Goals as goal

pub returns-then-out-bytes : goal.returns-then-out-bytes
returns-then-out-bytes c = decode_refused _ _ _ (grind arith) c.if-out-bytes.true

pub put-written-requires : goal.put-written-requires
put-written-requires c = decode_asks _ _ _ _ _ _ _ _ c.loop-b.invariant c.loop-b-test.true _ c.step-stepped.ensures

pub overflow_add-replaced : goal.overflow_add-replaced
overflow_add-replaced c =
    let n = decode_counts _ _ _ _ _ _ _ _ c.loop-b.invariant c.loop-b-test.true _ c.step-stepped.ensures in
    record { fits = omega (arith, n, pending_short c.args.self) }

pub returns : goal.returns
returns c = decode_ended _ _ _ _ _ _ _ _ c.loop-b.invariant c.loop-b-test.false
