-- A finish appends at most two characters, which `write_numbers` stores.
use Rattle.std.proofs.Common.{sym, arith, rules}
use Rattle.std.proofs.Math.Seq.{length-take-le}
use Rattle.basic_text.proofs.Laws.{Bytes}
use Rattle.basic_text.proofs.Calls.{finish_refused, never_refused, held, fits, finished}
use Rattle.basic_text.proofs.finish.Goals as goal

pub returns-then-queue-lt2 : goal.returns-then-queue-lt2
returns-then-queue-lt2 c =
    let a = c.args in
    let bytes : Bytes a.queue.now = λ i. omega (arith, c.type_inv.queue i) in
    let r = finish_refused a.r a.eof a.queue.now bytes c.if-queue-lt2.true in
    record { queue_value = r.0; queue_after = r.1 }

pub slice_bounds-two-end : goal.slice_bounds-two-end
slice_bounds-two-end c =
    let a = c.args in
    (held a.r a.eof a.queue.now _ _ c.finish-finished.ensures _ c.in-Ok.is).0

pub slice_bounds-write_numbers-end : goal.slice_bounds-write_numbers-end
slice_bounds-write_numbers-end c =
    let a = c.args in
    sym (length-take-le _ _ (held a.r a.eof a.queue.now _ _ c.finish-finished.ensures _ c.in-Ok.is).0)

pub write_numbers-requires : goal.write_numbers-requires
write_numbers-requires c =
    let a = c.args in
    let h = held a.r a.eof a.queue.now _ _ c.finish-finished.ensures _ c.in-Ok.is in
    omega (arith, length-take-le _ _ h.0, fits a.r a.eof a.queue.now _ _ c.finish-finished.ensures _ c.in-Ok.is (omega arith))

pub returns-in-Ok : goal.returns-in-Ok
returns-in-Ok c =
    let a = c.args in
    let bytes : Bytes a.queue.now = λ i. search rules in
    let r = finished a.r a.eof a.queue.now _ _ c.finish-finished.ensures _ c.in-Ok.is (omega arith) bytes _ c.write_numbers.ensures in
    record { queue_value = r.0; queue_after = r.1 }

pub returns-in_default : goal.returns-in_default
returns-in_default c =
    let a = c.args in
    absurd (never_refused a.r a.eof a.queue.now _ _ c.finish-finished.ensures _ c.in_default.is)
