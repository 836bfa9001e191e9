-- What ends a text, stored from the first place on.
use Rattle.std.proofs.Common.{arith}
use Rattle.text_input.proofs.Calls.{finish_refused, finish_enough, finished_is}
use Rattle.text_input.proofs.TextInput.finish.Goals as goal

pub returns-then-queue-lt2 : goal.returns-then-queue-lt2
returns-then-queue-lt2 c = finish_refused _ _ _ c.if-queue-lt2.true

pub put_three-written-requires : goal.put_three-written-requires
put_three-written-requires c =
    let a = c.args in
    let e = c.ending-ending.ensures in
    finish_enough a.self a.eof a.queue.now (omega arith) c.ending-ending.result (e.chars, e.next)

pub returns : goal.returns
returns c =
    let a = c.args in
    let e = c.ending-ending.ensures in
    let p = c.put_three-written.ensures in
    finished_is a.self a.eof a.queue.now (omega arith) c.ending-ending.result (e.chars, e.next) _ _ (p.value, p.queue_after)
