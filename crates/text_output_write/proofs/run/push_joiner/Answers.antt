-- A run of one character, or of none.
use Rattle.text_output_write.proofs.Turns.{joined, not_joined}
use Rattle.text_output_write.proofs.run.push_joiner.Goals as goal

pub push-requires-clause-room : goal.push-requires-clause-room
push-requires-clause-room c =
    let a = c.args in
    rw (joined a.mode a.w a.escape.now a.out.now a.put c.if-put.true) at c.requires.room

pub returns-then-put : goal.returns-then-put
returns-then-put c =
    let a = c.args in
    rw (joined a.mode a.w a.escape.now a.out.now a.put c.if-put.true) c.push.ensures

pub returns-else-put : goal.returns-else-put
returns-else-put c =
    let a = c.args in
    not_joined a.mode a.w a.escape.now a.out.now a.put c.if-put.false
