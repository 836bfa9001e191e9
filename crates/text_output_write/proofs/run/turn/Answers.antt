-- 0A that ends a part, a character that the check accepts, and a refused one are the ways of a turn.
use Rattle.text_output_write.specs.Inner.{machine_at}
use Rattle.text_output_write.proofs.Turns.{turn_end, after_end, turn_passed, turn_refused, after_on}
use Rattle.text_output_write.proofs.run.turn.Goals as goal

pub line_end-requires-clause-room : goal.line_end-requires-clause-room
line_end-requires-clause-room c =
    let a = c.args in
    rw (turn_end a.mode a.page.now (machine_at a.w a.escape.now) a.isolator a.c (rw c.is_crlf.ensures at c.if-is_crlf-c.true) _ c.finish.ensures) at c.requires.room

pub push_isolated-requires-clause-sub : goal.push_isolated-requires-clause-sub
push_isolated-requires-clause-sub c =
    let a = c.args in
    (turn_passed a.mode a.page.now (machine_at a.w a.escape.now) a.isolator a.c (rw c.is_crlf.ensures at c.if-is_crlf-c.false) _
    (rw c.new-else-is_crlf-c.ensures at c.step-found.ensures) _ _ _ (rw c.handed_on.ensures at c.look_ahead-ahead.ensures.put_value) c.in-Char.is).0

pub push_isolated-requires-clause-room : goal.push_isolated-requires-clause-room
push_isolated-requires-clause-room c =
    let a = c.args in
    rw (turn_passed a.mode a.page.now (machine_at a.w a.escape.now) a.isolator a.c (rw c.is_crlf.ensures at c.if-is_crlf-c.false) _
    (rw c.new-else-is_crlf-c.ensures at c.step-found.ensures) _ _ _ (rw c.handed_on.ensures at c.look_ahead-ahead.ensures.put_value) c.in-Char.is).1 at c.requires.room

pub stop_isolated-requires-clause-kept : goal.stop_isolated-requires-clause-kept
stop_isolated-requires-clause-kept c =
    let a = c.args in
    (turn_refused a.mode a.page.now (machine_at a.w a.escape.now) a.isolator a.c (rw c.is_crlf.ensures at c.if-is_crlf-c.false) _
    (rw c.new-else-is_crlf-c.ensures at c.step-found.ensures) _ _ _ (rw c.handed_on.ensures at c.look_ahead-ahead.ensures.put_value) c.in-Sub.is).0

pub stop_isolated-requires-clause-room : goal.stop_isolated-requires-clause-room
stop_isolated-requires-clause-room c =
    let a = c.args in
    rw (turn_refused a.mode a.page.now (machine_at a.w a.escape.now) a.isolator a.c (rw c.is_crlf.ensures at c.if-is_crlf-c.false) _
    (rw c.new-else-is_crlf-c.ensures at c.step-found.ensures) _ _ _ (rw c.handed_on.ensures at c.look_ahead-ahead.ensures.put_value) c.in-Sub.is).1 at c.requires.room

pub returns-then-is_crlf-c : goal.returns-then-is_crlf-c
returns-then-is_crlf-c c =
    let a = c.args in
    let m = machine_at a.w a.escape.now in
    let ends = rw c.is_crlf.ensures at c.if-is_crlf-c.true in
    record {
      out_after = rw (turn_end a.mode a.page.now m a.isolator a.c ends _ c.finish.ensures) c.line_end.ensures;
      isolator_value = rw (after_end a.mode a.page.now m a.isolator a.c ends) c.new.ensures;
    }

pub returns-in-Char : goal.returns-in-Char
returns-in-Char c =
    let a = c.args in
    let m = machine_at a.w a.escape.now in
    let goes_on = rw c.is_crlf.ensures at c.if-is_crlf-c.false in
    let told = rw c.new-else-is_crlf-c.ensures at c.step-found.ensures in
    record {
      out_after = rw (turn_passed a.mode a.page.now m a.isolator a.c goes_on _ told _ _ _ (rw c.handed_on.ensures at c.look_ahead-ahead.ensures.put_value) c.in-Char.is).1 c.push_isolated.ensures;
      isolator_value = rw (after_on a.mode a.page.now m a.isolator a.c goes_on _ told) (rw c.handed_on.ensures at c.look_ahead-ahead.ensures.isolator_value);
    }

pub returns-in-Sub : goal.returns-in-Sub
returns-in-Sub c =
    let a = c.args in
    let m = machine_at a.w a.escape.now in
    let goes_on = rw c.is_crlf.ensures at c.if-is_crlf-c.false in
    let told = rw c.new-else-is_crlf-c.ensures at c.step-found.ensures in
    record {
      out_after = rw (turn_refused a.mode a.page.now m a.isolator a.c goes_on _ told _ _ _ (rw c.handed_on.ensures at c.look_ahead-ahead.ensures.put_value) c.in-Sub.is).1 c.stop_isolated.ensures;
      isolator_value = rw (after_on a.mode a.page.now m a.isolator a.c goes_on _ told) (rw c.handed_on.ensures at c.look_ahead-ahead.ensures.isolator_value);
    }
