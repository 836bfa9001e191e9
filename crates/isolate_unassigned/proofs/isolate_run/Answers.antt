-- `isolate_unassigned::isolate_run` meets its contract: what is left after the run is 34F, where one is owed.
use Rattle.std.proofs.Common.{sym, ◌∙◌, arith}
use Rattle.isolate_unassigned.proofs.Run.{left, moved, fits_last, stored, stored_owed}
use Rattle.isolate_unassigned.proofs.isolate_run.Goals as goal

pub advance-moved-requires-clause-room : goal.advance-moved-requires-clause-room
advance-moved-requires-clause-room c = left _ _ _ _ _ _ _ c.loop-i.invariant.going c.requires.page_value c.requires.chars_in_bounds

pub loop-i-preserved : goal.loop-i-preserved
loop-i-preserved c =
    let g = c.loop-i.invariant in
    let m = c.advance-moved.ensures in
    record { going = moved _ _ _ _ _ _ _ g.going _ _ m; near = m.near; base = g.base }

pub bounds-out-k : goal.bounds-out-k
bounds-out-k c =
    fits_last _ _ _ _ _ _ _ c.loop-i.invariant.going c.requires.page_value c.loop-i-test.false c.requires.chars_in_bounds
    (sym c.finish.ensures ∙ c.if-finish.true)

pub offset_bounds-out-k : goal.offset_bounds-out-k
offset_bounds-out-k c = omega (arith, bounds-out-k c)

pub overflow_add-result : goal.overflow_add-result
overflow_add-result c = omega (arith, bounds-out-k c)

pub returns-then-finish : goal.returns-then-finish
returns-then-finish c =
    let s = stored_owed _ _ _ _ _ _ _ c.loop-i.invariant.going c.requires.page_value c.loop-i-test.false (sym c.finish.ensures ∙ c.if-finish.true) in
    record { value = s.0; out_after = s.1 }

pub returns : goal.returns
returns c =
    let s = stored _ _ _ _ _ _ _ c.loop-i.invariant.going c.requires.page_value c.loop-i-test.false (sym c.finish.ensures ∙ c.if-finish.false) in
    record { value = s.0; out_after = s.1 }
