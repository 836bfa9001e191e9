-- What the loop asks for and keeps, by proofs/Runs.antt.
use Rattle.std.proofs.Common.{refl, arith}
use Rattle.common.proofs.Kit.{err_is}
use Rattle.text_output_write.proofs.Runs.{begin, again, stopped, ended, turn_room, finish_room, chars_on, chars_end}
use Rattle.text_output_write.proofs.run.run.Goals as goal

pub loop-c-init : goal.loop-c-init
loop-c-init c =
    begin c.requires.page c.requires.sound (record { within = omega arith; is = refl }) _ c.new-isolator.ensures

pub turn-turned-requires-clause-room : goal.turn-turned-requires-clause-room
turn-turned-requires-clause-room c =
    let g = c.loop-c.invariant in
    turn_room g (chars_on _ _ _ g.left c.loop-c-test.true) c.requires.room

pub returns-in_err-w : goal.returns-in_err-w
returns-in_err-w c =
    let g = c.loop-c.invariant in
    rw (err_is _ _ c.from_residual.ensures.1)
    (stopped g (chars_on _ _ _ g.left c.loop-c-test.true) (rw c.in_err-w.was at c.turn-turned.ensures.out_after) refl)

pub loop-c-preserved : goal.loop-c-preserved
loop-c-preserved c =
    let g = c.loop-c.invariant in
    again g (chars_on _ _ _ g.left c.loop-c-test.true) (rw c.in_ok-w.was at c.turn-turned.ensures.out_after) c.turn-turned.ensures.isolator_value

pub finish-requires-clause-room : goal.finish-requires-clause-room
finish-requires-clause-room c =
    let g = c.loop-c.invariant in
    finish_room g (chars_end _ _ _ g.left (omega (arith, c.loop-c-test.false))) c.requires.room

pub returns : goal.returns
returns c =
    let g = c.loop-c.invariant in
    ended g (chars_end _ _ _ g.left (omega (arith, c.loop-c-test.false))) c.finish.ensures
