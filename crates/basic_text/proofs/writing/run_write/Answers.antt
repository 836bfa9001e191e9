-- What the loop asks for and keeps, by proofs/Runs.antt of text_output_write: a character begins at the place, or none does.
use Rattle.std.proofs.Common.{refl, sym, ◌∙◌, arith}
use Rattle.common.proofs.Kit.{err_is}
use Rattle.scalars.proofs.Texts.{step_on}
use Rattle.text_output_write.proofs.Runs.{begin, again, stopped, ended, turn_room, finish_room, bytes_begin, bytes_on, bytes_end}
use Rattle.basic_text.proofs.writing.run_write.Goals as goal

pub loop-c-init : goal.loop-c-init
loop-c-init c =
    record { tails = refl; going = begin c.requires.page c.requires.sound (bytes_begin _) _ c.new-isolator.ensures }

pub turn_bytes-turned-requires-clause-room : goal.turn_bytes-turned-requires-clause-room
turn_bytes-turned-requires-clause-room c =
    let g = c.loop-c.invariant.going in
    turn_room g (bytes_on _ _ _ _ _ g.left (sym c.utf8_step.ensures ∙ c.in-Some.is)) c.requires.room

pub returns-in_err-w : goal.returns-in_err-w
returns-in_err-w c =
    let g = c.loop-c.invariant.going in
    record {
      steps =
          rw (err_is _ _ c.from_residual.ensures.1)
          (stopped g (bytes_on _ _ _ _ _ g.left (sym c.utf8_step.ensures ∙ c.in-Some.is)) (rw c.in_err-w.was at c.turn_bytes-turned.ensures.steps) refl);
      tail = c.turn_bytes-turned.ensures.tail ∙ c.loop-c.invariant.tails;
    }

pub loop-c-smaller : goal.loop-c-smaller
loop-c-smaller c = omega (arith, step_on _ _ _ _ (sym c.utf8_step.ensures ∙ c.in-Some.is))

pub loop-c-preserved : goal.loop-c-preserved
loop-c-preserved c =
    let g = c.loop-c.invariant.going in
    record {
      tails = c.turn_bytes-turned.ensures.tail ∙ c.loop-c.invariant.tails;
      going = again g (bytes_on _ _ _ _ _ g.left (sym c.utf8_step.ensures ∙ c.in-Some.is)) (rw c.in_ok-w.was at c.turn_bytes-turned.ensures.steps) c.turn_bytes-turned.ensures.isolator;
    }

pub finish_bytes-requires-clause-room : goal.finish_bytes-requires-clause-room
finish_bytes-requires-clause-room c =
    let g = c.loop-c.invariant.going in
    finish_room g (bytes_end _ _ _ g.left (sym c.utf8_step.ensures ∙ c.in_default.is)) c.requires.room

pub returns : goal.returns
returns c =
    let g = c.loop-c.invariant.going in
    record {
      steps = ended g (bytes_end _ _ _ g.left (sym c.utf8_step.ensures ∙ c.in_default.is)) c.finish_bytes.ensures.steps;
      tail = c.finish_bytes.ensures.tail ∙ c.loop-c.invariant.tails;
    }
