use mathlib.Core.Path.{sym, ◌∙◌}
use native.Mathlib.Omega.{arith}
use lib.ListN.{length-set}
use Rattle.scalars.proofs.Texts.{decoding_begin, decoding_again, decoding_full, decoding_stop, step_on}
use Rattle.scalars.proofs.Ascii.{over}
use Rattle.scalars.proofs.utf8.decode_utf8.Goals as goal

pub decode_ascii-at-requires : goal.decode_ascii-at-requires
decode_ascii-at-requires c =
    ((step_on _ _ _ _ (sym c.utf8_step.ensures ∙ c.in-Some.is)).1, simp length-set (omega arith))

pub overflow_add-chars-then-c-lt128 : goal.overflow_add-chars-then-c-lt128
overflow_add-chars-then-c-lt128 c =
    let r = simp length-set at c.decode_ascii-at.ensures.room in
    omega arith

pub loop-chars-smaller-then-c-lt128 : goal.loop-chars-smaller-then-c-lt128
loop-chars-smaller-then-c-lt128 c =
    let a = c.decode_ascii-at.ensures.to in
    omega (arith, (step_on _ _ _ _ (sym c.utf8_step.ensures ∙ c.in-Some.is)).0, a.begun, a.low)

pub loop-chars-preserved-then-c-lt128 : goal.loop-chars-preserved-then-c-lt128
loop-chars-preserved-then-c-lt128 c =
    let w = c.decode_ascii-at.ensures in
    rw w.places
    (over _ _ _ _ _ _ _ _ c.loop-chars.invariant (sym c.utf8_step.ensures ∙ c.in-Some.is) w.to
    (simp length-set at w.room))

pub loop-chars-smaller : goal.loop-chars-smaller
loop-chars-smaller c =
    omega (arith, step_on _ _ _ _ (sym c.utf8_step.ensures ∙ c.in-Some.is))

pub loop-chars-preserved : goal.loop-chars-preserved
loop-chars-preserved c =
    decoding_again _ _ _ _ _ _ _ c.loop-chars.invariant c.loop-chars-test.true (sym c.utf8_step.ensures ∙ c.in-Some.is)

pub returns-after-loop-chars : goal.returns-after-loop-chars
returns-after-loop-chars c =
    let r = decoding_full _ _ _ _ _ c.loop-chars.invariant c.loop-chars-test.false in
    record { counts = r.0; places = r.1 }

pub returns-in_default : goal.returns-in_default
returns-in_default c =
    let r = decoding_stop _ _ _ _ _ c.loop-chars.invariant
    (sym c.utf8_step.ensures ∙ c.in_default.is) in
    record { counts = r.0; places = r.1 }

pub loop-chars-init : goal.loop-chars-init
loop-chars-init c = decoding_begin _ _
