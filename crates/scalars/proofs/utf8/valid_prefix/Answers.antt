use mathlib.Core.Path.{sym, ◌∙◌}
use native.Mathlib.Omega.{arith}
use Rattle.scalars.proofs.Texts.{decoding_begin, decoding_again, decoding_all, step_on}
use Rattle.scalars.proofs.Ascii.{over}
use Rattle.scalars.proofs.utf8.valid_prefix.Goals as goal

pub returns-in_default : goal.returns-in_default
returns-in_default c =
    decoding_all _ _ _ _ c.loop-c.invariant.1 (sym c.utf8_step.ensures ∙ c.in_default.is)

pub overflow_add-chars : goal.overflow_add-chars
overflow_add-chars c =
    omega (arith, c.loop-c.invariant.1.low, step_on _ _ _ _ (sym c.utf8_step.ensures ∙ c.in-Some.is))

pub ascii_end-at-requires : goal.ascii_end-at-requires
ascii_end-at-requires c =
    ((step_on _ _ _ _ (sym c.utf8_step.ensures ∙ c.in-Some.is)).1, omega arith)

pub overflow_add-chars-then-c-lt128 : goal.overflow_add-chars-then-c-lt128
overflow_add-chars-then-c-lt128 c =
    let o = step_on _ _ _ _ (sym c.utf8_step.ensures ∙ c.in-Some.is) in
    omega (arith, c.loop-c.invariant.1.low, o.0, c.ascii_end-at.ensures.begun, c.ascii_end-at.ensures.low)

pub loop-c-smaller-then-c-lt128 : goal.loop-c-smaller-then-c-lt128
loop-c-smaller-then-c-lt128 c =
    let o = step_on _ _ _ _ (sym c.utf8_step.ensures ∙ c.in-Some.is) in
    omega (arith, o.0, c.ascii_end-at.ensures.begun, c.ascii_end-at.ensures.low)

pub loop-c-preserved-then-c-lt128 : goal.loop-c-preserved-then-c-lt128
loop-c-preserved-then-c-lt128 c =
    let i = c.loop-c.invariant.1 in
    let e = sym c.utf8_step.ensures ∙ c.in-Some.is in
    let a = c.ascii_end-at.ensures in
    (_, over _ _ _ _ _ _ _ _ i e a (omega (arith, i.low, i.same, (step_on _ _ _ _ e).0, a.begun, a.low)))

pub loop-c-smaller : goal.loop-c-smaller
loop-c-smaller c =
    omega (arith, step_on _ _ _ _ (sym c.utf8_step.ensures ∙ c.in-Some.is))

pub loop-c-preserved : goal.loop-c-preserved
loop-c-preserved c =
    let i = c.loop-c.invariant.1 in
    let e = sym c.utf8_step.ensures ∙ c.in-Some.is in
    (_, decoding_again _ _ _ _ _ _ _ i (omega (arith, i.low, i.same, step_on _ _ _ _ e)) e)

pub loop-c-init : goal.loop-c-init
loop-c-init c = (_, decoding_begin _ _)
