-- The tests of `utf8_step` are those of `lead_of`, which comes to the step.
use Rattle.common.proofs.Kit.{tests}
use Rattle.scalars.proofs.Steps.{past_step, lead_step}
use Rattle.scalars.proofs.utf8.utf8_step.Goals as goal

pub returns-then-bytes-at : goal.returns-then-bytes-at
returns-then-bytes-at c = past_step _ _ c.if-bytes-at.true

pub returns-then-b-lt128 : goal.returns-then-b-lt128
returns-then-b-lt128 c = rw (← lead_step _ _ _ c.if-bytes-at.false c.from-b.ensures) (search tests depth 10)

pub returns-then-b-lt192 : goal.returns-then-b-lt192
returns-then-b-lt192 c = rw (← lead_step _ _ _ c.if-bytes-at.false c.from-b.ensures) (search tests depth 10)

pub returns-then-b-lt224 : goal.returns-then-b-lt224
returns-then-b-lt224 c = rw (← lead_step _ _ _ c.if-bytes-at.false c.from-b.ensures) (search tests depth 10)

pub returns-then-b-lt240 : goal.returns-then-b-lt240
returns-then-b-lt240 c = rw (← lead_step _ _ _ c.if-bytes-at.false c.from-b.ensures) (search tests depth 10)

pub returns-then-b-lt248 : goal.returns-then-b-lt248
returns-then-b-lt248 c = rw (← lead_step _ _ _ c.if-bytes-at.false c.from-b.ensures) (search tests depth 10)

pub returns : goal.returns
returns c = rw (← lead_step _ _ _ c.if-bytes-at.false c.from-b.ensures) (search tests depth 10)
