-- `char_at` meets its contract: a high surrogate gives the character of its pair, and any other unit itself.
use Rattle.utf16.specs.Reading.{char_of}
use Rattle.utf16.proofs.char_at.Goals as goal

pub returns-then-is_high : goal.returns-then-is_high
unfolding char_of
returns-then-is_high c = simp (c.if-is_high.true, ← c.is_high.ensures, ← c.unit_or_zero-after.ensures.0)

pub returns : goal.returns
unfolding char_of
returns c = simp (c.if-is_high.false, ← c.is_high.ensures)
