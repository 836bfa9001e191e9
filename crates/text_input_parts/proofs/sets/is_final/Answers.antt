-- `is_final` meets its contract: its test is that of `final`.
use mathlib.Core.Path.{refl}
use Rattle.text_input_parts.specs.Sets.{final}
use Rattle.text_input_parts.proofs.sets.is_final.Goals as goal

pub returns : goal.returns
unfolding final
returns c = refl
