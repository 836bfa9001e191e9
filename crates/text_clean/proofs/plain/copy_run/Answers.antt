use Rattle.std.proofs.Common.{arith}
use Rattle.std.proofs.lemmas.Grind.{common_steps}
use Rattle.std.proofs.lemmas.List.Edits.{sets-eq}
use Rattle.text_clean.proofs.plain.copy_run.Goals as goal

pub returns : goal.returns
returns c = grind (arith, common_steps, sets-eq)
