-- `text_utils::is_starter` meets its contract: the tests are those of `starter`.
use native.Mathlib.Omega.{arith}
use borrow.Author.Tests.{lt-ltb, le-ltb}
use Rattle.text_utils.specs.Classes.{starter}
use Rattle.text_utils.proofs.is_starter.Goals as goal

pub returns-then-c-lt128 : goal.returns-then-c-lt128
unfolding starter
returns-then-c-lt128 c = simp (lt-ltb c.args.c 0x80 (omega arith))

pub returns : goal.returns
unfolding starter
returns c = simp (le-ltb c.args.c 0x80 (omega arith), c.is_nonstarter.ensures)
