-- `page::is_sized` meets its contract: the tests are those of `sized`, in its order.
use Rattle.std.proofs.Common.{length, arith}
use borrow.Author.Tests.{le-leb, lt-leb}
use Rattle.page.specs.Page.{sized}
use Rattle.page.proofs.is_sized.Goals as goal

pub returns-then-page-lt2 : goal.returns-then-page-lt2
unfolding sized
returns-then-page-lt2 c = simp (lt-leb 2 (length c.args.page.now) (omega arith))

pub returns : goal.returns
unfolding sized
returns c = simp (le-leb 2 (length c.args.page.now) (omega arith))
