-- `page_15::page` meets its contract: the array has, number by number, what the ranges are laid out as.
use mathlib.Core.Path.{refl}
use Rattle.page_15.specs.Numbers.{numbers}
use Rattle.page_15.proofs.page.Goals as goal

pub returns : goal.returns
unfolding numbers
returns c = refl
