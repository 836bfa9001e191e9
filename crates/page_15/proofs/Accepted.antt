-- The page is accepted: one test that antt computes. So whoever calls an entry with it is never refused by 2.
use mathlib.Core.Path.{◌≡◌, refl}
use mathlib.Core.Bool.{true}
use Rattle.ranges.specs.Ranges.{member, rises}
use Rattle.page.specs.Page.{accepted, sized, rising, nonstarter, assigned}
use Rattle.page_15.specs.Numbers.{numbers}

pub is_accepted : accepted numbers ≡ true
unfolding accepted sized rising nonstarter assigned member rises numbers
is_accepted = refl
