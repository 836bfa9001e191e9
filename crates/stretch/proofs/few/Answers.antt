-- `few` meets its contract: so many as are sought are counted.
use Rattle.std.proofs.Common.{◌≡◌, ◌-◌, length, take, drop, rules}
use Rattle.std.specs.List.{prefix_len}
use Rattle.std.proofs.lemmas.Iterator.{YieldsList-from_slice, YieldsList-from_take}
use Rattle.std.proofs.lemmas.Iterator.Consumers.{YieldsList-at, count_from_yields_List}
use Rattle.std.proofs.lemmas.Iterator.Search.{YieldsList-from_take_while}
use Rattle.stretch.specs.Stretch.{in_sought}
use Rattle.stretch.proofs.Seeking.{counted}
use Rattle.stretch.proofs.few.Goals as goal

pub returns : goal.returns
returns c =
    let a = c.args in
    let test = in_sought a.sought in
    let left = take (length a.s.now - a.from) (drop a.from a.s.now) in
    let next = take a.most left in
    let n : c.count.result ≡ length (take (prefix_len test next) next) =
    count_from_yields_List c.take_while.result _ c.count.ensures.ran
    (YieldsList-from_take_while _ test
    (YieldsList-at c.take_while.ensures.source (YieldsList-from_take a.most (YieldsList-at c.take-next.ensures.source (YieldsList-from_slice left (cc))) (cc)))
    c.take_while.ensures.closure c.take_while.ensures.done (λ x b q k. search rules)) in
    counted a.sought a.s.now a.from a.most _ c.requires n
