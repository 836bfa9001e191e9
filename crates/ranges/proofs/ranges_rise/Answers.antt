-- `ranges::ranges_rise` meets its contract: the law `rises_turn` takes the invariant over one range, at the start from 0.
use Rattle.std.proofs.Common.{◌≡◌, ◌+◌, ◌-◌, suc, true, get_or, sym, ◌∙◌, arith}
use mathlib.Core.Bool.{and_assoc}
use lib.Dec.{leb-zero}
use Rattle.ranges.proofs.Laws.{lengths_differ, rises_turn, rises_end}
use Rattle.ranges.proofs.ranges_rise.Goals as goal

pub returns-then-firsts-lasts : goal.returns-then-firsts-lasts
returns-then-firsts-lasts c = sym (lengths_differ 0 c.args.firsts.now c.args.lasts.now c.if-firsts-lasts.true)

pub returns-then-firsts-eq0 : goal.returns-then-firsts-eq0
returns-then-firsts-eq0 c = sym (rises_end true 0 0 c.args.firsts.now c.args.lasts.now (omega arith) (omega arith))

pub loop-i-init : goal.loop-i-init
loop-i-init c = rises_turn true 0 0 c.args.firsts.now c.args.lasts.now (omega arith) (omega arith) ∙ simp leb-zero

pub loop-i-preserved : goal.loop-i-preserved
loop-i-preserved c =
    let a = c.args in
    let l = c.loop-i in
    let e : l.i + 1 - 1 ≡ l.i = omega arith in
    l.invariant
    ∙ rises_turn l.good (suc (get_or a.lasts.now (l.i - 1) 0)) l.i a.firsts.now a.lasts.now (omega arith) (omega arith)
    ∙ rw e (simp and_assoc)

pub returns : goal.returns
returns c =
    let a = c.args in
    sym (c.loop-i.invariant ∙ rises_end c.loop-i.good _ c.loop-i.i a.firsts.now a.lasts.now (omega arith) (omega arith))
