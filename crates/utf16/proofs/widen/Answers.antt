-- `widen` meets its contract: each turn stores the next unit of the run.
use Rattle.std.proofs.Common.{◌≡◌, ℕ, ◌+◌, ◌-◌, ◌/◌, ◌<◌, ◌≤◌, List, length, get_or, take, drop, length-take, length-drop, get_or-take, get_or-drop, sym, ◌∙◌, arith}
use Rattle.common.proofs.Storing.{again}
use Rattle.utf16.specs.declared.ByteOrder.{ByteOrder}
use Rattle.utf16.specs.Reading.{units_in}
use Rattle.utf16.proofs.Units.{length_units}
use Rattle.utf16.proofs.widen.Goals as goal

-- the run: the units from `from` up to `end`
module _ (o : ByteOrder) (bs : List ℕ) (from end : ℕ) (h : end ≤ length bs / 2) where
  abbrev run : List ℕ
  run = take (end - from) (drop from (units_in o bs))

  length_run : length run ≡ end - from
  length_run = simp (length-take, length-drop) (omega (arith, length_units o bs))

  run_at : (j : ℕ) → j < end - from → get_or (units_in o bs) (from + j) 0 ≡ get_or run j 0
  run_at j l = sym (get_or-take (end - from) (drop from (units_in o bs)) j 0 l ∙ get_or-drop from (units_in o bs) j 0)

pub loop-j-preserved : goal.loop-j-preserved
loop-j-preserved c =
    let a = c.args in
    let h = c.requires.from_le_end.1 in
    again _ _ _ _ _ c.loop-j.invariant _ (omega (arith, length_run a.order a.bytes.now a.from a.end h))
    (c.unit_at.ensures.0 ∙ run_at a.order a.bytes.now a.from a.end h _ (omega arith))
