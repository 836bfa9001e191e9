-- `store` meets its contract: a stretch is stored at once, and then some units one by one.
use Rattle.std.proofs.Common.{◌≡◌, arith}
use Rattle.utf16.proofs.Units.{units_inside, units_past}
use Rattle.utf16.proofs.Stored.{here, then, passed, room, stored_one, run_room, stretched, ended}
use Rattle.utf16.proofs.store.Goals as goal
use Rattle.utf16.proofs.store.Goals.{then-not-is_low, else-not-is_low}

pub widen-requires-clause-from_in_bounds : goal.widen-requires-clause-from_in_bounds
widen-requires-clause-from_in_bounds c =
    run_room c.args.order c.args.bytes.now _ _ _ _ _ _ _ c.loop-i.invariant c.plain_end-end.ensures

pub loop-j-init : goal.loop-j-init
loop-j-init c =
    rw c.widen.ensures
    (here _ _ _ _ _ _ _ (stretched c.args.order c.args.bytes.now _ _ _ _ _ _ _ c.loop-i.invariant c.plain_end-end.ensures))

pub bounds-out-k : goal.bounds-out-k
bounds-out-k c =
    let e = c.unit_at-u.ensures.0 in
    room _ _ _ _ _ _ _ c.loop-j.invariant (units_inside c.args.order c.args.bytes.now _ (omega arith))
    (rw (← e, ← c.is_low.ensures) c.if-not-is_low.true) c.char_at.result (rw (← e) c.char_at.ensures)

pub loop-j-preserved : goal.loop-j-preserved
loop-j-preserved c =
    let e = c.unit_at-u.ensures.0 in
    let h = units_inside c.args.order c.args.bytes.now _ (omega arith) in
    elim c.if-not-is_low.branch [
      | then-not-is_low w ↦
          rw (w.out-is, w.k-is)
          (stored_one _ _ _ _ _ _ _ c.loop-j.invariant h (rw (← e, ← c.is_low.ensures) w.if-not-is_low.true) w.char_at.result (rw (← e) w.char_at.ensures))
      | else-not-is_low w ↦ rw (w.out-is, w.k-is) (passed _ _ _ _ _ _ _ c.loop-j.invariant h (rw (← e, ← c.is_low.ensures) w.if-not-is_low.false))
    ]

pub loop-i-smaller : goal.loop-i-smaller
loop-i-smaller c = omega (arith, c.plain_end-end.ensures.begun, c.plain_end-end.ensures.inside)

pub loop-i-preserved : goal.loop-i-preserved
loop-i-preserved c =
    let e : c.loop-j.j ≡ c.min-stop.result = omega arith in
    let f = stretched c.args.order c.args.bytes.now _ _ _ _ _ _ _ c.loop-i.invariant c.plain_end-end.ensures in
    rw e at (then _ _ _ _ _ _ _ f _ _ _ (rw c.widen.ensures at c.loop-j.invariant))

pub returns : goal.returns
returns c = ended _ _ _ _ _ c.loop-i.invariant (units_past c.args.order c.args.bytes.now _ c.loop-i-test.false)
