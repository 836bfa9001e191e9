use Rattle.utf8_lossy.specs.Decode.{pending_of}
use Rattle.utf8_lossy.proofs.Calls.{Running}
use Rattle.utf8_lossy.proofs.Pending.decode.Given as goal

abbrev pub invariant-loop-b : goal.invariant-loop-b
invariant-loop-b l =
    Running (pending_of l.fn.self) l.bytes l.fn.out l.out (pending_of l.pending) l.b-index l.written l.replaced
