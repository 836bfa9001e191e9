-- Storing what is left gives what storing the whole gives, and both ranges are of assigned characters.
use Rattle.std.proofs.Common.{◌-◌, length}
use Rattle.page.specs.Inner.{Assigned}
use Rattle.stretch.proofs.Way.{Going}
use Rattle.isolate_unassigned.specs.Inner.{fresh}
use Rattle.isolate_unassigned.proofs.Run.{isolate_way}
use Rattle.isolate_unassigned.proofs.isolate_run.Given as goal

abbrev pub invariant-loop-i : goal.invariant-loop-i
invariant-loop-i l =
    record {
      going : Going (isolate_way l.page) l.chars 0 l.initial.out fresh l.out l.r l.k l.i;
      near : Assigned l.page l.near;
      base : Assigned l.page l.base;
    }

abbrev pub decreases-loop-i : goal.decreases-loop-i
decreases-loop-i l = length l.chars - l.i
