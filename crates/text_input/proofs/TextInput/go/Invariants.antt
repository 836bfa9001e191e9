-- What is left of the chunk leads to the same end as the whole (proofs/Loop.antt). The measure is what is left of it.
use Rattle.std.proofs.Common.{length, ◌-◌}
use Rattle.stretch.specs.Plain.{Gap}
use Rattle.stretch.proofs.Way.{Going}
use Rattle.text_input.proofs.Loop.{scan_way, storing}
use Rattle.text_input.proofs.TextInput.go.Given as goal

abbrev pub invariant-loop-moved : goal.invariant-loop-moved
invariant-loop-moved l =
    Going (scan_way (storing l.stores) l.page l.options) l.chunk 0 l.fn.queue l.fn.self l.queue l.moved.next l.moved.written l.moved.at × Gap l.moved.gap

abbrev pub decreases-loop-moved : goal.decreases-loop-moved
decreases-loop-moved l = length l.chunk - l.moved.at
