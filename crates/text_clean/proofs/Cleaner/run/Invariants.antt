-- What is left of the bytes leads to the same end as the whole. The measure is what is left of them.
use Rattle.std.proofs.Common.{length, ◌-◌}
use Rattle.stretch.specs.Plain.{Gap}
use Rattle.stretch.proofs.Way.{Going}
use Rattle.text_clean.specs.Inner.{no_tally, course_of}
use Rattle.text_clean.proofs.Append.{clean_way}
use Rattle.text_clean.proofs.Cleaner.run.Given as goal

abbrev pub invariant-loop-moved : goal.invariant-loop-moved
invariant-loop-moved l =
    Going (clean_way l.page l.options l.lines) l.bytes 0 l.fn.out (course_of l.fn.self no_tally) l.out (course_of l.moved.next l.moved.tally) l.moved.written l.moved.at
    × Gap l.moved.gap

abbrev pub decreases-loop-moved : goal.decreases-loop-moved
decreases-loop-moved l = length l.bytes - l.moved.at
