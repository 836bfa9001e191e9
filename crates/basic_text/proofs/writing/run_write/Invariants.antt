-- The way of proofs/Runs.antt of text_output_write, over the characters that are left at a place of the bytes, on the queue's numbers; the
-- bytes past these stay. The measure is how many bytes are left.
use Rattle.std.proofs.Common.{◌≡◌, ◌-◌, length}
use Rattle.scalars.specs.Utf8.{chars_of}
use Rattle.text_output_write.proofs.Runs.{Going, Bytes}
use Rattle.basic_text.specs.Exports.{numbers_of}
use Rattle.basic_text.specs.Inner.{tail}
use Rattle.basic_text.proofs.writing.run_write.Given as goal

abbrev pub invariant-loop-c : goal.invariant-loop-c
invariant-loop-c l =
    record {
      tails : tail l.queue ≡ tail l.fn.queue;
      going : Going (Bytes l.bytes) l.page l.mode l.fn.start l.fn.escape (numbers_of l.fn.queue) (chars_of l.bytes) l.w l.isolator l.place l.escape (numbers_of l.queue);
    }

abbrev pub decreases-loop-c : goal.decreases-loop-c
decreases-loop-c l = length l.bytes - l.place
