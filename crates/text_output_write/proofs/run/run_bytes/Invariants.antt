-- The way of proofs/Runs.antt, over the characters that are left at a place of the bytes. The measure is how many bytes are left.
use Prim.Native.Nat.{◌-◌}
use lib.ListN.{length}
use Rattle.scalars.specs.Utf8.{chars_of}
use Rattle.text_output_write.proofs.Runs.{Going, Bytes}
use Rattle.text_output_write.proofs.run.run_bytes.Given as goal

abbrev pub invariant-loop-c : goal.invariant-loop-c
invariant-loop-c l =
    Going (Bytes l.bytes) l.page l.mode l.fn.start l.fn.escape l.fn.out (chars_of l.bytes) l.w l.isolator l.place l.escape l.out

abbrev pub decreases-loop-c : goal.decreases-loop-c
decreases-loop-c l = length l.bytes - l.place
