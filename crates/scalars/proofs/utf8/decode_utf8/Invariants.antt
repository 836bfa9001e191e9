-- `scalars::decode_utf8` meets its contract. The loop's invariant: storing what is left gives what storing the whole gives. The
-- measure is what is left of the bytes.
use Prim.Native.Nat.{◌-◌}
use lib.ListN.{length}
use Rattle.scalars.proofs.Texts.{Decoding}
use Rattle.scalars.proofs.utf8.decode_utf8.Given as goal

abbrev pub invariant-loop-chars : goal.invariant-loop-chars
invariant-loop-chars l = Decoding l.bytes l.initial.out l.out l.chars l.at

abbrev pub decreases-loop-chars : goal.decreases-loop-chars
decreases-loop-chars l = length l.bytes - l.at
