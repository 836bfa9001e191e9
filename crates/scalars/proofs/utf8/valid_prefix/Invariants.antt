-- `scalars::valid_prefix` meets its contract: it counts as decoding into as many places as there are bytes would. The loop's
-- invariant is that of `decode_utf8`, for some such places. The measure is what is left of the bytes.
use Prim.Native.Nat.{ℕ, ◌-◌}
use mathlib.Core.List.{List}
use lib.ListN.{length}
use Rattle.scalars.proofs.Texts.{Decoding}
use Rattle.scalars.proofs.utf8.valid_prefix.Given as goal

abbrev pub invariant-loop-c : goal.invariant-loop-c
invariant-loop-c l = (out : List ℕ) × Decoding l.bytes l.bytes out l.chars l.at

abbrev pub decreases-loop-c : goal.decreases-loop-c
decreases-loop-c l = length l.bytes - l.at
