-- All bytes before the place at hand are plain, and the blocks left are of the bytes from there on.
use Rattle.std.proofs.Common.{◌≡◌, drop}
use Rattle.std.specs.Slice.Iter.{chunks_exact_rest, chunks_exact_size}
use Rattle.text_clean.specs.Inner.{PlainTo}
use Rattle.text_clean.proofs.plain.ascii_end.Given as goal

abbrev pub invariant-loop-block : goal.invariant-loop-block
invariant-loop-block l =
    PlainTo l.bytes l.from l.at × (chunks_exact_rest l.block-iterator ≡ drop l.at l.bytes) × (chunks_exact_size l.block-iterator ≡ 16)
