-- What is left of the chunk leads to the same end as the whole (proofs/Loop.antt).
use Rattle.std.proofs.Common.{◌≡◌, length}
use Rattle.std.specs.Slice.Iter.{chunks_rest, chunks_size}
use Rattle.basic_text.proofs.Loop.{Pieces}
use Rattle.basic_text.proofs.run.run.Given as goal

abbrev pub invariant-loop-bytes : goal.invariant-loop-bytes
invariant-loop-bytes l =
    Pieces l.page l.options l.chunk l.from l.fn.queue l.fn.first l.queue l.ran (chunks_rest l.bytes-iterator)
    × (chunks_size l.bytes-iterator ≡ 1024) × (length l.numbers ≡ 256) × (length l.places ≡ 769)
