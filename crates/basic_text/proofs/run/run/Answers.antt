use Rattle.std.proofs.Common.{◌≡◌, ◌*◌, drop, refl, ap, ◌∙◌, rules, arith}
use Rattle.std.specs.Slice.Iter.{chunks_rest}
use Rattle.std.proofs.lemmas.Slice.{between_to_end}
use Rattle.basic_text.proofs.Loop.{pieces_begin, piece_fits, piece_taken}
use Rattle.basic_text.proofs.run.run.Goals as goal

pub loop-bytes-init : goal.loop-bytes-init
loop-bytes-init c =
    let chunk = c.args.chunk.now in
    let e : chunks_rest c.into_iter-bytes-iterator.result ≡ drop (4 * c.args.from) chunk =
    ap chunks_rest c.into_iter-bytes-iterator.ensures.into_iter_gives ∙ c.chunks-bytes-items.ensures.rest ∙ between_to_end chunk _ _ (omega arith) in
    (rw e (pieces_begin _ _ chunk _ _ _ c.requires.from_in_bounds), search rules, refl, refl)

pub piece-ran-requires-clause-room : goal.piece-ran-requires-clause-room
piece-ran-requires-clause-room c =
    let s = c.in-Some.ensures.steps in
    let v = c.loop-bytes.invariant in
    piece_fits _ _ _ _ _ _ _ _ _ v.0 c.in-Some.bytes.now _ s.1.0 (rw v.1 at s.1.1) c.requires.chunk_in_bounds

pub loop-bytes-preserved : goal.loop-bytes-preserved
loop-bytes-preserved c =
    let s = c.in-Some.ensures.steps in
    let v = c.loop-bytes.invariant in
    let r = c.piece-ran.ensures in
    (piece_taken _ _ _ _ _ _ _ _ _ v.0 c.in-Some.bytes.now _ s.1.0 (rw v.1 at s.1.1) _ _ r.ran r.stored, s.0 ∙ v.1, search rules, search rules)
