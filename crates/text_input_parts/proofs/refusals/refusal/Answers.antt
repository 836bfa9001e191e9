-- The places are asked where the first half refuses nothing, and then the chunk is one that the count can hold.
use Rattle.std.proofs.Common.{sym, ap, ◌∙◌, arith}
use borrow.Author.Tests.{ne_eqb}
use Rattle.common.specs.Answers.{passed_number}
use Rattle.common.proofs.Kit.{err_is}
use Rattle.common.proofs.Answers.{refusal_some}
use Rattle.text_input_parts.specs.Refusals.{refusal_of}
use Rattle.text_input_parts.proofs.Passed.{chunk_passed}
use Rattle.text_input_parts.proofs.refusals.refusal.Goals as goal

pub returns-in_err-chunk_refusal : goal.returns-in_err-chunk_refusal
unfolding refusal_of
returns-in_err-chunk_refusal c =
    let e = sym c.chunk_refusal.ensures ∙ ap passed_number c.in_err-chunk_refusal.was in
    rw (err_is _ _ c.from_residual.ensures.1, e, ne_eqb _ 0 (refusal_some c.in_err-chunk_refusal.field-0.0))

pub places_for-requires : goal.places_for-requires
places_for-requires c =
    let a = c.args in
    let e = sym c.chunk_refusal.ensures ∙ ap passed_number c.in_ok-chunk_refusal.was in
    omega (arith, (chunk_passed a.count a.page a.chars a.n e).counts)

pub returns : goal.returns
unfolding refusal_of
returns c =
    let e = sym c.chunk_refusal.ensures ∙ ap passed_number c.in_ok-chunk_refusal.was in
    rw (e, c.room_refusal.ensures, c.places_for.ensures)
