-- Where nothing refuses the chunk, the places that its run fills, without a dropped U+FEFF, are what `ask_of` says.
use Rattle.std.proofs.Common.{◌≡◌, ◌≤◌, length, length-drop, sym, ap, ◌∙◌, refl, arith}
use Rattle.common.specs.Answers.{written_numbers}
use Rattle.common.proofs.Kit.{err_is}
use Rattle.common.proofs.Answers.{refusal_some}
use Rattle.common.proofs.Lists.{rest_is}
use Rattle.text_input.proofs.Calls.{skip_le}
use Rattle.text_input_price.proofs.Calls.{ask_refused, told, ask_is}
use Rattle.text_input_price.proofs.ask.Goals as goal

pub returns-in_err-chunk_refusal : goal.returns-in_err-chunk_refusal
returns-in_err-chunk_refusal c =
    let a = c.args in
    rw (err_is _ _ c.from_residual.ensures.1)
    (ask_refused a.r a.page.now a.options a.chunk.now _ (rw (← c.are_chars.ensures, ← c.is_accepted.ensures) c.in_err-chunk_refusal.ensures)
    (refusal_some c.in_err-chunk_refusal.field-0.0))

pub overflow_cast-chunk : goal.overflow_cast-chunk
overflow_cast-chunk c =
    let a = c.args in
    omega (arith, (told a.r a.page.now a.options a.chunk.now 0 (rw (← c.are_chars.ensures, ← c.is_accepted.ensures) c.in_ok-chunk_refusal.ensures) refl).counts)

pub open-opened-requires : goal.open-opened-requires
open-opened-requires c =
    let a = c.args in
    (told a.r a.page.now a.options a.chunk.now 0 (rw (← c.are_chars.ensures, ← c.is_accepted.ensures) c.in_ok-chunk_refusal.ensures) refl).counts

pub run_places-requires-clause-page_value : goal.run_places-requires-clause-page_value
run_places-requires-clause-page_value c =
    let a = c.args in
    (told a.r a.page.now a.options a.chunk.now 0 (rw (← c.are_chars.ensures, ← c.is_accepted.ensures) c.in_ok-chunk_refusal.ensures) refl).right_page

pub run_places-requires-clause-chunk_len_bound : goal.run_places-requires-clause-chunk_len_bound
run_places-requires-clause-chunk_len_bound c =
    let a = c.args in
    rw rest_is
    (omega (
      arith,
      (told a.r a.page.now a.options a.chunk.now 0 (rw (← c.are_chars.ensures, ← c.is_accepted.ensures) c.in_ok-chunk_refusal.ensures) refl).counts,
      length-drop c.skips-from.result a.chunk.now,
    ))

pub returns : goal.returns
returns c =
    let a = c.args in
    ask_is a.r a.page.now a.options a.chunk.now 0 (rw (← c.are_chars.ensures, ← c.is_accepted.ensures) c.in_ok-chunk_refusal.ensures) refl
    _ c.skips-from.ensures _ c.open-opened.ensures _ (rw rest_is at c.run_places.ensures)
