-- What asking answers decides, and where the places are enough, the run of the chunk, without a dropped U+FEFF, is what `commit_of` says.
use Rattle.std.proofs.Common.{◌≡◌, sym, refl, ◌∙◌, arith}
use Rattle.common.proofs.Lists.{rest_is}
use Rattle.text_input_price.proofs.Calls.{told, priced, commit_refused, commit_fewer, enough, committed_is}
use Rattle.text_input_price.proofs.commit.Goals as goal

pub returns-in-Err : goal.returns-in-Err
returns-in-Err c = let a = c.args in sym (commit_refused a.r a.page.now a.options a.chunk.now a.queue.now _ (sym c.in-Err.ensures))

pub returns-then-queue-needed : goal.returns-then-queue-needed
returns-then-queue-needed c =
    let a = c.args in
    sym (commit_fewer a.r a.page.now a.options a.chunk.now a.queue.now _ (sym c.in-Ok.ensures) (omega arith))

pub overflow_cast-chunk : goal.overflow_cast-chunk
overflow_cast-chunk c =
    let a = c.args in
    let z = (priced a.r a.page.now a.options a.chunk.now _ (sym c.in-Ok.ensures)).0 in
    omega (arith, (told a.r a.page.now a.options a.chunk.now 0 (sym z) refl).counts)

pub open-opened-requires : goal.open-opened-requires
open-opened-requires c =
    let a = c.args in
    let z = (priced a.r a.page.now a.options a.chunk.now _ (sym c.in-Ok.ensures)).0 in
    (told a.r a.page.now a.options a.chunk.now 0 (sym z) refl).counts

pub run-ran-requires-clause-page_value : goal.run-ran-requires-clause-page_value
run-ran-requires-clause-page_value c =
    let a = c.args in
    let z = (priced a.r a.page.now a.options a.chunk.now _ (sym c.in-Ok.ensures)).0 in
    (told a.r a.page.now a.options a.chunk.now 0 (sym z) refl).right_page

pub run-ran-requires-clause-chunk_in_bounds : goal.run-ran-requires-clause-chunk_in_bounds
run-ran-requires-clause-chunk_in_bounds c =
    let a = c.args in
    rw rest_is
    (enough a.r a.page.now a.options a.chunk.now a.queue.now _ (sym c.in-Ok.ensures) (omega arith) _ c.skips-from.ensures _ c.open-opened.ensures)

pub returns-else-queue-needed : goal.returns-else-queue-needed
returns-else-queue-needed c =
    let a = c.args in
    let e = c.run-ran.ensures in
    committed_is a.r a.page.now a.options a.chunk.now a.queue.now _ (sym c.in-Ok.ensures) (omega arith) _ c.skips-from.ensures _ c.open-opened.ensures
    c.run-ran.result _ (rw rest_is at e.ran, rw rest_is at e.places)
