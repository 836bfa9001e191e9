-- Where no refusal stands in the way, the run of the chunk, without a dropped U+FEFF, is what `scan_of` says.
use Rattle.std.proofs.Common.{ℕ, List, length, ◌≡◌, refl, arith}
use Rattle.common.proofs.Answers.{refusal_some}
use Rattle.common.proofs.Lists.{rest_is}
use Rattle.text_input.specs.declared.Options.{Options}
use Rattle.text_input.specs.declared.TextInput.{TextInput}
use Rattle.text_input.specs.Scan.{scan_refusal}
use Rattle.text_input.proofs.Calls.{Asked, refused_is, right_page, counts, from_le, enough, accepted_is}
use Rattle.text_input.proofs.TextInput.scan.Goals as goal

-- a scan, with the number of its refusal
abbrev asked : (r : TextInput) (page : List ℕ) (o : Options) (chunk queue : List ℕ) (n : ℕ) → n ≡ scan_refusal r.count page chunk (length queue) → Asked
asked r page o chunk queue n e = record { r = r; page = page; options = o; chunk = chunk; queue = queue; no = n; is = e }

pub returns-in-Err : goal.returns-in-Err
returns-in-Err c =
    let a = c.args in
    refused_is
    (asked a.self a.page.now a.options a.chunk.now a.queue.now _ (rw (← c.are_chars.ensures, ← c.is_accepted.ensures) c.in-Err.ensures))
    (refusal_some c.in-Err.why)

pub overflow_cast-chunk : goal.overflow_cast-chunk
overflow_cast-chunk c =
    let a = c.args in
    omega (arith, counts (asked a.self a.page.now a.options a.chunk.now a.queue.now 0 (rw (← c.are_chars.ensures, ← c.is_accepted.ensures) c.in_default.ensures)) refl)

pub open-r-requires : goal.open-r-requires
open-r-requires c =
    let a = c.args in
    counts (asked a.self a.page.now a.options a.chunk.now a.queue.now 0 (rw (← c.are_chars.ensures, ← c.is_accepted.ensures) c.in_default.ensures)) refl

pub run-ran-requires-clause-page_value : goal.run-ran-requires-clause-page_value
run-ran-requires-clause-page_value c =
    let a = c.args in
    right_page (asked a.self a.page.now a.options a.chunk.now a.queue.now 0 (rw (← c.are_chars.ensures, ← c.is_accepted.ensures) c.in_default.ensures)) refl

pub run-ran-requires-clause-chunk_in_bounds : goal.run-ran-requires-clause-chunk_in_bounds
run-ran-requires-clause-chunk_in_bounds c =
    let a = c.args in
    rw rest_is
    (enough (asked a.self a.page.now a.options a.chunk.now a.queue.now 0 (rw (← c.are_chars.ensures, ← c.is_accepted.ensures) c.in_default.ensures)) refl _ c.skips-from.ensures _ c.open-r.ensures)

pub returns : goal.returns
returns c =
    let a = c.args in
    let e = c.run-ran.ensures in
    accepted_is (asked a.self a.page.now a.options a.chunk.now a.queue.now 0 (rw (← c.are_chars.ensures, ← c.is_accepted.ensures) c.in_default.ensures)) refl _
    c.skips-from.ensures _ c.open-r.ensures c.run-ran.result _ (rw rest_is at e.ran, rw rest_is at e.places)
