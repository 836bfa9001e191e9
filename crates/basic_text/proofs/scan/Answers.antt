-- Where no refusal stands in the way, the run of the chunk, without a dropped U+FEFF, is what `scan_of` says.
use Rattle.std.proofs.Common.{◌≡◌, ℕ, List, length, ◌/◌, refl, arith, rules}
use Rattle.scalars.specs.Chars.{are_chars}
use Rattle.page.specs.Page.{accepted}
use Rattle.text_input.proofs.Calls.{right_page, from_le}
use Rattle.text_input_parts.specs.Refusals.{places_for_chunk, refusal_of}
use Rattle.text_input.specs.declared.Options.{Options}
use Rattle.text_input.specs.declared.TextInput.{TextInput}
use Rattle.basic_text.specs.Exports.{numbers_of}
use Rattle.basic_text.proofs.Laws.{Bytes}
use Rattle.basic_text.proofs.Calls.{AskedBytes, asked, scan_refused, few, room, scan_accepted}
use Rattle.basic_text.proofs.scan.Goals as goal

-- a scan, with the number of its refusal
abbrev it : (r : TextInput) (page : List ℕ) (o : Options) (chunk queue : List ℕ) → Bytes queue → (n : ℕ) →
    n ≡ refusal_of r.count (accepted page) (are_chars (numbers_of chunk)) (length chunk / 4) (places_for_chunk (length chunk / 4)) (length queue / 4) → AskedBytes
it r page o chunk queue b n e = record { r = r; page = page; options = o; chunk = chunk; queue = queue; bytes = b; no = n; is = e }

pub returns-in-Err : goal.returns-in-Err
returns-in-Err c =
    let a = c.args in
    let small : Bytes a.queue.now = λ i. search rules in
    let s = scan_refused (it a.r a.page.now a.options a.chunk.now a.queue.now small _ (rw (← c.hold_chars.ensures, ← c.is_accepted.ensures) c.in-Err.ensures)) c.in-Err.why refl in
    record { queue_value = s.0; queue_after = s.1 }

pub overflow_cast-n : goal.overflow_cast-n
overflow_cast-n c =
    let a = c.args in
    let small : Bytes a.queue.now = λ i. search rules in
    omega (arith, few (it a.r a.page.now a.options a.chunk.now a.queue.now small 0 (rw (← c.hold_chars.ensures, ← c.is_accepted.ensures) c.in_default.ensures)) refl)

pub open-requires : goal.open-requires
open-requires c =
    let a = c.args in
    let small : Bytes a.queue.now = λ i. search rules in
    few (it a.r a.page.now a.options a.chunk.now a.queue.now small 0 (rw (← c.hold_chars.ensures, ← c.is_accepted.ensures) c.in_default.ensures)) refl

pub run-ran-requires : goal.run-ran-requires
run-ran-requires c =
    let a = c.args in
    let small : Bytes a.queue.now = λ i. search rules in
    let s = it a.r a.page.now a.options a.chunk.now a.queue.now small 0 (rw (← c.hold_chars.ensures, ← c.is_accepted.ensures) c.in_default.ensures) in
    record {
      page_value = right_page (asked s) refl;
      from_in_bounds = from_le (asked s) refl _ c.skips-from.ensures;
      chunk_in_bounds = room s refl _ c.skips-from.ensures _ c.open.ensures;
    }

pub returns : goal.returns
returns c =
    let a = c.args in
    let small : Bytes a.queue.now = λ i. search rules in
    let s = it a.r a.page.now a.options a.chunk.now a.queue.now small 0 (rw (← c.hold_chars.ensures, ← c.is_accepted.ensures) c.in_default.ensures) in
    let e = c.run-ran.ensures in
    let t = scan_accepted s refl _ c.skips-from.ensures _ c.open.ensures c.run-ran.result _ (e.ran, e.places) in
    record { queue_value = t.0; queue_after = t.1 }
