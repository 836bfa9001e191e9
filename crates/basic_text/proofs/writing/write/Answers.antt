-- A write is refused as the definition says, or it is the write of the decoded characters; the bytes past the last whole four stay.
use Rattle.std.proofs.Common.{◌∙◌, ap, sym, length, arith, rules}
use lib.Seq.{sets}
use Rattle.scalars.specs.Utf8.{chars_of}
use Rattle.scalars.specs.declared.utf8.Prefix.{Prefix}
use Rattle.text_output.specs.Writer.{BytesOutcome}
use Rattle.text_output.specs.Write.{taking}
use Rattle.text_output_write.proofs.Entries.{Through, let_through, bytes_refused, bytes_written, place_sound, place_room, place_ends_written, taken}
use Rattle.basic_text.specs.Exports.{numbers_of, bytes_of}
use Rattle.basic_text.proofs.Laws.{Bytes, length_numbers, with_all}
use Rattle.basic_text.proofs.Moved.{with_tail}
use Rattle.basic_text.proofs.writing.write.Goals as goal

pub returns-in-Err : goal.returns-in-Err
returns-in-Err c =
    let a = c.args in
    let queue = a.queue.now in
    let t = c.taking.ensures in
    let is =
    taken c.taking.result c.refused_by.result _ (numbers_of queue) a.bytes.now t.used_value t.answer_value.0 t.answer_value.1 (ap (λ (q : Prefix). q.bytes) c.valid_prefix-prefix.ensures)
    ∙ bytes_refused a.w a.page.now c.in-Err.why c.refused_by.result c.refused_by.ensures (numbers_of queue) a.bytes.now
    (rw (c.bytes_refusal-values.ensures, c.valid_prefix-prefix.ensures, ← length_numbers queue) at c.in-Err.ensures) in
    let small : Bytes queue = λ i. omega (arith, c.type_inv.queue i) in
    record { outcome = is; places = sym (with_all queue small) ∙ ap (λ (o : BytesOutcome). sets queue 0 (bytes_of o.outcome.places)) is }

pub run_write-pushed-requires : goal.run_write-pushed-requires
run_write-pushed-requires c =
    let a = c.args in
    let p = c.place_of.ensures in
    let t : Through a.w a.page.now (length (chars_of a.bytes.now)) (length (numbers_of a.queue.now)) =
    let_through _ _ _ _ _ (rw (c.bytes_refusal-values.ensures, c.valid_prefix-prefix.ensures, ← length_numbers a.queue.now) at c.in_default.ensures) in
    record {
      page = t.page;
      sound = place_sound a.w _ p.escape_sequence_value p.at_value a.page.now (chars_of a.bytes.now) t.is_sound;
      room = place_room a.w _ p.escape_sequence_value p.at_value a.page.now (chars_of a.bytes.now) _ t;
    }

pub end_write-written-requires : goal.end_write-written-requires
end_write-written-requires c =
    let a = c.args in
    let t : Through a.w a.page.now (length (chars_of a.bytes.now)) (length (numbers_of a.queue.now)) =
    let_through _ _ _ _ _ (rw (c.bytes_refusal-values.ensures, c.valid_prefix-prefix.ensures, ← length_numbers a.queue.now) at c.in_default.ensures) in
    t.page

pub returns : goal.returns
returns c =
    let a = c.args in
    let queue = a.queue.now in
    let after = c.run_write-pushed.new.queue in
    let p = c.place_of.ensures in
    let t = c.taking-2.ensures in
    let is =
    taken c.taking-2.result c.end_write-written.result _ (numbers_of after) a.bytes.now t.used_value t.answer_value.0 t.answer_value.1 (ap (λ (q : Prefix). q.bytes) c.valid_prefix-prefix.ensures)
    ∙ ap (taking a.bytes.now)
    (place_ends_written a.w _ p.escape_sequence_value p.at_value a.page.now (chars_of a.bytes.now) _ _ _ _ c.run_write-pushed.ensures.steps c.end_write-written.result _ c.end_write-written.ensures c.first_number-first.ensures)
    ∙ bytes_written a.w a.page.now (numbers_of queue) a.bytes.now (rw (c.bytes_refusal-values.ensures, c.valid_prefix-prefix.ensures, ← length_numbers queue) at c.in_default.ensures) in
    let small : Bytes after = λ i. search rules in
    record {
      outcome = is;
      places = with_tail after queue small c.run_write-pushed.auto.queue c.run_write-pushed.ensures.tail ∙ ap (λ (o : BytesOutcome). sets queue 0 (bytes_of o.outcome.places)) is;
    }
