-- A write is refused as the definition says, or it is the write of the decoded characters.
use Rattle.std.proofs.Common.{◌∙◌, ap, length}
use Rattle.scalars.specs.Utf8.{chars_of}
use Rattle.scalars.specs.declared.utf8.Prefix.{Prefix}
use Rattle.text_output.specs.Write.{taking}
use Rattle.text_output_write.proofs.Entries.{Through, let_through, bytes_refused, bytes_written, place_sound, place_room, place_ends_written, taken}
use Rattle.text_output_write.proofs.write.Goals as goal

pub returns-in-Err : goal.returns-in-Err
returns-in-Err c =
    let a = c.args in
    let t = c.taking.ensures in
    taken c.taking.result c.refused_by.result _ a.out.now a.bytes.now t.used_value t.answer_value.0 t.answer_value.1 (ap (λ (q : Prefix). q.bytes) c.valid_prefix-prefix.ensures)
    ∙ bytes_refused a.w a.page.now c.in-Err.why c.refused_by.result c.refused_by.ensures a.out.now a.bytes.now
    (rw (c.bytes_refusal-values.ensures, c.valid_prefix-prefix.ensures) at c.in-Err.ensures)

pub run_bytes-pushed-requires : goal.run_bytes-pushed-requires
run_bytes-pushed-requires c =
    let a = c.args in
    let p = c.place_of.ensures in
    let t : Through a.w a.page.now (length (chars_of a.bytes.now)) (length a.out.now) =
    let_through _ _ _ _ _ (rw (c.bytes_refusal-values.ensures, c.valid_prefix-prefix.ensures) at c.in_default.ensures) in
    record {
      page = t.page;
      sound = place_sound a.w _ p.escape_sequence_value p.at_value a.page.now (chars_of a.bytes.now) t.is_sound;
      room = place_room a.w _ p.escape_sequence_value p.at_value a.page.now (chars_of a.bytes.now) _ t;
    }

pub end_write-written-requires : goal.end_write-written-requires
end_write-written-requires c =
    let a = c.args in
    let t : Through a.w a.page.now (length (chars_of a.bytes.now)) (length a.out.now) =
    let_through _ _ _ _ _ (rw (c.bytes_refusal-values.ensures, c.valid_prefix-prefix.ensures) at c.in_default.ensures) in
    t.page

pub returns : goal.returns
returns c =
    let a = c.args in
    let p = c.place_of.ensures in
    let t = c.taking-2.ensures in
    taken c.taking-2.result c.end_write-written.result _ _ a.bytes.now t.used_value t.answer_value.0 t.answer_value.1 (ap (λ (q : Prefix). q.bytes) c.valid_prefix-prefix.ensures)
    ∙ ap (taking a.bytes.now)
    (place_ends_written a.w _ p.escape_sequence_value p.at_value a.page.now (chars_of a.bytes.now) _ _ _ _ c.run_bytes-pushed.ensures c.end_write-written.result _ c.end_write-written.ensures c.first_of-first.ensures)
    ∙ bytes_written a.w a.page.now a.out.now a.bytes.now (rw (c.bytes_refusal-values.ensures, c.valid_prefix-prefix.ensures) at c.in_default.ensures)
