-- A write is refused as the definition says, or its steps and its end are the write.
use Rattle.std.proofs.Common.{◌∙◌, length}
use Rattle.text_output_write.proofs.Entries.{Through, let_through, str_refused, str_written, place_sound, place_room, place_ends_written}
use Rattle.text_output_write.proofs.write_str.Goals as goal

pub returns-in-Err : goal.returns-in-Err
returns-in-Err c =
    let a = c.args in
    str_refused a.w a.page.now c.in-Err.why c.refused_by.result c.refused_by.ensures a.out.now a.chars.now (rw c.chars_refusal.ensures at c.in-Err.ensures)

pub run-pushed-requires : goal.run-pushed-requires
run-pushed-requires c =
    let a = c.args in
    let p = c.place_of.ensures in
    let t : Through a.w a.page.now (length a.chars.now) (length a.out.now) = let_through _ _ _ _ _ (rw c.chars_refusal.ensures at c.in_default.ensures) in
    record {
      page = t.page;
      sound = place_sound a.w _ p.escape_sequence_value p.at_value a.page.now a.chars.now t.is_sound;
      room = place_room a.w _ p.escape_sequence_value p.at_value a.page.now a.chars.now _ t;
    }

pub end_write-requires : goal.end_write-requires
end_write-requires c =
    let a = c.args in
    let t : Through a.w a.page.now (length a.chars.now) (length a.out.now) = let_through _ _ _ _ _ (rw c.chars_refusal.ensures at c.in_default.ensures) in
    t.page

pub returns : goal.returns
returns c =
    let a = c.args in
    let p = c.place_of.ensures in
    place_ends_written a.w _ p.escape_sequence_value p.at_value a.page.now a.chars.now _ _ _ _ c.run-pushed.ensures c.end_write.result _ c.end_write.ensures c.first_of-first.ensures
    ∙ str_written a.w a.page.now a.out.now a.chars.now (rw c.chars_refusal.ensures at c.in_default.ensures)
