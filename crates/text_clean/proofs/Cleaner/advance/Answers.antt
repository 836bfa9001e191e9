-- A run of plain characters and the line end behind it, a line end or a character where nothing is pending, and else one byte
-- (proofs/Turns.antt).
use Rattle.std.proofs.Common.{refl, sym, ap, ◌∙◌}
use Rattle.utf8_lossy.specs.declared.Pending.TheVariants.{Nothing as NoBytes}
use Rattle.text_clean.specs.declared.text.Text.{Text}
use Rattle.text_clean.specs.Inner.{course_of}
use Rattle.text_clean.proofs.Turns.{plain_room, plain_fits, plain_moves, line_room, line_moves, char_asks, char_moves, byte_room, byte_fits, byte_moves, behind_asks, behind_moves}
use Rattle.text_clean.proofs.Cleaner.advance.Goals as goal

-- ---- a run of plain characters
pub copy_run-requires : goal.copy_run-requires
copy_run-requires c =
    let a = c.args in
    plain_room _ _ _ (course_of a.self a.tally) _ _ _ _ c.requires.more (sym c.is_nothing.ensures ∙ c.if-is_nothing.true) (sym c.is_ready.ensures ∙ c.if-is_ready.true)
    _ c.plain_run-run.ensures c.if-i-end.true c.requires.room

pub tally_read-sofar-requires : goal.tally_read-sofar-requires
tally_read-sofar-requires c =
    let a = c.args in
    plain_fits _ _ _ (course_of a.self a.tally) _ _ a.out.now a.k c.requires.more (sym c.is_nothing.ensures ∙ c.if-is_nothing.true) (sym c.is_ready.ensures ∙ c.if-is_ready.true)
    _ c.plain_run-run.ensures c.if-i-end.true c.requires.fits

pub take_line-requires : goal.take_line-requires
take_line-requires c =
    let a = c.args in
    let moved = plain_moves a.page.now a.options a.lines (course_of a.self a.tally) a.bytes.now a.i a.out.now a.k c.requires.more
    (sym c.is_nothing.ensures ∙ c.if-is_nothing.true) (sym c.is_ready.ensures ∙ c.if-is_ready.true) c.plain_run-run.result c.plain_run-run.ensures c.if-i-end.true
    _ c.passed-next.ensures _ c.tally_read-sofar.ensures _ c.copy_run.ensures _ c.requires.gap in
    behind_asks _ _ _ (course_of a.self a.tally) _ _ _ _ _ _ moved a.self.text _
    (ap (λ (t : Text). record { pending = NoBytes; text = t }) c.passed-next.ensures) c.requires.room c.requires.fits

pub returns-then-i-end : goal.returns-then-i-end
returns-then-i-end c =
    let a = c.args in
    let moved = plain_moves a.page.now a.options a.lines (course_of a.self a.tally) a.bytes.now a.i a.out.now a.k c.requires.more
    (sym c.is_nothing.ensures ∙ c.if-is_nothing.true) (sym c.is_ready.ensures ∙ c.if-is_ready.true) c.plain_run-run.result c.plain_run-run.ensures c.if-i-end.true
    _ c.passed-next.ensures _ c.tally_read-sofar.ensures _ c.copy_run.ensures _ c.requires.gap in
    behind_moves _ _ _ (course_of a.self a.tally) _ _ _ _ _ _ moved a.self.text _
    (ap (λ (t : Text). record { pending = NoBytes; text = t }) c.passed-next.ensures) _ c.take_line.ensures.moved _ c.take_line.ensures.places

-- ---- a line end
pub bounds-out-k : goal.bounds-out-k
bounds-out-k c =
    let a = c.args in
    line_room _ _ _ (course_of a.self a.tally) _ _ _ _ c.requires.more (sym c.is_nothing.ensures ∙ c.if-is_nothing.true) (sym c.is_ready.ensures ∙ c.if-is_ready.true)
    _ c.line_end-width.ensures c.if-width-gt0.true c.requires.room

pub returns-then-width-gt0 : goal.returns-then-width-gt0
returns-then-width-gt0 c =
    let a = c.args in
    line_moves _ _ _ (course_of a.self a.tally) _ _ _ _ c.requires.more (sym c.is_nothing.ensures ∙ c.if-is_nothing.true) (sym c.is_ready.ensures ∙ c.if-is_ready.true)
    _ c.line_end-width.ensures c.if-width-gt0.true _ c.ended.ensures _ c.tally_read.ensures _ refl _ c.requires.gap

-- ---- a character
pub take-taken-requires : goal.take-taken-requires
take-taken-requires c =
    let a = c.args in
    let q = char_asks _ _ _ (course_of a.self a.tally) _ _ _ _ c.requires.more (sym c.is_nothing.ensures ∙ c.if-is_nothing.true) _ _
    (sym c.utf8_step.ensures ∙ c.in-Some.is) c.requires.room c.requires.fits in
    record { page = c.requires.page; char = q.0; room = q.1.0; fits = q.1.1 }

pub returns-in-Some : goal.returns-in-Some
returns-in-Some c =
    let a = c.args in
    let t = c.take-taken.ensures in
    char_moves _ _ _ (course_of a.self a.tally) _ _ _ _ c.requires.more (sym c.is_nothing.ensures ∙ c.if-is_nothing.true) _ _
    (sym c.utf8_step.ensures ∙ c.in-Some.is) _ _ (t.taken, t.places) _ c.next_gap.ensures

-- ---- a byte
pub take_byte-ran-requires-clause-room : goal.take_byte-ran-requires-clause-room
take_byte-ran-requires-clause-room c = let a = c.args in byte_room _ _ _ (course_of a.self a.tally) _ _ _ _ c.requires.more c.requires.room

pub take_byte-ran-requires-clause-fits : goal.take_byte-ran-requires-clause-fits
take_byte-ran-requires-clause-fits c =
    let a = c.args in
    byte_fits _ _ _ (course_of a.self a.tally) _ _ a.out.now a.k c.requires.more c.requires.fits

pub returns : goal.returns
returns c =
    let a = c.args in
    byte_moves _ _ _ (course_of a.self a.tally) _ _ _ _ c.requires.more _ c.requires.gap _ c.take_byte-ran.ensures.ran _ c.take_byte-ran.ensures.places
