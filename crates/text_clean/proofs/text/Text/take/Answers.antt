-- A leading U+FEFF gives nothing. Of any other character the step's lead and image are stored, one behind the other, and where it ends
-- its line what ends a text behind them (proofs/text/Taking.antt).
use Rattle.text_clean.proofs.text.Taking.{byte_bit, mark_is, mark_taken, counts_fit, lead_asks, image_asks, line_asks, step_taken, line_taken}
use Rattle.text_clean.proofs.text.Text.take.Goals as goal

-- ---- a leading U+FEFF
pub tally_char-requires : goal.tally_char-requires
tally_char-requires c =
    let a = c.args in
    rw (c.from-before.ensures, byte_bit) (rw (mark_is a.page.now a.options a.lines a.self a.c c.if-self-c.true) at c.requires.fits)

pub returns-then-self-c : goal.returns-then-self-c
returns-then-self-c c =
    let a = c.args in
    let t = mark_taken a.page.now a.options a.lines a.self a.c c.if-self-c.true a.out.now a.k a.tally _ _ c.begin-input.ensures
    (rw (c.from-before.ensures, byte_bit) at c.tally_char.ensures) in
    record { taken = t.0; places = t.1 }

-- ---- any other character
pub tally_char-sofar-requires : goal.tally_char-sofar-requires
tally_char-sofar-requires c =
    let a = c.args in
    simp (c.from-before.ensures, c.from.ensures, c.from-2.ensures, c.in_escape-part.ensures, c.is_losable.ensures, byte_bit)
    (counts_fit a.page.now a.options a.lines a.self a.c c.if-self-c.false a.k a.tally c.requires.fits)

pub put_lead-then-requires : goal.put_lead-then-requires
put_lead-then-requires c =
    let a = c.args in
    let l = lead_asks a.page.now a.options a.lines a.self a.c c.if-self-c.false c.requires.char c.step-step.result
    (rw c.begin-input.ensures at c.step-step.ensures) a.out.now a.k c.requires.room in
    record { lead_value = l.0; lead_in_bounds = l.1 }

pub put_image-at-requires : goal.put_image-at-requires
put_image-at-requires c =
    let a = c.args in
    let l = c.put_lead-then.ensures in
    let i = image_asks a.page.now a.options a.lines a.self a.c c.if-self-c.false c.requires.char c.step-step.result
    (rw c.begin-input.ensures at c.step-step.ensures) a.out.now a.k c.requires.room _ _ (l.value, l.out_after) in
    record { image_value = i.0; image_in_bounds = i.1 }

pub returns : goal.returns
returns c =
    let a = c.args in
    let l = c.put_lead-then.ensures in
    let i = c.put_image-at.ensures in
    let t = step_taken a.page.now a.options a.lines a.self a.c c.if-self-c.false c.requires.char c.step-step.result
    (rw c.begin-input.ensures at c.step-step.ensures) a.out.now a.k c.requires.room _ _ (l.value, l.out_after) _ _ (i.value, i.out_after) a.tally _
    (simp (c.from-before.ensures, c.from.ensures, c.from-2.ensures, c.in_escape-part.ensures, c.is_losable.ensures, byte_bit) at c.tally_char-sofar.ensures)
    c.if-lines-c.false _ c.in_escape-part.ensures in
    record { taken = t.0; places = t.1 }

-- ---- the end of its line
pub close-closed-requires-clause-room : goal.close-closed-requires-clause-room
close-closed-requires-clause-room c =
    let a = c.args in
    let l = c.put_lead-then.ensures in
    let i = c.put_image-at.ensures in
    (line_asks a.page.now a.options a.lines a.self a.c c.if-self-c.false c.requires.char c.step-step.result
    (rw c.begin-input.ensures at c.step-step.ensures) a.out.now a.k c.requires.room _ _ (l.value, l.out_after) _ _ (i.value, i.out_after)
    c.if-lines-c.true).1

pub returns-then-lines-c : goal.returns-then-lines-c
returns-then-lines-c c =
    let a = c.args in
    let l = c.put_lead-then.ensures in
    let i = c.put_image-at.ensures in
    let e = c.close-closed.ensures in
    let t = line_taken a.page.now a.options a.lines a.self a.c c.if-self-c.false c.requires.char c.step-step.result
    (rw c.begin-input.ensures at c.step-step.ensures) a.out.now a.k c.requires.room _ _ (l.value, l.out_after) _ _ (i.value, i.out_after) a.tally _
    (simp (c.from-before.ensures, c.from.ensures, c.from-2.ensures, c.in_escape-part.ensures, c.is_losable.ensures, byte_bit) at c.tally_char-sofar.ensures)
    c.if-lines-c.true _ _ _ (e.taken, e.places) c.new.ensures in
    record { taken = t.0; places = t.1 }
