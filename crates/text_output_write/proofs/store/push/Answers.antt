-- In each arm what is stored, and the record after, are what the step asks for, done.
use Rattle.std.proofs.Common.{◌<◌, length-take, refl, ap, sym, ◌∙◌, arith}
use native.Mathlib.Nat.{add-zero, sub-zero}
use Rattle.text_output_write.specs.Inner.{machine_at}
use Rattle.text_output_write.proofs.Asked.{takes}
use Rattle.text_output_write.proofs.Stores.{does, takes_low, out_room, whole_room, whole_stored, whole_length}
use Rattle.text_output_write.proofs.store.push.Goals as goal

pub bounds-out-at : goal.bounds-out-at
bounds-out-at c =
    let a = c.args in
    out_room a.mode a.w a.escape.now a.c c.requires.sub a.out.now c.requires.room _ (sym c.state_machine_char.ensures ∙ c.in-Out.is)

pub offset_bounds-escape-held : goal.offset_bounds-escape-held
offset_bounds-escape-held c =
    let a = c.args in
    omega (arith, takes_low a.mode a.w a.escape.now a.c c.requires.sound (ap takes (sym c.state_machine_char.ensures ∙ c.in-Hold.is)))

pub bounds-escape-held : goal.bounds-escape-held
bounds-escape-held c =
    let a = c.args in
    takes_low a.mode a.w a.escape.now a.c c.requires.sound (ap takes (sym c.state_machine_char.ensures ∙ c.in-Hold.is))

pub overflow_add-result-in-Hold : goal.overflow_add-result-in-Hold
overflow_add-result-in-Hold c =
    let a = c.args in
    omega (arith, takes_low a.mode a.w a.escape.now a.c c.requires.sound (ap takes (sym c.state_machine_char.ensures ∙ c.in-Hold.is)))

pub put_run-requires : goal.put_run-requires
put_run-requires c =
    let a = c.args in
    let q = sym c.state_machine_char.ensures ∙ c.in-Whole.is in
    let low : a.w.held < 64 = takes_low a.mode a.w a.escape.now a.c c.requires.sound (ap takes q) in
    omega (arith, length-take a.w.held a.escape.now, whole_room a.mode a.w a.escape.now a.c c.requires.sub a.out.now c.requires.room (omega arith) low q)

pub bounds-out-at-in-Whole : goal.bounds-out-at-in-Whole
bounds-out-at-in-Whole c =
    let a = c.args in
    let q = sym c.state_machine_char.ensures ∙ c.in-Whole.is in
    let low : a.w.held < 64 = takes_low a.mode a.w a.escape.now a.c c.requires.sound (ap takes q) in
    omega (arith, whole_room a.mode a.w a.escape.now a.c c.requires.sub a.out.now c.requires.room (omega arith) low q)

pub returns-in-Out : goal.returns-in-Out
unfolding machine_at
returns-in-Out c =
    let a = c.args in
    rw (does a.mode a.w a.escape.now a.c c.requires.sub _ (sym c.state_machine_char.ensures ∙ c.in-Out.is)) refl

pub returns-in-Hold : goal.returns-in-Hold
unfolding machine_at
returns-in-Hold c =
    let a = c.args in
    rw (does a.mode a.w a.escape.now a.c c.requires.sub _ (sym c.state_machine_char.ensures ∙ c.in-Hold.is)) (simp add-zero)

pub returns-in-Whole : goal.returns-in-Whole
unfolding machine_at
returns-in-Whole c =
    let a = c.args in
    let e = a.escape.now in
    let q = sym c.state_machine_char.ensures ∙ c.in-Whole.is in
    let low : a.w.held < 64 = takes_low a.mode a.w e a.c c.requires.sound (ap takes q) in
    rw (
      does a.mode a.w e a.c c.requires.sub _ q,
      simp sub-zero at c.put_run.ensures,
      whole_stored e a.out.now a.w.held a.w.at a.c (omega arith) low,
      whole_length e a.out.now a.w.held a.w.at a.c (omega arith) low,
    )
    refl

pub returns-in-NoColor : goal.returns-in-NoColor
returns-in-NoColor c =
    let a = c.args in
    rw (does a.mode a.w a.escape.now a.c c.requires.sub _ (sym c.state_machine_char.ensures ∙ c.in-NoColor.is)) (simp add-zero)

pub returns-in-Unrecognized : goal.returns-in-Unrecognized
returns-in-Unrecognized c =
    let a = c.args in
    rw (does a.mode a.w a.escape.now a.c c.requires.sub _ (sym c.state_machine_char.ensures ∙ c.in-Unrecognized.is)) (simp add-zero)

pub returns-in-Full : goal.returns-in-Full
returns-in-Full c =
    let a = c.args in
    rw (does a.mode a.w a.escape.now a.c c.requires.sub _ (sym c.state_machine_char.ensures ∙ c.in-Full.is)) (simp add-zero)
