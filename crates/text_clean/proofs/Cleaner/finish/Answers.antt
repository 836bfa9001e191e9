-- The characters for the bytes cut off are taken, and then the text is closed (proofs/Calls.antt).
use Rattle.std.proofs.Common.{◌≡◌, sym, ◌∙◌}
use Rattle.text_clean.specs.Inner.{no_tally}
use Rattle.text_clean.proofs.Append.{tally_is}
use Rattle.text_clean.proofs.Calls.{take_asks, close_asks, finished}
use Rattle.text_clean.proofs.Cleaner.finish.Goals as goal

pub take_out-taken-requires : goal.take_out-taken-requires
take_out-taken-requires c =
    let a = c.args in
    let d = c.default.ensures in
    let none : c.default.result ≡ no_tally = tally_is d.0 d.1.0 d.1.1.0 d.1.1.1 in
    let right = sym c.is_accepted.ensures ∙ c.if-not-is_accepted.false in
    let k = take_asks a.self a.page.now a.options a.eof a.out.now right _ _ _ none c.len.ensures c.tally_replaced-sofar.ensures c.if-out-lt8.false
    c.finish.result c.finish.ensures in
    record { page = right; chars = k.chars; room = k.room; fits = k.fits }

pub close-closed-requires : goal.close-closed-requires
close-closed-requires c =
    let a = c.args in
    let d = c.default.ensures in
    let none : c.default.result ≡ no_tally = tally_is d.0 d.1.0 d.1.1.0 d.1.1.1 in
    let t = c.take_out-taken.ensures in
    let k = close_asks a.self a.page.now a.options a.eof a.out.now (sym c.is_accepted.ensures ∙ c.if-not-is_accepted.false) _ _ _ none c.len.ensures
    c.tally_replaced-sofar.ensures c.if-out-lt8.false c.finish.result c.finish.ensures c.take_out-taken.result _ (t.taken, t.places) in
    record { room = k.0; fits = k.1 }

pub returns : goal.returns
returns c =
    let a = c.args in
    let d = c.default.ensures in
    let none : c.default.result ≡ no_tally = tally_is d.0 d.1.0 d.1.1.0 d.1.1.1 in
    let t = c.take_out-taken.ensures in
    let e = c.close-closed.ensures in
    finished a.self a.page.now a.options a.eof a.out.now (sym c.is_accepted.ensures ∙ c.if-not-is_accepted.false) _ _ _ none c.len.ensures
    c.tally_replaced-sofar.ensures c.if-out-lt8.false c.finish.result c.finish.ensures c.take_out-taken.result _ (t.taken, t.places)
    c.close-closed.result _ e.taken e.places _ c.count_all.ensures
