-- By how many characters there are (proofs/Turns.antt).
use Rattle.text_clean.proofs.Turns.{first_asks, second_asks, two_takes}
use Rattle.text_clean.proofs.take_out.Goals as goal

pub take-first-requires-clause-room : goal.take-first-requires-clause-room
take-first-requires-clause-room c =
    let q = c.requires in
    (first_asks _ _ _ _ _ _ _ _ _ _ c.in-Two.is (record { chars = q.chars; room = q.room; fits = q.fits })).1.0

pub take-requires-in-Two-clause-room : goal.take-requires-in-Two-clause-room
take-requires-in-Two-clause-room c =
    let q = c.requires in
    let t = c.take-first.ensures in
    (second_asks _ _ _ _ _ _ _ _ _ _ c.in-Two.is (record { chars = q.chars; room = q.room; fits = q.fits }) _ _ (t.taken, t.places)).1.0

pub returns-in-Two-clause-taken : goal.returns-in-Two-clause-taken
returns-in-Two-clause-taken c =
    let t = c.take-first.ensures in
    let u = c.take-in-Two.ensures in
    (two_takes _ _ _ _ _ _ _ _ _ _ c.in-Two.is _ _ (t.taken, t.places) _ _ (u.taken, u.places)).0
