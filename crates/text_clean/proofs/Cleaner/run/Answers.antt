use Rattle.std.proofs.Common.{◌≡◌, arith}
use Rattle.stretch.proofs.Way.{begin}
use Rattle.text_clean.specs.Inner.{no_tally}
use Rattle.text_clean.proofs.Append.{tally_is}
use Rattle.text_clean.proofs.Calls.{left_room, left_fits, moved, ran}
use Rattle.text_clean.proofs.Cleaner.run.Goals as goal

pub loop-moved-init : goal.loop-moved-init
loop-moved-init c =
    let d = c.default.ensures in
    let e : c.default.result ≡ no_tally = tally_is d.0 d.1.0 d.1.1.0 d.1.1.1 in
    rw e (begin _ _ _ _ _ (omega arith), c.first_gap.ensures)

pub advance-moved-requires : goal.advance-moved-requires
advance-moved-requires c =
    let v = c.loop-moved.invariant in
    let m = c.loop-moved.moved in
    record {
      page = c.requires.page;
      more = c.loop-moved-test.true;
      gap = v.1;
      room = left_room _ _ _ _ _ c.args.self _ m.next m.tally _ _ v.0 c.requires.room;
      fits = left_fits _ _ _ _ _ c.args.self _ m.next m.tally _ _ v.0 c.requires.fits;
    }

pub loop-moved-preserved : goal.loop-moved-preserved
loop-moved-preserved c =
    let v = c.advance-moved.ensures in
    let m = c.loop-moved.moved in
    (moved _ _ _ _ _ c.args.self _ m.next m.tally _ _ c.loop-moved.invariant.0 c.advance-moved.result _ v, v.gap)

pub returns : goal.returns
returns c =
    let m = c.loop-moved.moved in
    let r = ran _ _ _ _ _ c.args.self _ m.next m.tally _ _ c.loop-moved.invariant.0 c.loop-moved-test.false in
    record { ran = r.0; places = r.1 }
