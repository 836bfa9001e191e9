use Rattle.std.proofs.Common.{◌<◌, ◌≤◌, length, arith}
use native.Mathlib.Nat.{zero-add}
use Rattle.common.proofs.Storing.{begin, again, ended}
use Rattle.basic_text.specs.Exports.{numbers_of}
use Rattle.basic_text.proofs.Laws.{length_numbers}
use Rattle.basic_text.proofs.numbers.read_numbers.Goals as goal

pub loop-i-init : goal.loop-i-init
loop-i-init c = begin (numbers_of c.args.bytes.now) c.args.out.now 0 (omega (arith, c.requires))

pub loop-i-preserved : goal.loop-i-preserved
loop-i-preserved c =
    let ns = numbers_of c.args.bytes.now in
    let more : c.loop-i.i < length ns = omega (arith, length_numbers c.args.bytes.now) in
    simp zero-add at (again ns c.args.out.now 0 c.loop-i.out c.loop-i.i c.loop-i.invariant c.read_number.result more c.read_number.ensures)

pub returns : goal.returns
returns c =
    let ns = numbers_of c.args.bytes.now in
    let past : length ns ≤ c.loop-i.i = omega (arith, length_numbers c.args.bytes.now) in
    ended ns _ 0 _ _ c.loop-i.invariant past
