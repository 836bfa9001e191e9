-- `unit_or_zero` meets its contract: past the last unit stands 0.
use Rattle.std.proofs.Common.{◌≤◌, length, sym, arith}
use lib.ListN.{get_or-eq_default}
use Rattle.utf16.specs.Reading.{units_in}
use Rattle.utf16.proofs.Units.{length_units}
use Rattle.utf16.proofs.unit_or_zero.Goals as goal

pub returns : goal.returns
returns c =
    let a = c.args in
    let past : length (units_in a.order a.bytes.now) ≤ a.i = omega (arith, length_units a.order a.bytes.now, c.if-i-bytes.false) in
    (sym (get_or-eq_default (units_in a.order a.bytes.now) 0 past), omega arith)
