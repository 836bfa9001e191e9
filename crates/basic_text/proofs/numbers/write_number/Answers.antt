use Rattle.std.proofs.Common.{◌≡◌, ◌+◌, ◌-◌, ◌*◌, refl, arith, ◌∙◌}
use Rattle.basic_text.proofs.Laws.{to_le}
use Rattle.basic_text.proofs.Stores.{part_stored}
use Rattle.basic_text.proofs.numbers.write_number.Goals as goal

pub returns : goal.returns
returns c =
    let at = 4 * c.args.i in
    let e : at + 4 - at ≡ 4 = omega arith in
    rw e (part_stored _ _ _ at 4 (c.copy_from_slice.ensures.after ∙ c.to_le_bytes.ensures ∙ to_le c.args.n) refl (omega arith))
