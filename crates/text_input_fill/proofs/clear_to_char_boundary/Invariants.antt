use Rattle.std.proofs.Common.{◌≡◌, ◌++◌, take, drop}
use Rattle.text_input_fill.specs.Fill.{zeroed}
use Rattle.text_input_fill.proofs.clear_to_char_boundary.Given as goal

abbrev pub invariant-loop-b : goal.invariant-loop-b
invariant-loop-b l =
    take l.b-index l.b-items ++ zeroed (drop l.b-index l.b-items) ≡ zeroed (drop l.at l.fn.buf)
