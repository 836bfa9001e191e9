use Rattle.std.proofs.Common.{◌≡◌, ◌+◌, ◌≤◌, ◌<◌, ℕ, Bool, ◌&&◌, List, length, get_or, drop, sym, ◌∙◌, add-one, drop-cons, arith}
use mathlib.Core.Bool.{and_assoc, and-true}
use Rattle.std.proofs.Math.ListN.{drop_of_length-le}
use Rattle.scalars.specs.Chars.{is_char, are_chars}
use Rattle.basic_text.specs.Exports.{numbers_of}
use Rattle.basic_text.proofs.Laws.{length_numbers}
use Rattle.basic_text.proofs.numbers.hold_chars.Goals as goal

turn : (cs : List ℕ) (i n : ℕ) (good b : Bool) → i < length cs → n ≡ get_or cs i 0 → b ≡ is_char n →
    ((good && b) && are_chars (drop (i + 1) cs)) ≡ (good && are_chars (drop i cs))
turn cs i n good b h d e = rw (and_assoc, e, d, add-one, drop-cons cs i 0)

pub loop-i-preserved : goal.loop-i-preserved
loop-i-preserved c =
    let l = c.loop-i in
    turn _ l.i _ l.good _ (omega (arith, length_numbers c.args.bytes.now)) c.read_number.ensures c.is_char-good.ensures ∙ l.invariant

pub returns : goal.returns
returns c =
    let l = c.loop-i in
    let past : length (numbers_of c.args.bytes.now) ≤ l.i = omega (arith, length_numbers c.args.bytes.now) in
    sym (and-true l.good) ∙ rw (drop_of_length-le (numbers_of c.args.bytes.now) past) at l.invariant
