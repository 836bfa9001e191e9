-- The bytes that are stored are those of numbers of 32 bits.
use Rattle.std.proofs.Common.{ap, ◌∙◌, arith}
use Rattle.basic_text.specs.Exports.{numbers_of}
use Rattle.basic_text.specs.Inner.{tail}
use Rattle.basic_text.proofs.Laws.{length_numbers}
use Rattle.basic_text.proofs.Crossing.{Wide}
use Rattle.basic_text.proofs.Moved.{numbers_sets, tail_sets}
use Rattle.basic_text.proofs.writing.store_numbers.Goals as goal

pub write_numbers-requires : goal.write_numbers-requires
write_numbers-requires c = omega (arith, length_numbers c.args.queue.now)

pub returns : goal.returns
returns c =
    let a = c.args in
    let wide : Wide a.from.now = λ i. omega (arith, c.type_inv.from i) in
    record {
      places = ap numbers_of c.write_numbers.ensures ∙ numbers_sets a.from.now a.queue.now a.k wide c.requires;
      tail = ap tail c.write_numbers.ensures ∙ tail_sets a.from.now a.queue.now a.k c.requires;
    }
