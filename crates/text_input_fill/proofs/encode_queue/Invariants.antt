use Rattle.text_input_fill.proofs.Filling.{Encoding}
use Rattle.text_input_fill.proofs.encode_queue.Given as goal

abbrev pub invariant-loop-taken : goal.invariant-loop-taken
invariant-loop-taken l = Encoding l.queue l.fn.buf l.buf l.taken l.bytes
