use Rattle.std.proofs.Common.{arith}
use Rattle.text_input_fill.proofs.Filling.{encode_again, encode_asks}
use Rattle.text_input_fill.proofs.encode_queue.Goals as goal

pub write_utf8-bytes-requires : goal.write_utf8-bytes-requires
write_utf8-bytes-requires c =
    encode_asks _ _ _ _ _ c.loop-taken.invariant c.loop-taken-test.true (omega arith)

pub loop-taken-preserved : goal.loop-taken-preserved
loop-taken-preserved c =
    rw (c.write_utf8-bytes.ensures.0, c.write_utf8-bytes.ensures.1) (encode_again _ _ _ _ _ c.loop-taken.invariant c.loop-taken-test.true (omega arith))
