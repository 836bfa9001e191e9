use Rattle.utf8_lossy.specs.Decode.{pending_of, turn_in}
use Rattle.text_clean.proofs.Turns.{byte_chars}
use Rattle.text_clean.proofs.Cleaner.take_byte.Goals as goal

pub take_out-taken-requires-clause-chars : goal.take_out-taken-requires-clause-chars
take_out-taken-requires-clause-chars c = byte_chars (pending_of c.args.self.pending) c.args.b (turn_in c.step-stepped.result) c.step-stepped.ensures
