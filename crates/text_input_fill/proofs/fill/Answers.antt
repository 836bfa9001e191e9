-- What is encoded, then the continuation bytes behind it zeroed, are the definition's bytes.
use Rattle.std.proofs.Common.{sym, ◌∙◌}
use Rattle.text_input_fill.proofs.Filling.{filled_is}
use Rattle.text_input_fill.proofs.fill.Goals as goal

pub returns : goal.returns
returns c =
    let e = c.encode_queue-filled.ensures in
    filled_is _ _ _ _ _ _ c.if-buf-lt-NORMALIZATION_BUFFER_SIZE.false (sym c.are_chars.ensures ∙ c.if-not-are_chars.false)
    (e.taken, (e.filled, e.bytes)) c.clear_to_char_boundary.ensures
