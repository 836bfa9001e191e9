-- What a flush or a close over a lent record returns and leaves, to be held to `flush_of` and `close_of` of `text_output`. Document 01,
-- "The shape each place takes": "calling the covered by-value methods and storing the result".
use Rattle.text_output.specs.declared.TextOutput.{TextOutput}
use Rattle.text_output.specs.Writer.{Given, answer_numbers, answer_tells}
use Rattle.text_output.specs.declared.CloseError.{CloseError}
use Rattle.std.specs.Prelude.{⊤, Result}

-- the numbers of the answer returned, whether it tells the caller to abandon, and the lent record as the call returns
-- "Core first; afterwards flush, close and abandon also exist over a lent record."
abbrev pub leaves : Result ⊤ CloseError → TextOutput → Given
leaves answer w = record { numbers = answer_numbers answer; abandon = answer_tells answer; next = w }
