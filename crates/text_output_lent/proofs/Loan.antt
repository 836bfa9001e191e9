-- What `flush_by_loan` and `close_by_loan` share. The record is put into a local, lent, and as the lent function leaves it handed back
-- with the answer. The walk through that code is the toolchain's.
--     loan_meets       so a function with this code hands back what the lent function leaves
use mathlib.Core.Path.{◌≡◌}
use Rattle.text_output.specs.declared.TextOutput.{TextOutput}
use Rattle.text_output.specs.Writer.{Given, answered_given}
use Rattle.text_output_lent.specs.Lent.{leaves}
use Rattle.text_output.specs.declared.CloseError.{CloseError}
use Rattle.std.specs.Prelude.{⊤, Result}

-- "flush, close and abandon also exist over a lent record"
pub loan_meets : (f : TextOutput → Given) (w next : TextOutput) (answer : Result ⊤ CloseError) → leaves answer next ≡ f w →
    answered_given (record { answer = answer; next = next }) ≡ f w
loan_meets f w next answer e = e
