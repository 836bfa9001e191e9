-- What `flush` and `close` over a lent record share. The record is copied out and passed to the method, of which only its contract is
-- known; of what that returns the record is stored and the answer is returned. The walk through that code is the toolchain's.
--     lent_meets       so a function with this code leaves what the method's definition says, where the method meets its contract
use mathlib.Core.Path.{◌≡◌}
use Rattle.text_output.specs.declared.Answered.{Answered}
use Rattle.text_output.specs.declared.TextOutput.{TextOutput}
use Rattle.text_output.specs.Writer.{Given, answered_given}
use Rattle.text_output_lent.specs.Lent.{leaves}

-- "Thin functions taking &mut writer record, calling the covered by-value methods and storing the result."
pub lent_meets : (f : TextOutput → Given) (w : TextOutput) (done : Answered) → answered_given done ≡ f w → leaves done.answer done.next ≡ f w
lent_meets f w done e = e
