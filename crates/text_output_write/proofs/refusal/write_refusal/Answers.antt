-- What refuses without the values refuses with them: 9 and 2 come first.
use Rattle.std.proofs.Common.{◌≡◌, ℕ, List}
use Rattle.common.specs.Answers.{refusal_number}
use Rattle.common.specs.declared.Refusal.{Refusal}
use Rattle.common.proofs.Answers.{refusal_some}
use Rattle.common.proofs.Kit.{by}
use Rattle.page.specs.Page.{accepted}
use Rattle.text_output.specs.declared.TextOutput.{TextOutput}
use Rattle.text_output.specs.Writer.{machine_of, sound}
use Rattle.text_output.specs.Write.{input_refusal, write_refusal}
use Rattle.text_output_write.proofs.refusal.write_refusal.Goals as goal

comes_first : (w : TextOutput) (p : List ℕ) (why : Refusal) (values n room : ℕ) → refusal_number why ≡ input_refusal w p 0 →
    refusal_number why ≡ write_refusal w p values n room
unfolding write_refusal
comes_first w p why values n room e =
    by (sound (machine_of w))
    (λ s. by (accepted p) (λ a. absurd (refusal_some why (rw (s, a) at e))) (λ a. rw (s, a) (rw (s, a) at e)))
    (λ s. rw s (rw s at e))

pub returns-in-Err : goal.returns-in-Err
returns-in-Err c =
    let a = c.args in
    rw c.number.ensures (comes_first a.w a.page.now c.in-Err.why a.values a.n a.room c.in-Err.ensures)
