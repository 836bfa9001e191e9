-- The 34F that is owed, and 0D 0A behind it, stored as the two steps are.
use Rattle.std.proofs.Common.{[], add-one}
use Rattle.isolate_unassigned.specs.Meaning.{joiner}
use Rattle.text_output.specs.Step.{steps_of}
use Rattle.text_output.specs.Write.{put_crlf}
use Rattle.text_output_write.specs.Inner.{machine_at}
use Rattle.text_output_write.proofs.Progress.{on_then}
use Rattle.text_output_write.proofs.run.line_end.Goals as goal

pub returns : goal.returns
unfolding machine_at
returns c =
    let a = c.args in
    rw (← on_then a.w.at a.out.now put_crlf (steps_of a.mode (machine_at a.w a.escape.now) [] (joiner a.owed)) _ _ _ (rw c.in_ok-next.was at c.push_joiner.ensures))
    (simp add-one)
