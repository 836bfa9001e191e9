-- The way of proofs/Runs.antt, over what is left of the characters.
use Rattle.text_output_write.proofs.Runs.{Going, Chars}
use Rattle.text_output_write.proofs.run.run.Given as goal

abbrev pub invariant-loop-c : goal.invariant-loop-c
invariant-loop-c l =
    Going (Chars l.chars) l.page l.mode l.fn.start l.fn.escape l.fn.out l.chars l.w l.isolator l.c-index l.escape l.out
