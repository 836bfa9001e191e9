-- The end of a write, and the room that it has.
--     ended_stored    how a write ends, by where its steps led
--     write_fits      a write that 8 lets through has room for its steps
use Prim.Native.Nat.{ℕ, ◌+◌, ◌*◌, ◌≤◌}
use mathlib.Core.Path.{◌≡◌, refl}
use mathlib.Core.Bool.{true}
use mathlib.Core.List.{List}
use native.Mathlib.Omega.{arith}
use lib.ListN.{length}
use Rattle.page.specs.Page.{accepted}
use Rattle.isolate_unassigned.specs.Inner.{fresh}
use Rattle.text_output.specs.declared.Mode.{Mode}
use Rattle.text_output.specs.declared.TextOutput.{TextOutput}
use Rattle.text_output.specs.Writer.{Machine, machine_of, sound}
use Rattle.text_output.specs.Step.{Stepped, goes, stops}
use Rattle.text_output.specs.Write.{run_in, ended_by, places_for_write}
use Rattle.text_output_write.specs.Inner.{pushed, stored, end_of}
use Rattle.text_output_write.proofs.Rest.{run_rest}
use Rattle.text_output_write.proofs.Stays.{Stays, stays_more, rest_stays}

pub ended_stored : (p : List ℕ) (w : TextOutput) (s : Stepped) (places : List ℕ) →
    ended_by p w s places ≡ end_of p w.mode w.expect_starter (stored w.kept places s)
ended_stored p w (goes xs m) places = refl
ended_stored p w (stops xs m n) places = refl

-- how much a write adds
run_stays : (mode : Mode) (p : List ℕ) → accepted p ≡ true → (cs : List ℕ) (m : Machine) → sound m ≡ true → Stays (3 * length cs) m (run_in mode p m cs)
run_stays mode p a cs m s =
    rw (run_rest mode p a m cs) (stays_more (3 * length cs + 0) _ m _ (omega arith) (rest_stays mode p cs m fresh s))

pub write_fits : (p : List ℕ) → accepted p ≡ true → (cs : List ℕ) (w : TextOutput) (n : ℕ) → sound (machine_of w) ≡ true → places_for_write w (length cs) ≤ n →
    w.kept + length (pushed (run_in w.mode p (machine_of w) cs)) ≤ n
write_fits p a cs w n s h = omega (arith, (run_stays w.mode p a cs (machine_of w) s).size)
