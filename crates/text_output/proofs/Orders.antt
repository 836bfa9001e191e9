-- The order of the refusals of each call, for every record and input, in document 01's words. Idea: what refuses before the steps is a
-- chain of tests, and so is the order; the steps are refused by 4 or 6; 5 looks at the first character to hand out.
--     write_order, write_bytes_order    of a write of characters, of bytes
--     flush_order, close_order          of a flush, a close
use Prim.Native.Nat.{ℕ, zero, suc, ◌+◌, ◌*◌, ◌≤◌, ◌<◌}
use mathlib.Core.Bool.{Bool, true, false, cond, not, ◌&&◌, ◌||◌}
use mathlib.Core.List.{List, [], ◌∷◌, ◌++◌}
use mathlib.Core.Path.{◌≡◌, refl, sym, ◌∙◌, ap}
use native.Mathlib.Omega.{arith}
use lib.Dec.{eqb, leb, ltb}
use lib.ListN.{length, take, get_or}
use lib.Seq.{sets}
use borrow.Author.Tests.{eqb-true, ltb-false, leb-true, leb-false, le-ltb, lt-ltb}
use Rattle.common.specs.Order.{Refusal, ◌when◌, first_of}
use Rattle.common.proofs.Kit.{by}
use Rattle.common.proofs.Lists.{take_sets}
use Rattle.scalars.specs.Chars.{are_chars}
use Rattle.scalars.specs.Utf8.{chars_of}
use Rattle.page.specs.Page.{accepted}
use Rattle.text_utils.specs.Classes.{basic_text_start}
use Rattle.isolate_unassigned.specs.Meaning.{isolated}
use Rattle.text_output.specs.declared.Ground.TheVariants.{Newline, ZwjOrPrepend, Other}
use Rattle.text_output.specs.declared.State.{State}
use Rattle.text_output.specs.declared.State.TheVariants.{Ground, Esc, Csi}
use Rattle.text_output.specs.declared.Mode.{Mode}
use Rattle.text_output.specs.declared.Mode.TheVariants.{Plain, Crlf, Color}
use Rattle.text_output.specs.declared.TextOutput.{TextOutput}
use Rattle.text_output.specs.Writer.{Given, Outcome, Machine, machine_of, held_in, sound, refused_by}
use Rattle.text_output.specs.Kept.{to_hand_out}
use Rattle.text_output.specs.Step.{Stepped, goes, stops, steps_of}
use Rattle.text_output.specs.Write.{run_of, parts, more_parts, run_in, ended_by, written_by, write_refusal, unless_refused, write_str_of, write_of}
use Rattle.text_output.specs.Close.{flush_in, flush_of, close_in, close_of}
use Rattle.text_output.specs.Refusals.{refusal_in}
use Rattle.text_output.specs.Orders.{misclaims, in_escape, after_non_end, after_another, added, stops_by, begins_with_none}
use Rattle.text_output.proofs.Steps.{four, six, Holds, mode_refuses}

-- ---- 9
-- past 64, and at most 64
past_is : (n m : ℕ) → not (leb n m) ≡ ltb m n
past_is n m = by (leb n m) (λ e. rw (e, le-ltb m n (leb-true n m e))) (λ e. rw (e, lt-ltb m n (leb-false n m e)))

either : (a b : Bool) → not (a && b) ≡ not a || not b
either true b = refl
either false b = refl

-- 9 refuses what the definition does not call sound
unsound_is : (s : State) (n : ℕ) → not (leb n 64 && held_in s n) ≡ misclaims s n
unsound_is (Ground g) n = rw (either (leb n 64) (eqb n 0), past_is n 64)
unsound_is Esc n = rw (either (leb n 64) (eqb n 1), past_is n 64)
unsound_is Csi n = rw (either (leb n 64) (leb 2 n), past_is n 64, past_is 2 n)

-- ---- a flush and a close
-- 9, and then what the state says
state_order : (w : TextOutput) (g : Given) (later : ℕ) → refusal_in g ≡ later →
    refusal_in (cond (sound (machine_of w)) g (refused_by 9 w)) ≡ cond (misclaims w.state w.held) 9 later
state_order w g later e =
    rw (← (unsound_is w.state w.held)) (by (sound (machine_of w)) (λ s. rw s e) (λ s. rw s))

flush_state : (w : TextOutput) (s : State) → refusal_in (flush_in s w) ≡ first_of (13 when in_escape s ∷ 11 when after_non_end s ∷ [])
flush_state w (Ground Newline) = refl
flush_state w (Ground ZwjOrPrepend) = refl
flush_state w (Ground Other) = refl
flush_state w Esc = refl
flush_state w Csi = refl

-- "Flush and close test 9, then the state"; "11 flush or close after a non-end."; "13 flush or close inside an escape."
pub flush_order : (w : TextOutput) → refusal_in (flush_of w)
    ≡ first_of (9 when misclaims w.state w.held ∷ 13 when in_escape w.state ∷ 11 when after_non_end w.state ∷ [])
unfolding flush_of
flush_order w = state_order w (flush_in w.state w) _ (flush_state w w.state)

close_state : (w : TextOutput) (s : State) → refusal_in (close_in s w)
    ≡ first_of (13 when in_escape s ∷ 11 when after_non_end s ∷ 12 when after_another s ∷ [])
close_state w (Ground Newline) = refl
close_state w (Ground ZwjOrPrepend) = refl
close_state w (Ground Other) = refl
close_state w Esc = refl
close_state w Csi = refl

-- the same, and "12 close after another character that is no newline."
pub close_order : (w : TextOutput) → refusal_in (close_of w)
    ≡ first_of (9 when misclaims w.state w.held ∷ 13 when in_escape w.state ∷ 11 when after_non_end w.state
    ∷ 12 when after_another w.state ∷ [])
unfolding close_of
close_order w = state_order w (close_in w.state w) _ (close_state w w.state)

-- ---- a write, before its steps
-- the number that an answer lists, by the number that refuses it before its steps
unless_number : (n : ℕ) (w : TextOutput) (places : List ℕ) (o : Outcome) →
    refusal_in (unless_refused n w places o).given ≡ cond (eqb n 0) (refusal_in o.given) n
unless_number n w places o =
    by (eqb n 0) (λ e. rw e) (λ e. rw e (by (eqb n 3) (λ t. rw t (sym (eqb-true n 3 t))) (λ t. rw t)))

-- the tests of the definition, one behind the other; k, by which the values refuse, is 1 or 3
chain : (s a v short : Bool) (k x y : ℕ) → eqb k 0 ≡ false → (short ≡ false → x ≡ y) →
    let i = cond (not s) 9 (cond (not a) 2 (cond v k 0)) in
    let n = cond (eqb i 0) (cond short 8 0) i in
    cond (eqb n 0) x n ≡ cond (not s) 9 (cond (not a) 2 (cond v k (cond short 8 y)))
chain false a v short k x y z h = refl
chain true false v short k x y z h = refl
chain true true true short k x y z h = rw z (rw z)
chain true true false true k x y z h = refl
chain true true false false k x y z h = h refl

-- ---- 5
-- stores behind the first place leave it
head_taken : (l : List ℕ) → get_or (take 1 l) 0 0 ≡ get_or l 0 0
head_taken [] = refl
head_taken (c ∷ l) = refl

head_stays : (l xs : List ℕ) (i : ℕ) → 1 ≤ i → get_or (sets l i xs) 0 0 ≡ get_or l 0 0
head_stays l xs i h =
    sym (head_taken (sets l i xs)) ∙ ap (λ (t : List ℕ). get_or t 0 0) (take_sets 1 xs l i h) ∙ head_taken l

-- the buffer's first character is the first kept one, or the first that is added
begins_is : (p : List ℕ) (k : ℕ) (places xs : List ℕ) → k ≤ length places → (0 < length xs → 0 < length places) →
    ltb 0 (k + length xs) && not (basic_text_start p (get_or (sets places k xs) 0 0)) ≡ begins_with_none p (take k places ++ xs)
begins_is p zero places [] h g = refl
begins_is p zero [] (x ∷ xs) h g = absurd (omega (arith, g (omega arith)))
begins_is p zero (c ∷ places) (x ∷ xs) h g = rw (lt-ltb 0 (0 + suc (length xs)) (omega arith), head_stays (x ∷ places) xs 1 (omega arith))
begins_is p (suc k) [] xs h g = absurd (omega arith)
begins_is p (suc k) (c ∷ places) xs h g =
    rw (lt-ltb 0 (suc k + length xs) (omega arith), head_stays (c ∷ places) xs (suc k) (omega arith))

-- ---- a write, by its steps
-- an empty write has none
empty_steps : (p : List ℕ) (mode : Mode) (m : Machine) → run_in mode p m [] ≡ goes [] m
unfolding run_of parts more_parts steps_of isolated
empty_steps p Plain m = refl
empty_steps p Crlf m = refl
empty_steps p Color m = refl

added_fit : (p : List ℕ) (mode : Mode) (m : Machine) (chars : List ℕ) (room : ℕ) → 3 * length chars ≤ room →
    0 < length (added (run_in mode p m chars)) → 0 < room
added_fit p mode m [] room h g = absurd (omega (arith, rw (empty_steps p mode m) at g))
added_fit p mode m (c ∷ chars) room h g = omega (arith, h)

-- "then 4 or 6 as met, then 5."
ended_order : (p : List ℕ) (w : TextOutput) (places : List ℕ) (s : Stepped) → Holds (λ (m : Machine). Unit {0}) s →
    w.kept ≤ length places → (0 < length (added s) → 0 < length places) → refusal_in (ended_by p w s places).given
    ≡ first_of (4 when stops_by 4 s ∷ 6 when stops_by 6 s
    ∷ 5 when (w.expect_starter && begins_with_none p (to_hand_out w places (added s))) ∷ [])
ended_order p w places (goes xs m) h k g =
    rw (← (begins_is p w.kept places xs k g))
    (by (w.expect_starter && (ltb 0 (w.kept + length xs) && not (basic_text_start p (get_or (sets places w.kept xs) 0 0))))
    (λ e. rw e) (λ e. rw e))
ended_order p w places (stops xs m _) (h, four) k g = refl
ended_order p w places (stops xs m _) (h, six) k g = refl

module _ (w : TextOutput) (p chars places : List ℕ) where
  abbrev steps : Stepped
  steps = run_in w.mode p (machine_of w) chars

  abbrev at_steps : List Refusal
  at_steps =
      4 when stops_by 4 steps ∷ 6 when stops_by 6 steps
      ∷ 5 when (w.expect_starter && begins_with_none p (to_hand_out w places (added steps))) ∷ []

  written_order : ltb (length places) (w.kept + w.held + 3 * length chars) ≡ false → refusal_in (written_by w p chars places).given
      ≡ first_of at_steps
  unfolding written_by
  written_order e =
      let h : w.kept + w.held + 3 * length chars ≤ length places = ltb-false (length places) (w.kept + w.held + 3 * length chars) e in
      ended_order p w places steps (mode_refuses p w.mode (machine_of w) chars) (omega arith)
      (added_fit p w.mode (machine_of w) chars (length places) (omega arith))

  -- k, by which the values refuse
  order_by : (v : Bool) (k : ℕ) → eqb k 0 ≡ false →
      refusal_in (unless_refused (write_refusal w p (cond v k 0) (length chars) (length places)) w places (written_by w p chars places)).given
      ≡ first_of (9 when misclaims w.state w.held ∷ 2 when not (accepted p) ∷ k when v
      ∷ 8 when ltb (length places) (w.kept + w.held + 3 * length chars) ∷ at_steps)
  unfolding write_refusal
  order_by v k z =
      rw (← (unsound_is w.state w.held))
      (unless_number (write_refusal w p (cond v k 0) (length chars) (length places)) w places (written_by w p chars places)
      ∙ chain (sound (machine_of w)) (accepted p) v (ltb (length places) (w.kept + w.held + 3 * length chars)) k _ _ z written_order)

flip : (b : Bool) → cond {A = ℕ} b 0 1 ≡ cond (not b) 1 0
flip true = refl
flip false = refl

-- "Order: 9, 2, 1 (or 3 for bytes), 8, then 4 or 6 as met, then 5."; "A write of n characters needs kept + held + 3 × n places."; "1 a
-- value in D800..DFFF or above 10FFFF. 2 a wrong page."; "5 the buffer to hand out, not empty, begins with no start while one is expected."
pub write_order : (w : TextOutput) (p chars places : List ℕ) → let steps = run_in w.mode p (machine_of w) chars in
    refusal_in (write_str_of w p chars places).given
    ≡ first_of (9 when misclaims w.state w.held ∷ 2 when not (accepted p) ∷ 1 when not (are_chars chars)
    ∷ 8 when ltb (length places) (w.kept + w.held + 3 * length chars)
    ∷ 4 when stops_by 4 steps ∷ 6 when stops_by 6 steps
    ∷ 5 when (w.expect_starter && begins_with_none p (to_hand_out w places (added steps))) ∷ [])
unfolding write_str_of
write_order w p chars places = rw (flip (are_chars chars)) (order_by w p chars places (not (are_chars chars)) 1 refl)

-- the same of bytes: "3 a byte write, not empty, whose first byte begins no valid character."
pub write_bytes_order : (w : TextOutput) (p bytes places : List ℕ) →
    let chars = chars_of bytes in let steps = run_in w.mode p (machine_of w) chars in
    refusal_in (write_of w p bytes places).outcome.given
    ≡ first_of (9 when misclaims w.state w.held ∷ 2 when not (accepted p) ∷ 3 when (ltb 0 (length bytes) && eqb (length chars) 0)
    ∷ 8 when ltb (length places) (w.kept + w.held + 3 * length chars)
    ∷ 4 when stops_by 4 steps ∷ 6 when stops_by 6 steps
    ∷ 5 when (w.expect_starter && begins_with_none p (to_hand_out w places (added steps))) ∷ [])
unfolding write_of
write_bytes_order w p bytes places = order_by w p (chars_of bytes) places (ltb 0 (length bytes) && eqb (length (chars_of bytes)) 0) 3 refl
