-- A write loses no character and makes none up, whatever the record: what its steps add, with what an escape in progress then holds, is
-- what was held and the characters isolated. Idea: each step adds, holds or hands out what it is given.
--     write_all    of a write of characters that succeeds, where 0A ends no part
use Prim.Native.Nat.{ℕ, suc, ◌+◌, ◌<◌}
use mathlib.Core.Bool.{Bool, true, false, not, ◌&&◌}
use mathlib.Core.List.{List, [], ◌∷◌, ◌++◌, map, append_assoc, append-nil}
use mathlib.Core.Path.{◌≡◌, refl, sym, ◌∙◌, ap}
use native.Mathlib.Omega.{arith}
use lib.Dec.{eqb, leb, ltb}
use lib.ListN.{length, take, get_or, length-set}
use lib.Seq.{sets, take-suc-set}
use Rattle.text_utils.specs.Classes.{basic_text_start}
use borrow.Author.Tests.{eqb-true, ltb-true, eqb-false}
use Rattle.common.proofs.Kit.{never, split, both_true}
use Rattle.check_char.specs.Check.{reason_of, all}
use Rattle.isolate_unassigned.specs.Meaning.{isolated}
use Rattle.text_output.specs.declared.State.{State}
use Rattle.text_output.specs.declared.State.TheVariants.{Ground as Grounded, Esc, Csi}
use Rattle.text_output.specs.declared.Mode.{Mode}
use Rattle.text_output.specs.declared.Mode.TheVariants.{Plain, Crlf, Color}
use Rattle.text_output.specs.declared.Step.{Step}
use Rattle.text_output.specs.declared.TextOutput.{TextOutput}
use Rattle.text_output.specs.Writer.{Machine, Given, Outcome, machine_of, held_in, sound, escape_limit}
use Rattle.text_output.specs.Step.{Stepped, goes, stops, behind, and_then, holding, is_color, in_sequence, asked_in, done_by, write_step_of, steps_of}
use Rattle.text_output.specs.Write.{checked, run_of, run_in, ended_by, written_by, unless_refused, write_str_refusal, write_str_of}
use Rattle.text_output.specs.Refusals.{refusal_in}
use Rattle.text_output.proofs.Accepts.{write_accepts}
use Rattle.text_output.specs.Orders.{added}
use Rattle.text_output.proofs.Steps.{refusal_first, Holds, mode_refuses}
use Rattle.text_output.proofs.Sound.{step_sound}

-- a sound record with its 64 places
abbrev Fit : Machine → Type 0
Fit m = (sound m ≡ true) × (length m.escape ≡ 64)

-- the characters of an escape in progress
abbrev held_chars : Machine → List ℕ
held_chars m = take m.held m.escape

-- from m, given cs
abbrev All : Machine → List ℕ → Stepped → Type 0
All m cs (goes xs n) = (xs ++ held_chars n ≡ held_chars m ++ cs) × (length n.escape ≡ 64)
All m cs (stops xs n k) = Unit {0}

held_by : (m : Machine) (s : State) → m.state ≡ s → sound m ≡ true → held_in s m.held ≡ true
held_by m s e h = rw e at (both_true (leb m.held escape_limit) (held_in m.state m.held) h).1

-- one character more is held
hold_all : (m : Machine) (t : State) (c : ℕ) → m.held < 64 → length m.escape ≡ 64 → All m (c ∷ []) (goes [] (holding m t c))
hold_all m t c h l =
    let e : m.held + 1 ≡ suc m.held = omega arith in
    (rw e (take-suc-set m.escape m.held c (omega (arith, h, l))), length-set m.escape m.held c ∙ l)

asked_all : (mode : Mode) (m : Machine) (s : State) (c : ℕ) → m.state ≡ s → Fit m →
    All m (c ∷ []) (done_by (asked_in s mode m.held c) m c)
asked_all mode m (Grounded g) c e f =
    let z : m.held ≡ 0 = eqb-true m.held 0 (held_by m (Grounded g) e f.0) in
    split (λ (a : Step). All m (c ∷ []) (done_by a m c)) (eqb c 0x1B)
    (λ q.
    split (λ (a : Step). All m (c ∷ []) (done_by a m c)) (is_color mode) (λ k. hold_all m Esc c (omega (arith, z)) f.1) (λ k. tt))
    (λ q. (rw z, f.1))
asked_all mode m Esc c e f =
    let z : m.held ≡ 1 = eqb-true m.held 1 (held_by m Esc e f.0) in
    split (λ (a : Step). All m (c ∷ []) (done_by a m c)) (eqb c 0x5B) (λ q. hold_all m Csi c (omega (arith, z)) f.1) (λ q. tt)
asked_all mode m Csi c e f =
    split (λ (a : Step). All m (c ∷ []) (done_by a m c)) (in_sequence c)
    (λ q.
    split (λ (a : Step). All m (c ∷ []) (done_by a m c)) (ltb m.held escape_limit)
    (λ k.
    split (λ (a : Step). All m (c ∷ []) (done_by a m c)) (eqb c 0x6D) (λ l. (append-nil (held_chars m ++ c ∷ []), f.1))
    (λ l. hold_all m Csi c (ltb-true m.held escape_limit k) f.1))
    (λ k. tt))
    (λ q. tt)

step_all : (mode : Mode) (m : Machine) (error : List ℕ) (c : ℕ) → Fit m → All m (c ∷ []) (write_step_of mode m error c)
unfolding write_step_of
step_all mode m error c f = split (All m (c ∷ [])) (eqb c 0x1A) (λ q. tt) (λ q. asked_all mode m m.state c refl f)

-- steps behind steps
join : (xs ys a b d cs ds : List ℕ) → xs ++ b ≡ a ++ cs → ys ++ d ≡ b ++ ds → (xs ++ ys) ++ d ≡ a ++ (cs ++ ds)
join xs ys a b d cs ds e f =
    append_assoc xs ys d ∙ ap (λ (l : List ℕ). xs ++ l) f ∙ sym (append_assoc xs b ds) ∙ ap (λ (l : List ℕ). l ++ ds) e ∙ append_assoc a cs ds

behind_all : (m n : Machine) (xs cs ds : List ℕ) (r : Stepped) → xs ++ held_chars n ≡ held_chars m ++ cs → All n ds r →
    All m (cs ++ ds) (behind xs r)
behind_all m n xs cs ds (goes ys k) e f = (join xs ys (held_chars m) (held_chars n) (held_chars k) cs ds e f.0, f.1)
behind_all m n xs cs ds (stops ys k j) e f = tt

then_all : (m : Machine) (cs ds : List ℕ) (s : Stepped) (more : Machine → Stepped) → All m cs s → Holds (λ (n : Machine). sound n ≡ true) s →
    ((n : Machine) → Fit n → All n ds (more n)) → All m (cs ++ ds) (and_then s more)
then_all m cs ds (goes xs n) more a h g = behind_all m n xs cs ds (more n) a.0 (g n (h, a.1))
then_all m cs ds (stops xs n k) more a h g = tt

steps_all : (mode : Mode) (cs : List ℕ) (m : Machine) (error : List ℕ) → Fit m → All m cs (steps_of mode m error cs)
unfolding steps_of
steps_all mode [] m error f = (sym (append-nil (held_chars m)), f.1)
steps_all mode (c ∷ cs) m error f =
    then_all m (c ∷ []) cs (write_step_of mode m error c) (λ next. steps_of mode next error cs) (step_all mode m error c f)
    (step_sound mode m error c f.0) (λ next g. steps_all mode cs next error g)

-- a character that is accepted is no other
checked_kept : (cs : List ℕ) → all (λ (c : ℕ). eqb (reason_of c) 0) cs ≡ true → map checked cs ≡ cs
checked_kept [] h = refl
checked_kept (c ∷ cs) h =
    let q = both_true (eqb (reason_of c) 0) (all (λ (d : ℕ). eqb (reason_of d) 0) cs) h in
    rw (q.0, checked_kept cs q.1)

-- "Each character is checked, .. then isolated, then stepped through `state_machine_char`.": from any record, where all are accepted
pub run_all : (mode : Mode) (p cs : List ℕ) (m : Machine) → Fit m → all (λ (c : ℕ). eqb (reason_of c) 0) cs ≡ true →
    All m (isolated p cs) (run_of mode p m cs)
unfolding run_of
run_all mode p cs m f h = rw (checked_kept cs h) (steps_all mode (isolated p cs) m _ f)

-- ---- a write
-- 0A ends no part
abbrev as_one : Mode → Bool
as_one Plain = true
as_one Crlf = false
as_one Color = true

mode_all : (mode : Mode) → as_one mode ≡ true → (p cs : List ℕ) (m : Machine) → Fit m → all (λ (c : ℕ). eqb (reason_of c) 0) cs ≡ true →
    All m (isolated p cs) (run_in mode p m cs)
mode_all Plain i p cs m f h = run_all Plain p cs m f h
mode_all Crlf i p cs m f h = never i
mode_all Color i p cs m f h = run_all Color p cs m f h

module _ (w : TextOutput) (p places : List ℕ) where
  -- what a success has to show of its steps
  ended_all : (cs : List ℕ) (s : Stepped) → Holds (λ (m : Machine). Unit {0}) s → All (machine_of w) cs s →
      refusal_in (ended_by p w s places).given ≡ 0 →
      added s ++ held_chars (machine_of (ended_by p w s places).given.next) ≡ held_chars (machine_of w) ++ cs
  ended_all cs (goes xs m) h a =
      let after = sets places w.kept xs in
      split (λ (g : Given). refusal_in g ≡ 0 → xs ++ held_chars (machine_of g.next) ≡ held_chars (machine_of w) ++ cs)
      (w.expect_starter && (ltb 0 (w.kept + length xs) && not (basic_text_start p (get_or after 0 0))))
      (λ e z. absurd (omega arith)) (λ e z. a.0)
  ended_all cs (stops xs m n) (h, r) a = λ z. absurd (omega (arith, refusal_first r, z))

  unless_all : (n : ℕ) (cs chars : List ℕ) → All (machine_of w) cs (run_in w.mode p (machine_of w) chars) →
      let o = unless_refused n w places (written_by w p chars places) in refusal_in o.given ≡ 0 →
      added (run_in w.mode p (machine_of w) chars) ++ held_chars (machine_of o.given.next) ≡ held_chars (machine_of w) ++ cs
  unfolding written_by
  unless_all n cs chars a =
      let s = run_in w.mode p (machine_of w) chars in
      split (λ (o : Outcome). refusal_in o.given ≡ 0 → added s ++ held_chars (machine_of o.given.next) ≡ held_chars (machine_of w) ++ cs)
      (eqb n 0) (λ e. ended_all cs s (mode_refuses p w.mode (machine_of w) chars) a)
      (λ e.
      split (λ (g : Given). refusal_in g ≡ 0 → added s ++ held_chars (machine_of g.next) ≡ held_chars (machine_of w) ++ cs) (eqb n 3)
      (λ t z. absurd (omega arith)) (λ t z. absurd (eqb-false n 0 e z)))

  -- what a write that succeeds adds, with what an escape then holds, is what was held and the characters isolated as one run
  pub write_all : as_one w.mode ≡ true → sound (machine_of w) ≡ true → length w.escape_sequence ≡ 64 → (chars : List ℕ) →
      refusal_in (write_str_of w p chars places).given ≡ 0 →
      added (run_in w.mode p (machine_of w) chars)
      ++ take (write_str_of w p chars places).given.next.held (write_str_of w p chars places).given.next.escape_sequence
      ≡ take w.held w.escape_sequence ++ isolated p chars
  unfolding write_str_of
  write_all i s l chars z =
      unless_all (write_str_refusal w p chars (length places)) (isolated p chars) chars
      (mode_all w.mode i p chars (machine_of w) (s, l) (write_accepts w p chars places z)) z
