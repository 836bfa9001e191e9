-- "Held counts the characters of an escape in progress, else 0.": every call on a sound record returns a sound one, refused or not, and
-- `abandon` on any record. Idea: outside an escape nothing is held, and a step that holds one character more leads to a state that can
-- have it.
--     IsSound                                                     the record is sound
--     step_sound                                                  .. after a step from a sound one
--     write_sound, write_bytes_sound, flush_sound, close_sound    .. after each call on a sound one
--     abandon_sound                                               .. after `abandon` on any
use Prim.Native.Nat.{ℕ, ◌+◌}
use mathlib.Core.Bool.{true, not, ◌&&◌}
use mathlib.Core.List.{List}
use mathlib.Core.Path.{◌≡◌, refl}
use native.Mathlib.Omega.{arith}
use lib.Dec.{eqb, leb, ltb}
use lib.ListN.{length, get_or}
use lib.Seq.{sets}
use borrow.Author.Tests.{eqb-true, leb-true, le-leb}
use Rattle.scalars.specs.Utf8.{chars_of}
use Rattle.common.proofs.Kit.{split, both_true, both}
use Rattle.text_utils.specs.Classes.{basic_text_start}
use Rattle.text_output.specs.declared.Ground.TheVariants.{Newline, ZwjOrPrepend, Other}
use Rattle.text_output.specs.declared.State.{State}
use Rattle.text_output.specs.declared.State.TheVariants.{Ground, Esc, Csi}
use Rattle.text_output.specs.declared.Mode.{Mode}
use Rattle.text_output.specs.declared.TextOutput.{TextOutput}
use Rattle.text_output.specs.Writer.{Given, Outcome, Machine, machine_of, escape_limit, held_in, sound}
use Rattle.text_output.specs.Step.{Stepped, goes, stops, holding, write_step_of}
use Rattle.text_output.specs.Write.{run_in, ended_by, written_by, unless_refused, write_str_refusal, write_str_of, write_bytes_refusal, write_of}
use Rattle.text_output.specs.Close.{flush_in, flush_of, close_in, close_of, abandon_of}
use Rattle.text_output.proofs.Steps.{Grows, opened, begun, longer, Holds, step_holds, mode_holds}

-- the record is sound
abbrev pub IsSound : TextOutput → Type 0
IsSound w = sound (machine_of w) ≡ true

-- ---- the steps
-- one character more is held
hold_sound : {mode : Mode} (m : Machine) (s t : State) (c : ℕ) → held_in s m.held ≡ true → Grows mode s m.held t →
    sound (holding m t c) ≡ true
hold_sound {mode = mode} m (Ground g) (Ground _) c h x5 = elim x5 [ ]
hold_sound {mode = mode} m (Ground g) Csi c h x5 = elim x5 [ ]
hold_sound {mode = mode} m Esc (Ground _) c h x6 = elim x6 [ ]
hold_sound {mode = mode} m Esc Esc c h x6 = elim x6 [ ]
hold_sound {mode = mode} m Csi (Ground _) c h x7 = elim x7 [ ]
hold_sound {mode = mode} m Csi Esc c h x7 = elim x7 [ ]
hold_sound m (Ground g) Esc c h (opened k) = rw (eqb-true m.held 0 h)
hold_sound m Esc Csi c h begun = rw (eqb-true m.held 1 h)
hold_sound m Csi Csi c h (longer low) =
    both (le-leb (m.held + 1) escape_limit (omega (arith, low))) (le-leb 2 (m.held + 1) (omega (arith, leb-true 2 m.held h)))

held_by : (m : Machine) (s : State) → m.state ≡ s → sound m ≡ true → held_in s m.held ≡ true
held_by m s e h = rw e at (both_true (leb m.held escape_limit) (held_in m.state m.held) h).1

pub step_sound : (mode : Mode) (m : Machine) (error : List ℕ) (c : ℕ) → sound m ≡ true →
    Holds (λ (n : Machine). sound n ≡ true) (write_step_of mode m error c)
step_sound mode =
    step_holds (λ (m : Machine). sound m ≡ true) mode (λ m g s. refl) (λ m s t c e g i. hold_sound m s t c (held_by m s e i) g)

-- ---- a write
module _ (w : TextOutput) (h : IsSound w) where
  ended_sound : (p : List ℕ) (s : Stepped) (places : List ℕ) → Holds (λ (m : Machine). sound m ≡ true) s →
      IsSound (ended_by p w s places).given.next
  ended_sound p (goes xs m) places s =
      let after = sets places w.kept xs in
      split (λ (g : Given). IsSound g.next)
      (w.expect_starter && (ltb 0 (w.kept + length xs) && not (basic_text_start p (get_or after 0 0)))) (λ e. refl) (λ e. s)
  ended_sound p (stops xs m n) places s = refl

  written_sound : (p chars places : List ℕ) → IsSound (written_by w p chars places).given.next
  unfolding written_by
  written_sound p chars places =
      ended_sound p (run_in w.mode p (machine_of w) chars) places
      (mode_holds (λ (m : Machine). sound m ≡ true) w.mode (λ m g s. refl) (λ m s t c e g i. hold_sound m s t c (held_by m s e i) g) p
      (machine_of w) chars h)

  -- refused before its steps, or not
  unless_sound : (n : ℕ) (places : List ℕ) (o : Outcome) → IsSound o.given.next → IsSound (unless_refused n w places o).given.next
  unless_sound n places o s =
      split (λ (r : Outcome). IsSound r.given.next) (eqb n 0) (λ e. s)
      (λ e. split (λ (g : Given). IsSound g.next) (eqb n 3) (λ t. refl) (λ t. h))

  -- "Held counts the characters of an escape in progress, else 0."
  pub write_sound : (p chars places : List ℕ) → IsSound (write_str_of w p chars places).given.next
  unfolding write_str_of
  write_sound p chars places =
      unless_sound (write_str_refusal w p chars (length places)) places (written_by w p chars places) (written_sound p chars places)

  pub write_bytes_sound : (p bytes places : List ℕ) → IsSound (write_of w p bytes places).outcome.given.next
  unfolding write_of
  write_bytes_sound p bytes places =
      unless_sound (write_bytes_refusal w p bytes (length places)) places (written_by w p (chars_of bytes) places) (written_sound p (chars_of bytes) places)

  -- ---- a flush and a close
  flush_in_lem : (s : State) → IsSound (flush_in s w).next
  flush_in_lem (Ground Newline) = h
  flush_in_lem (Ground ZwjOrPrepend) = refl
  flush_in_lem (Ground Other) = h
  flush_in_lem Esc = h
  flush_in_lem Csi = h

  pub flush_sound : IsSound (flush_of w).next
  unfolding flush_of
  flush_sound = split (λ (g : Given). IsSound g.next) (sound (machine_of w)) (λ e. flush_in_lem w.state) (λ e. h)

  close_in_lem : (s : State) → IsSound (close_in s w).next
  close_in_lem (Ground Newline) = h
  close_in_lem (Ground ZwjOrPrepend) = refl
  close_in_lem (Ground Other) = refl
  close_in_lem Esc = refl
  close_in_lem Csi = refl

  pub close_sound : IsSound (close_of w).next
  unfolding close_of
  close_sound = split (λ (g : Given). IsSound g.next) (sound (machine_of w)) (λ e. close_in_lem w.state) (λ e. h)

pub abandon_sound : (w : TextOutput) → IsSound (abandon_of w)
unfolding abandon_of
abandon_sound w = refl
