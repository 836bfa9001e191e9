-- What a call appends is clean, and are characters. Idea: what a step appends is 0A, 20, 34F or the
-- replacement of a character that the ground state took, which is no ESC, so that any test that these pass holds of the whole
-- queue.
--     other_no_escape                        the ground state never replaces ESC
--     run_clean, scan_clean, finish_clean    `clean` (check_char/specs/Check.antt) holds of all that is appended: accepted by the
--                                            check or one of those that it lists though nothing replaces them, and no ESC
--     run_chars, scan_chars_lem, finish_chars_lem    all that is appended are characters
use Prim.Native.Nat.{ℕ, zero, suc}
use mathlib.Core.Path.{◌≡◌, refl}
use mathlib.Core.Bool.{Bool, true, false, not, ◌&&◌}
use mathlib.Core.List.{List, [], ◌∷◌, ◌++◌}
use native.Mathlib.Omega.{arith}
use lib.Dec.{T}
use lib.ListN.{length, drop}
use Rattle.scalars.specs.Chars.{is_char, are_chars}
use Rattle.common.proofs.Kit.{split, both_true}
use Rattle.scalars.proofs.Rows.{char_lt}
use Rattle.replace.specs.declared.Replaced.{Replaced}
use Rattle.replace.specs.Replace.{chars, replace_of}
use Rattle.replace.proofs.Rows.{and_i, and_l, and_r}
use Rattle.text_utils.specs.Classes.{basic_text_start, basic_text_end}
use Rattle.check_char.specs.Check.{reason_of, clean, all}
use Rattle.check_char.proofs.Clean.{replaced_clean, replaced_chars, holds}
use Rattle.text_input.specs.declared.State.{State}
use Rattle.text_input.specs.declared.State.TheVariants.{Ground, Cr, Ff, Esc, CsiStart, Csi, Osc, Linux}
use Rattle.text_input.specs.declared.Options.{Options}
use Rattle.text_input.specs.declared.TextInput.{TextInput}
use Rattle.text_input.specs.declared.step.Left.{Left}
use Rattle.text_input.specs.declared.step.Left.TheVariants.{Part, Newline, Goes, Ends, After, Dropped}
use Rattle.text_input.specs.declared.step.Met.{Met}
use Rattle.text_input.specs.declared.step.Met.TheVariants.{Line, Opens, Other}
use Rattle.text_input_parts.specs.Appended.{lead_chars, first_char, last_of, end_mark_of, newline_of, guard_of}
use Rattle.text_input.specs.Step.{out_chars, leave_of, replaced_by, meet_of, met_of, left_of, scan_step_of}
use Rattle.text_input.specs.Scan.{skipped, opened, scan_chars, pending_of, after_line, finish_chars}
use Rattle.text_input.specs.Inner.{outs}
use Rattle.text_input.proofs.Room.{Given, given_pending}
use Rattle.std.specs.Prelude.{Option, Some, None}

pub other_no_escape : (o : Options) (c : ℕ) → meet_of o c ≡ Other → c ≡ 0x1B → ⊥
unfolding meet_of
other_no_escape o c h e = let g : Opens Esc ≡ Other = rw e at h in let z : ◌≡◌ {A = ℕ} 0 1 = cc in omega arith

-- ---- a test that 0A, 20 and 34F pass and, for a run, the replacement of any character but ESC
module _ (f : ℕ → Bool) where
  one : (x : ℕ) → T (f x) → T (all f (x ∷ []))
  one x h = and_i (f x) true h tt

  append : (v w : List ℕ) → T (all f v) → T (all f w) → T (all f (v ++ w))
  append [] w h g = g
  append (x ∷ v) w h g = and_i (f x) (all f (v ++ w)) (and_l (f x) (all f v) h) (append v w (and_r (f x) (all f v) h) g)

record Passes (f : ℕ → Bool) : Type 0 where
  newline : T (f 0x0A)
  space : T (f 0x20)
  joiner : T (f 0x34F)

abbrev ReplacedPass : Options → (ℕ → Bool) → Type 0
ReplacedPass o f = (c : ℕ) → is_char c ≡ true → (c ≡ 0x1B → ⊥) → T (all f (chars (replace_of o.units_compatibility c)))

module _ (f : ℕ → Bool) (pass : Passes f) where
  abbrev Leads : Option ℕ → Type 0
  Leads l = T (all f (lead_chars l))

  pending_pass : (s : State) → Leads (pending_of s)
  pending_pass (Ground b) = tt
  pending_pass Cr = one f 0x0A pass.newline
  pending_pass Ff = one f 0x20 pass.space
  pending_pass Esc = tt
  pending_pass CsiStart = tt
  pending_pass Csi = tt
  pending_pass Osc = tt
  pending_pass Linux = tt

  -- ---- a step
  module _ (p : List ℕ) (o : Options) (replaced : ReplacedPass o f) where
    guard_pass : (lead : Option ℕ) (expect : Bool) (i : Replaced) → Leads lead → Leads (guard_of p lead expect i)
    guard_pass lead true i h = split Leads (basic_text_start p (first_char i)) (λ e. h) (λ e. one f 0x34F pass.joiner)
    guard_pass lead false i h = h

    met_pass : (r : TextInput) (c : ℕ) (lead : Option ℕ) (expect : Bool) (m : Met) → meet_of o c ≡ m → is_char c ≡ true → Leads lead →
        T (all f (out_chars (met_of p o r c lead expect m)))
    met_pass r c lead expect Line e char h = append f (lead_chars lead) (0x0A ∷ []) h (one f 0x0A pass.newline)
    met_pass r c lead expect (Opens s) e char h = append f (lead_chars lead) [] h tt
    met_pass r c lead expect Other e char h =
        append f (lead_chars (guard_of p lead expect (replaced_by o c))) (chars (replaced_by o c)) (guard_pass lead expect (replaced_by o c) h)
        (replaced c char (other_no_escape o c e))

    left_pass : (r : TextInput) (c : ℕ) (l : Left) → Given r.state l → is_char c ≡ true → T (all f (out_chars (left_of p o r c l)))
    left_pass r c (Part s) h char = tt
    left_pass r c Newline h char = one f 0x0A pass.newline
    left_pass r c Goes h char = met_pass r c None r.expect_starter (meet_of o c) refl char tt
    left_pass r c Ends h char = met_pass r c None r.expect_starter (meet_of o c) refl char tt
    left_pass r c (After a) h char = met_pass r c (Some a) false (meet_of o c) refl char (rw h at (pending_pass r.state))
    left_pass r c Dropped h char = met_pass r c None false (meet_of o c) refl char tt

    step_pass : (r : TextInput) (c : ℕ) → is_char c ≡ true → T (all f (out_chars (scan_step_of p o r c)))
    unfolding scan_step_of
    step_pass r c char = left_pass r c (leave_of r.state c) (given_pending r.state c) char

    -- ---- a run
    run_pass : (r : TextInput) (cs : List ℕ) → are_chars cs ≡ true → T (all f (outs p o r cs))
    run_pass r [] h = tt
    run_pass r (c ∷ cs) h =
        let g = both_true (is_char c) (are_chars cs) h in
        append f (out_chars (scan_step_of p o r c)) (outs p o (scan_step_of p o r c).next cs) (step_pass r c g.0)
        (run_pass (scan_step_of p o r c).next cs g.1)

  -- ---- a finish
  finish_pass : (r : TextInput) (eof : Bool) → T (all f (finish_chars r eof))
  finish_pass r eof =
      let last = last_of r.last (lead_chars (pending_of r.state)) in
      let owed = eof && not (after_line r.state) in
      append f (lead_chars (pending_of r.state)) (lead_chars (end_mark_of last) ++ lead_chars (newline_of owed)) (pending_pass r.state)
      (append f (lead_chars (end_mark_of last)) (lead_chars (newline_of owed))
      (split Leads (basic_text_end last) (λ e. tt) (λ e. one f 0x34F pass.joiner))
      (split Leads owed (λ e. one f 0x0A pass.newline) (λ e. tt)))

-- ---- the two tests
clean_passes : (units : Bool) → Passes (clean units)
unfolding reason_of
clean_passes units = record { newline = tt; space = tt; joiner = tt }

-- being characters, as such a test
to_test : (w : List ℕ) → are_chars w ≡ true → T (all is_char w)
to_test [] h = tt
to_test (x ∷ w) h =
    let g = both_true (is_char x) (are_chars w) h in and_i (is_char x) (all is_char w) (rw g.0 tt) (to_test w g.1)

from_test : (w : List ℕ) → T (all is_char w) → are_chars w ≡ true
from_test [] h = refl
from_test (x ∷ w) h =
    rw (holds (is_char x) (and_l (is_char x) (all is_char w) h)) (from_test w (and_r (is_char x) (all is_char w) h))

char_passes : Passes is_char
unfolding is_char
char_passes = record { newline = tt; space = tt; joiner = tt }

-- ---- the queue
drop_chars : (n : ℕ) (cs : List ℕ) → are_chars cs ≡ true → are_chars (drop n cs) ≡ true
drop_chars zero cs h = h
drop_chars (suc n) [] h = refl
drop_chars (suc n) (c ∷ cs) h = drop_chars n cs (both_true (is_char c) (are_chars cs) h).1

module _ (p : List ℕ) (o : Options) (r : TextInput) (cs : List ℕ) (h : are_chars cs ≡ true) where
  pub run_clean : T (all (clean o.units_compatibility) (outs p o r cs))
  run_clean =
      run_pass (clean o.units_compatibility) (clean_passes o.units_compatibility) p o (λ c char n. replaced_clean o.units_compatibility c (char_lt c char) n) r cs h

  pub run_chars : are_chars (outs p o r cs) ≡ true
  run_chars =
      from_test (outs p o r cs)
      (run_pass is_char char_passes p o (λ c char n. to_test (chars (replace_of o.units_compatibility c)) (replaced_chars o.units_compatibility c char)) r cs h)

module _ (p : List ℕ) (o : Options) (r : TextInput) (chunk : List ℕ) (h : are_chars chunk ≡ true) where
  pub scan_clean : T (all (clean o.units_compatibility) (scan_chars p o r chunk))
  scan_clean =
      run_clean p o (opened r (length chunk)) (drop (skipped r chunk) chunk) (drop_chars (skipped r chunk) chunk h)

  pub scan_chars_lem : are_chars (scan_chars p o r chunk) ≡ true
  scan_chars_lem =
      run_chars p o (opened r (length chunk)) (drop (skipped r chunk) chunk) (drop_chars (skipped r chunk) chunk h)

-- a finish takes no options: what it appends is clean with that for units on and off
pub finish_clean : (units : Bool) (r : TextInput) (eof : Bool) → T (all (clean units) (finish_chars r eof))
finish_clean units r eof = finish_pass (clean units) (clean_passes units) r eof

pub finish_chars_lem : (r : TextInput) (eof : Bool) → are_chars (finish_chars r eof) ≡ true
finish_chars_lem r eof = from_test (finish_chars r eof) (finish_pass is_char char_passes r eof)
