-- The scanner over one piece: from within a piece its steps over the rest of the piece, and then on from the ground state, give the
-- piece's image. The steps go the way of the walk (`move`, proofs/Cut.antt), which ends where the piece does. What comes after is
-- kept as it is (`complete`), so that a character that is given late, for a pending 0D or page run, stands where it belongs.
--     at, Closed, complete   a record by its parts; what a text and a finish come to, from a record
--     guard, expect_after     the image after a mark of its start, and whether a start is expected after it
--     told, onward           the image of a piece, then the rest of the text
--     run_cut                from within a piece
use Prim.Native.Nat.{ℕ}
use mathlib.Core.Bool.{Bool, true, false, cond, not, ◌&&◌, ◌||◌}
use mathlib.Core.List.{List, [], ◌∷◌, ◌++◌}
use mathlib.Core.Path.{◌≡◌, refl, sym, ◌∙◌}
use lib.Dec.{eqb}
use borrow.Author.Tests.{eqb-true}
use Rattle.page.specs.Page.{accepted}
use Rattle.text_utils.specs.Classes.{basic_text_start}
use Rattle.text_utils.proofs.Classes.{start_newline, start_space}
use Rattle.text_input.specs.declared.State.{State}
use Rattle.text_input.specs.declared.State.TheVariants.{Ground, Cr, Csi, Osc}
use Rattle.text_input.specs.declared.Options.{Options}
use Rattle.text_input.specs.declared.TextInput.{TextInput}
use Rattle.text_input.specs.declared.step.Left.{Left}
use Rattle.text_input.specs.declared.step.Left.TheVariants.{Part, Ends, After, Dropped}
use Rattle.text_input.specs.declared.step.Met.{Met}
use Rattle.text_input.specs.declared.step.Met.TheVariants.{Line, Opens, Other}
use Rattle.text_input.specs.declared.step.Step.{Step}
use Rattle.text_input_parts.specs.Sets.{newline_char}
use Rattle.text_input_parts.specs.PieceSets.{parameter_char, final_char, string_last, low_char, cr_or_lf}
use Rattle.text_input_parts.specs.Appended.{last_of}
use Rattle.text_input.specs.Step.{out_chars, met_of, left_of, leave_of, meet_of, scan_step_of}
use Rattle.text_input.specs.Scan.{finish_chars, after_line}
use Rattle.text_input.specs.Pieces.{Kind, escape, is_line, string_char, piece_image, page_image}
use Rattle.text_input_parts.proofs.PieceSets.{parameter_is, final_is, string_end_is, up_to_is}
use Rattle.text_input.proofs.Recognise.{cond_id}
use Rattle.text_input.proofs.Cut.{Inner, cr, ff, esc, csiStart, csi, osc, linux, state_of, kind_of, Move, goes, closes, stops}
use Rattle.text_input.proofs.Cut.{move, Cut, cut, cut_by}
use Rattle.std.specs.Prelude.{Option, Some, None}

-- ---- what a text and a finish come to
-- what they append, and whether a line has just ended at the finish
pub record Closed : Type 0 where
  pub out : List ℕ
  pub line : Bool

abbrev pub pre : List ℕ → Closed → Closed
pre w x = record { out = w ++ x.out; line = x.line }

unfoldable pub expect_after : Bool → List ℕ → Bool
expect_after e [] = e
expect_after e (x ∷ w) = false

-- 34F before the first of `w` if a start is expected there and it is none
unfoldable pub guard : List ℕ → Bool → List ℕ → List ℕ
guard p e [] = []
guard p e (x ∷ w) = cond e (cond (basic_text_start p x) [] (0x34F ∷ [])) [] ++ (x ∷ w)

-- ---- small laws
-- two tests alike, each branch under its test's value
cond_cong : {A : Type 0} (b : Bool) (u v x y : A) → (b ≡ true → u ≡ v) → (b ≡ false → x ≡ y) → cond b u x ≡ cond b v y
cond_cong true u v x y f g = f refl
cond_cong false u v x y f g = g refl

-- within a piece the kind stays
kind_after : Inner → Move → Kind
kind_after i (goes j) = kind_of j
kind_after i closes = kind_of i
kind_after i stops = kind_of i

kind_after_cond : (b : Bool) (i : Inner) (m k : Move) → kind_after i (cond b m k) ≡ cond b (kind_after i m) (kind_after i k)
kind_after_cond true i m k = refl
kind_after_cond false i m k = refl

kept : (i : Inner) (c : ℕ) → kind_after i (move i c) ≡ kind_of i
unfolding move kind_after
kept cr c = simp (kind_after_cond, cond_id)
kept ff c = simp (kind_after_cond, cond_id)
kept esc c = simp (kind_after_cond, cond_id)
kept csiStart c = simp (kind_after_cond, cond_id)
kept csi c = simp (kind_after_cond, cond_id)
kept osc c = simp (kind_after_cond, cond_id)
kept linux c = simp (kind_after_cond, cond_id)

keeps : (i : Inner) (c : ℕ) (j : Inner) → move i c ≡ goes j → kind_of j ≡ kind_of i
unfolding kind_after
keeps i c j h = rw h at (kept i c)

-- what no step changes stays aside: page, options, how the text will be finished, and of the record `at_start` and the count
module _ (p : List ℕ) (o : Options) (eof start : Bool) (count : ℕ) where
  -- the record with this state, expectation and last character
  abbrev pub at : State → Bool → ℕ → TextInput
  at s e n = record { state = s; expect_starter = e; at_start = start; last = n; count = count }

  -- the text, and then the finish
  unfoldable pub complete : List ℕ → TextInput → Closed
  complete [] r = record { out = finish_chars r eof; line = after_line r.state }
  complete (c ∷ t) r = pre (out_chars (scan_step_of p o r c)) (complete t (scan_step_of p o r c).next)

  -- after a piece with image w
  unfoldable pub told : Bool → List ℕ → Bool → ℕ → List ℕ → Closed
  told b w e n t = pre (guard p e w) (complete t (at (Ground b) (expect_after e w) (last_of n w)))

  -- after a piece of this kind
  unfoldable pub onward : Kind → Bool → ℕ → List ℕ → Closed
  onward k e n t = told (is_line k) (piece_image o k [] t) e n t

  -- after a step
  resume : Step → List ℕ → Closed
  resume s t = pre (out_chars s) (complete t s.next)

  -- within a piece, by what the character does to what is pending
  leave : Inner → Bool → ℕ → ℕ → List ℕ → Left → Closed
  leave i e n c t l = resume (left_of p o (at (state_of i) e n) c l) t

  leave_cond : (b : Bool) (i : Inner) (e : Bool) (n c : ℕ) (t : List ℕ) (x y : Left) →
      leave i e n c t (cond b x y) ≡ cond b (leave i e n c t x) (leave i e n c t y)
  leave_cond true i e n c t x y = refl
  leave_cond false i e n c t x y = refl

  -- within a piece, by the walk
  follow : Inner → Move → Bool → ℕ → ℕ → List ℕ → Closed
  follow i (goes j) e n c t = complete t (at (state_of j) e n)
  follow i closes e n c t = onward (kind_of i) e n t
  follow i stops e n c t = onward (kind_of i) e n (c ∷ t)

  follow_cond : (b : Bool) (i : Inner) (m k : Move) (e : Bool) (n c : ℕ) (t : List ℕ) →
      follow i (cond b m k) e n c t ≡ cond b (follow i m e n c t) (follow i k e n c t)
  follow_cond true i m k e n c t = refl
  follow_cond false i m k e n c t = refl

  -- ---- the ground state takes the character: it does not see the state and expectation before
  met_any : (m : Met) (s z : State) (d e x : Bool) (n c : ℕ) (lead : Option ℕ) →
      met_of p o (at s d n) c lead x m ≡ met_of p o (at z e n) c lead x m
  met_any Line s z d e x n c lead = refl
  met_any (Opens q) s z d e x n c lead = refl
  met_any Other s z d e x n c lead = refl

  met_after : (m : Met) (s z : State) (d e : Bool) (n c a : ℕ) (t : List ℕ) →
      resume (met_of p o (at s d n) c (Some a) false m) t ≡ pre (a ∷ []) (resume (met_of p o (at z e a) c None false m) t)
  unfolding resume
  met_after Line s z d e n c a t = refl
  met_after (Opens q) s z d e n c a t = refl
  met_after Other s z d e n c a t = refl

  leave_ends : (i : Inner) (b e : Bool) (n c : ℕ) (t : List ℕ) → leave i e n c t Ends ≡ complete (c ∷ t) (at (Ground b) e n)
  unfolding leave resume complete scan_step_of leave_of
  leave_ends i b e n c t = rw (met_any (meet_of o c) (state_of i) (Ground b) e e e n c None)

  leave_dropped : (i : Inner) (b e : Bool) (n c : ℕ) (t : List ℕ) →
      leave i e n c t Dropped ≡ complete (c ∷ t) (at (Ground b) false n)
  unfolding leave resume complete scan_step_of leave_of
  leave_dropped i b e n c t = rw (met_any (meet_of o c) (state_of i) (Ground b) e false false n c None)

  leave_after : (i : Inner) (b e : Bool) (n c a : ℕ) (t : List ℕ) →
      leave i e n c t (After a) ≡ pre (a ∷ []) (complete (c ∷ t) (at (Ground b) false a))
  unfolding leave complete scan_step_of leave_of
  leave_after i b e n c a t = met_after (meet_of o c) (state_of i) (Ground b) e false n c a t ∙ unfold resume in refl

  -- ---- where an expectation does not matter
  complete_inside : (i : Inner) (e : Bool) (n c : ℕ) (t : List ℕ) →
      complete (c ∷ t) (at (state_of i) e n) ≡ leave i e n c t (leave_of (state_of i) c)
  unfolding complete scan_step_of leave resume
  complete_inside i e n c t = refl

  cr_leave : (c : ℕ) (t : List ℕ) (d e : Bool) (n : ℕ) → leave cr d n c t (leave_of Cr c) ≡ leave cr e n c t (leave_of Cr c)
  unfolding leave_of
  cr_leave c t d e n =
      simp leave_cond (
      cond_cong (eqb c 0x0A) _ _ _ _ (λ h. unfold leave resume in refl)
      (λ h. leave_after cr true d n c 0x0A t ∙ sym (leave_after cr true e n c 0x0A t))
      )

  -- a line end is pending: no start is expected from here on
  cr_expect : (t : List ℕ) (d e : Bool) (n : ℕ) → complete t (at Cr d n) ≡ complete t (at Cr e n)
  cr_expect [] d e n = unfold complete in refl
  cr_expect (c ∷ t) d e n = complete_inside cr d n c t ∙ cr_leave c t d e n ∙ sym (complete_inside cr e n c t)

  -- ---- a step within a piece, as the walk has it
  -- an escape that ends before the character
  run_stops : (i : Inner) (c : ℕ) (t : List ℕ) (e : Bool) (n : ℕ) → kind_of i ≡ escape → leave i e n c t Ends ≡ follow i stops e n c t
  unfolding follow onward told piece_image guard expect_after
  run_stops i c t e n h = rw h (leave_ends i false e n c t)

  -- with the character or before it
  run_final : (i : Inner) (c : ℕ) (t : List ℕ) (e : Bool) (n : ℕ) → kind_of i ≡ escape →
      cond (final_char c) (leave i e n c t (Part (Ground false))) (leave i e n c t Ends)
      ≡ cond (final_char c) (follow i closes e n c t) (follow i stops e n c t)
  run_final i c t e n h =
      cond_cong (final_char c) _ _ _ _ (λ d. unfold leave follow onward told resume piece_image guard expect_after in rw h)
      (λ d. run_stops i c t e n h)

  run_csi : (i : Inner) (c : ℕ) (t : List ℕ) (e : Bool) (n : ℕ) → kind_of i ≡ escape →
      cond (parameter_char c) (leave i e n c t (Part Csi)) (cond (final_char c) (leave i e n c t (Part (Ground false))) (leave i e n c t Ends))
      ≡ cond (parameter_char c) (follow i (goes csi) e n c t) (cond (final_char c) (follow i closes e n c t) (follow i stops e n c t))
  run_csi i c t e n h =
      cond_cong (parameter_char c) _ _ _ _ (λ g. unfold leave follow resume in refl) (λ g. run_final i c t e n h)

  run_osc : (c : ℕ) (t : List ℕ) (e : Bool) (n : ℕ) (b z : Bool) →
      cond b (leave osc e n c t (Part (Ground false))) (cond z (leave osc e n c t Ends) (leave osc e n c t (Part Osc)))
      ≡ cond (not b && not z) (follow osc (goes osc) e n c t) (cond b (follow osc closes e n c t) (follow osc stops e n c t))
  run_osc c t e n true z = unfold leave follow onward told resume piece_image guard expect_after in refl
  run_osc c t e n false true = run_stops osc c t e n refl
  run_osc c t e n false false = unfold leave follow resume in refl

  pub guard_line : accepted p ≡ true → (e : Bool) → guard p e (0x0A ∷ []) ≡ 0x0A ∷ []
  unfolding guard
  guard_line good false = refl
  guard_line good true = rw (start_newline p good)

  guard_space : accepted p ≡ true → (e : Bool) → guard p e (0x20 ∷ []) ≡ 0x20 ∷ []
  unfolding guard
  guard_space good false = refl
  guard_space good true = rw (start_space p good)

  run_ff : accepted p ≡ true → (c : ℕ) (t : List ℕ) (e : Bool) (n : ℕ) (y x : Bool) → eqb c 0x0A ≡ y → eqb c 0x0D ≡ x →
      cond (y || x) (leave ff e n c t Dropped) (leave ff e n c t (After 0x20)) ≡ follow ff stops e n c t
  unfolding follow onward told piece_image page_image cr_or_lf
  run_ff good c t e n true x h g =
      leave_dropped ff false e n c t ∙ rw (eqb-true c 0x0A h) (unfold complete scan_step_of leave_of meet_of guard expect_after in refl)
  run_ff good c t e n false true h g =
      leave_dropped ff false e n c t
      ∙ rw (eqb-true c 0x0D g) (unfold complete scan_step_of leave_of meet_of guard expect_after in rw (cr_expect t false e n))
  run_ff good c t e n false false h g =
      leave_after ff false e n c 0x20 t ∙ rw (h, g, guard_space good e) (unfold expect_after in refl)

  run : accepted p ≡ true → (i : Inner) (c : ℕ) (t : List ℕ) (e : Bool) (n : ℕ) →
      leave i e n c t (leave_of (state_of i) c) ≡ follow i (move i c) e n c t
  unfolding leave_of move string_char newline_char
  run good cr c t e n =
      simp (leave_cond, follow_cond)
      (cond_cong (eqb c 0x0A) _ _ _ _
      (λ h. unfold leave follow onward told resume piece_image expect_after in rw (guard_line good e))
      (λ h. leave_after cr true e n c 0x0A t ∙ unfold follow onward told piece_image expect_after in rw (guard_line good e)))
  run good ff c t e n =
      simp (leave_cond, follow_cond)
      (cond_cong (eqb c 0x0C) _ _ _ _ (λ h. unfold leave follow resume in refl)
      (λ h. run_ff good c t e n (eqb c 0x0A) (eqb c 0x0D) refl refl))
  run good esc c t e n =
      simp (leave_cond, follow_cond, final_is)
      (cond_cong (eqb c 0x5B) _ _ _ _ (λ h. unfold leave follow resume in refl)
      (λ h. cond_cong (eqb c 0x5D) _ _ _ _ (λ g. unfold leave follow resume in refl)
      (λ g. run_final esc c t e n refl)))
  run good csiStart c t e n =
      simp (leave_cond, follow_cond, parameter_is, final_is)
      (cond_cong (eqb c 0x5B) _ _ _ _ (λ h. unfold leave follow resume in refl) (λ h. run_csi csiStart c t e n refl))
  run good csi c t e n = simp (leave_cond, follow_cond, parameter_is, final_is) (run_csi csi c t e n refl)
  run good osc c t e n = simp (leave_cond, follow_cond, string_end_is) (run_osc c t e n (string_last c) (eqb c 0x1B))
  run good linux c t e n =
      simp (leave_cond, follow_cond, up_to_is)
      (cond_cong (low_char c) _ _ _ _ (λ h. unfold leave follow onward told resume piece_image guard expect_after in refl)
      (λ h. run_stops linux c t e n refl))

  -- ---- at the end of the text
  at_end : accepted p ≡ true → (i : Inner) (e : Bool) (n : ℕ) → complete [] (at (state_of i) e n) ≡ onward (kind_of i) e n []
  unfolding onward told complete piece_image page_image guard expect_after
  at_end good cr e n = unfold guard in rw (guard_line good e)
  at_end good ff e n = unfold guard in rw (guard_space good e)
  at_end good esc e n = refl
  at_end good csiStart e n = refl
  at_end good csi e n = refl
  at_end good osc e n = refl
  at_end good linux e n = refl

  run_by : (i : Inner) (c : ℕ) (t : List ℕ) (e : Bool) (n : ℕ) (m : Move) (h : move i c ≡ m) (ih : (j : Inner) → Cut j t)
      → ((j : Inner) → complete t (at (state_of j) e n) ≡ onward (kind_of j) e n (ih j).rest)
      → follow i m e n c t ≡ onward (kind_of i) e n (cut_by i c t m h ih).rest
  unfolding cut_by follow
  run_by i c t e n (goes j) h ih rh = rw (keeps i c j h) at (rh j)
  run_by i c t e n closes h ih rh = refl
  run_by i c t e n stops h ih rh = refl

  -- from within a piece, over the rest of the piece
  pub run_cut : accepted p ≡ true → (i : Inner) (t : List ℕ) (e : Bool) (n : ℕ) →
      complete t (at (state_of i) e n) ≡ onward (kind_of i) e n (cut i t).rest
  unfolding cut
  run_cut good i [] e n = at_end good i e n
  run_cut good i (c ∷ t) e n =
      complete_inside i e n c t ∙ run good i c t e n
      ∙ run_by i c t e n (move i c) refl (λ j. cut j t) (λ j. run_cut good j t e n)
