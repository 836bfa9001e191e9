-- Which characters of a text stand in escapes: by the states, one after the other, and by the pieces of its reading. Both say the same.
-- Idea: the state after a character depends on the state before and the character alone (`next_state`), and within a piece it goes the
-- way of the walk that ends where the piece does (`move` of text_input, proofs/Cut.antt).
--     next_state, step_state    the state after a character
--     marks                    for each character of a text whether it stands in an escape, by the states
--     piece_marks               the same by the pieces
--     marks_are                both are the same
use Prim.Native.Nat.{ℕ}
use mathlib.Core.Bool.{Bool, true, false, cond, not, ◌&&◌, ◌||◌}
use mathlib.Core.List.{List, [], ◌∷◌, ◌++◌, append_cancel_left}
use mathlib.Core.Path.{◌≡◌, refl, sym, ap, ap₂, ◌∙◌}
use lib.Dec.{eqb}
use borrow.Author.Tests.{eqb-true}
use Rattle.text_input.specs.declared.State.{State}
use Rattle.text_input.specs.declared.State.TheVariants.{Ground, CsiStart, Csi, Osc, Linux}
use Rattle.text_input.specs.declared.Options.{Options}
use Rattle.text_input.specs.declared.TextInput.{TextInput}
use Rattle.text_input.specs.declared.step.Left.{Left}
use Rattle.text_input.specs.declared.step.Left.TheVariants.{Part, Newline, Goes, Ends, After, Dropped}
use Rattle.text_input.specs.declared.step.Met.{Met}
use Rattle.text_input.specs.declared.step.Met.TheVariants.{Line, Opens, Other}
use Rattle.text_input_parts.specs.Sets.{newline_char}
use Rattle.text_input_parts.specs.PieceSets.{parameter_char, final_char, string_last, low_char, cr_or_lf}
use Rattle.text_input_parts.proofs.PieceSets.{parameter_is, final_is, string_end_is, up_to_is}
use Rattle.text_input.specs.Step.{met_of, left_of, leave_of, meet_of, scan_step_of}
use Rattle.text_input.specs.Pieces.{option_char, line_char, string_char, Piece, join, LongestPiece, EachLongest}
use Rattle.text_input.proofs.Recognise.{cond_id}
use Rattle.text_input.proofs.Sets.{option_is}
use Rattle.text_input.proofs.Cut.{Inner, cr, ff, esc, csiStart, csi, osc, linux, state_of, kind_of, Move, goes, closes, stops, move, Cut, cut, cut_by}
use Rattle.text_input.proofs.Unique.{Class, opens, single, class, kind_c, tail_of, longest_of, first_unique, no_piece}
use Rattle.text_clean.specs.Text.{escaping, goes_on, in_escape}
use Rattle.text_clean.specs.Promise.{is_escape}
use Rattle.std.specs.Prelude.{Option, Some, None}

-- ---- small laws
or-true : (b : Bool) → b || true ≡ true
or-true true = refl
or-true false = refl

-- two tests alike, each branch under its test's value
cond_cong : {A : Type 0} (b : Bool) (u v x y : A) → (b ≡ true → u ≡ v) → (b ≡ false → x ≡ y) → cond b u x ≡ cond b v y
cond_cong true u v x y f g = f refl
cond_cong false u v x y f g = g refl

-- ---- by the pieces
-- one mark for each character of a list
abbrev pub alike : Bool → List ℕ → List Bool
alike b [] = []
alike b (c ∷ w) = b ∷ alike b w

abbrev pub piece_marks : List Piece → List Bool
piece_marks [] = []
piece_marks (x ∷ xs) = alike (is_escape x.kind) x.text ++ piece_marks xs

module _ (o : Options) where
  -- ---- the state after a character
  abbrev met_state : Met → State
  met_state Line = Ground true
  met_state (Opens s) = s
  met_state Other = Ground false

  abbrev left_state : ℕ → Left → State
  left_state c (Part s) = s
  left_state c Newline = Ground true
  left_state c Goes = met_state (meet_of o c)
  left_state c Ends = met_state (meet_of o c)
  left_state c (After a) = met_state (meet_of o c)
  left_state c Dropped = met_state (meet_of o c)

  abbrev pub next_state : State → ℕ → State
  next_state s c = left_state c (leave_of s c)

  met_state_lem : (p : List ℕ) (r : TextInput) (c : ℕ) (lead : Option ℕ) (e : Bool) (m : Met) → (met_of p o r c lead e m).next.state ≡ met_state m
  met_state_lem p r c lead e Line = refl
  met_state_lem p r c lead e (Opens s) = refl
  met_state_lem p r c lead e Other = refl

  left_state_lem : (p : List ℕ) (r : TextInput) (c : ℕ) (l : Left) → (left_of p o r c l).next.state ≡ left_state c l
  left_state_lem p r c (Part s) = refl
  left_state_lem p r c Newline = refl
  left_state_lem p r c Goes = met_state_lem p r c None r.expect_starter (meet_of o c)
  left_state_lem p r c Ends = met_state_lem p r c None r.expect_starter (meet_of o c)
  left_state_lem p r c (After a) = met_state_lem p r c (Some a) false (meet_of o c)
  left_state_lem p r c Dropped = met_state_lem p r c None false (meet_of o c)

  pub step_state : (p : List ℕ) (r : TextInput) (c : ℕ) → (scan_step_of p o r c).next.state ≡ next_state r.state c
  unfolding scan_step_of
  step_state p r c = left_state_lem p r c (leave_of r.state c)

  -- ---- by the states
  abbrev pub marks : State → List ℕ → List Bool
  marks s [] = []
  marks s (c ∷ t) = in_escape s c ∷ marks (next_state s c) t

  -- the ground state is one
  marks_ground : (b d : Bool) (t : List ℕ) → marks (Ground b) t ≡ marks (Ground d) t
  unfolding in_escape leave_of
  marks_ground b d [] = refl
  marks_ground b d (c ∷ t) = refl

  -- ---- within a piece, by what the character does to what is pending
  here : Inner → ℕ → List ℕ → Left → List Bool
  here i c t l = (eqb c 0x1B || (escaping (state_of i) && goes_on l)) ∷ marks (left_state c l) t

  here_cond : (b : Bool) (i : Inner) (c : ℕ) (t : List ℕ) (x y : Left) → here i c t (cond b x y) ≡ cond b (here i c t x) (here i c t y)
  here_cond true i c t x y = refl
  here_cond false i c t x y = refl

  -- and by the walk
  follow : Inner → Move → ℕ → List ℕ → List Bool
  follow i (goes j) c t = is_escape (kind_of i) ∷ marks (state_of j) t
  follow i closes c t = is_escape (kind_of i) ∷ marks (Ground true) t
  follow i stops c t = marks (Ground true) (c ∷ t)

  follow_cond : (b : Bool) (i : Inner) (m k : Move) (c : ℕ) (t : List ℕ) →
      follow i (cond b m k) c t ≡ cond b (follow i m c t) (follow i k c t)
  follow_cond true i m k c t = refl
  follow_cond false i m k c t = refl

  here_inside : (i : Inner) (c : ℕ) (t : List ℕ) → marks (state_of i) (c ∷ t) ≡ here i c t (leave_of (state_of i) c)
  unfolding here in_escape
  here_inside i c t = refl

  -- a character that an escape takes
  takes : (i : Inner) (c : ℕ) (t : List ℕ) (s : State) → escaping (state_of i) ≡ true → here i c t (Part s) ≡ true ∷ marks s t
  unfolding here
  takes i c t s h = rw (h, or-true (eqb c 0x1B))

  -- one that ends it
  here_closes : (i : Inner) (c : ℕ) (t : List ℕ) → escaping (state_of i) ≡ true → is_escape (kind_of i) ≡ true →
      here i c t (Part (Ground false)) ≡ follow i closes c t
  unfolding follow
  here_closes i c t h k = takes i c t (Ground false) h ∙ rw (k, marks_ground false true t)

  -- one before which it ends
  here_stops : (i : Inner) (c : ℕ) (t : List ℕ) → escaping (state_of i) ≡ true → here i c t Ends ≡ follow i stops c t
  unfolding here follow in_escape leave_of
  here_stops i c t h = rw h

  here_final : (i : Inner) (c : ℕ) (t : List ℕ) → escaping (state_of i) ≡ true → is_escape (kind_of i) ≡ true →
      cond (final_char c) (here i c t (Part (Ground false))) (here i c t Ends)
      ≡ cond (final_char c) (follow i closes c t) (follow i stops c t)
  here_final i c t h k = cond_cong (final_char c) _ _ _ _ (λ d. here_closes i c t h k) (λ d. here_stops i c t h)

  here_csi : (i : Inner) (c : ℕ) (t : List ℕ) → escaping (state_of i) ≡ true → is_escape (kind_of i) ≡ true →
      cond (parameter_char c) (here i c t (Part Csi)) (cond (final_char c) (here i c t (Part (Ground false))) (here i c t Ends))
      ≡ cond (parameter_char c) (follow i (goes csi) c t) (cond (final_char c) (follow i closes c t) (follow i stops c t))
  here_csi i c t h k =
      cond_cong (parameter_char c) _ _ _ _ (λ d. takes i c t Csi h ∙ unfold follow in rw k) (λ d. here_final i c t h k)

  here_osc : (c : ℕ) (t : List ℕ) (b z : Bool) →
      cond b (here osc c t (Part (Ground false))) (cond z (here osc c t Ends) (here osc c t (Part Osc)))
      ≡ cond (not b && not z) (follow osc (goes osc) c t) (cond b (follow osc closes c t) (follow osc stops c t))
  here_osc c t true z = here_closes osc c t refl refl
  here_osc c t false true = here_stops osc c t refl
  here_osc c t false false = takes osc c t Osc refl ∙ unfold follow in refl

  here_is : (i : Inner) (c : ℕ) (t : List ℕ) → here i c t (leave_of (state_of i) c) ≡ follow i (move i c) c t
  unfolding leave_of move string_char newline_char
  here_is cr c t =
      simp (here_cond, follow_cond)
      (cond_cong (eqb c 0x0A) _ _ _ _
      (λ h. unfold here follow in rw (eqb-true c 0x0A h))
      (λ h. unfold here follow in_escape leave_of in refl))
  here_is ff c t =
      simp (here_cond, follow_cond)
      (cond_cong (eqb c 0x0C) _ _ _ _
      (λ h. unfold here follow in rw (eqb-true c 0x0C h))
      (λ h. unfold here follow in_escape leave_of in cond_id (eqb c 0x0A || eqb c 0x0D) _))
  here_is esc c t =
      simp (here_cond, follow_cond, final_is)
      (cond_cong (eqb c 0x5B) _ _ _ _ (λ h. takes esc c t CsiStart refl ∙ unfold follow in refl)
      (λ h. cond_cong (eqb c 0x5D) _ _ _ _ (λ g. takes esc c t Osc refl ∙ unfold follow in refl)
      (λ g. here_final esc c t refl refl)))
  here_is csiStart c t =
      simp (here_cond, follow_cond, parameter_is, final_is)
      (cond_cong (eqb c 0x5B) _ _ _ _ (λ h. takes csiStart c t Linux refl ∙ unfold follow in refl) (λ h. here_csi csiStart c t refl refl))
  here_is csi c t = simp (here_cond, follow_cond, parameter_is, final_is) (here_csi csi c t refl refl)
  here_is osc c t = simp (here_cond, follow_cond, string_end_is) (here_osc c t (string_last c) (eqb c 0x1B))
  here_is linux c t =
      simp (here_cond, follow_cond, up_to_is)
      (cond_cong (low_char c) _ _ _ _ (λ h. here_closes linux c t refl refl) (λ h. here_stops linux c t refl))

  -- ---- within a piece it is an escape, or none
  kind_after : Inner → Move → Bool
  kind_after i (goes j) = is_escape (kind_of j)
  kind_after i closes = is_escape (kind_of i)
  kind_after i stops = is_escape (kind_of i)

  kind_after_cond : (b : Bool) (i : Inner) (m k : Move) → kind_after i (cond b m k) ≡ cond b (kind_after i m) (kind_after i k)
  kind_after_cond true i m k = refl
  kind_after_cond false i m k = refl

  kept : (i : Inner) (c : ℕ) → kind_after i (move i c) ≡ is_escape (kind_of i)
  unfolding move kind_after
  kept cr c = simp (kind_after_cond, cond_id)
  kept ff c = simp (kind_after_cond, cond_id)
  kept esc c = simp (kind_after_cond, cond_id)
  kept csiStart c = simp (kind_after_cond, cond_id)
  kept csi c = simp (kind_after_cond, cond_id)
  kept osc c = simp (kind_after_cond, cond_id)
  kept linux c = simp (kind_after_cond, cond_id)

  keeps : (i : Inner) (c : ℕ) (j : Inner) → move i c ≡ goes j → is_escape (kind_of j) ≡ is_escape (kind_of i)
  unfolding kind_after
  keeps i c j h = rw h at (kept i c)

  -- ---- over the rest of a piece
  abbrev Goes_on : (i : Inner) (t : List ℕ) → List Bool → Cut i t → Type 0
  Goes_on i t ms k = ms ≡ alike (is_escape (kind_of i)) k.taken ++ marks (Ground true) k.rest

  follow_cut : (i : Inner) (c : ℕ) (t : List ℕ) (m : Move) (h : move i c ≡ m) (ih : (j : Inner) → Cut j t) →
      ((j : Inner) → Goes_on j t (marks (state_of j) t) (ih j)) → Goes_on i (c ∷ t) (follow i m c t) (cut_by i c t m h ih)
  unfolding cut_by follow
  follow_cut i c t (goes j) h ih rh =
      ap (λ (l : List Bool). is_escape (kind_of i) ∷ l) (rh j)
      ∙ ap (λ (b : Bool). is_escape (kind_of i) ∷ (alike b (ih j).taken ++ marks (Ground true) (ih j).rest)) (keeps i c j h)
  follow_cut i c t closes h ih rh = refl
  follow_cut i c t stops h ih rh = refl

  marks_cut : (i : Inner) (t : List ℕ) → Goes_on i t (marks (state_of i) t) (cut i t)
  unfolding cut
  marks_cut i [] = refl
  marks_cut i (c ∷ t) =
      here_inside i c t ∙ here_is i c t ∙ follow_cut i c t (move i c) refl (λ j. cut j t) (λ j. marks_cut j t)

  -- ---- from the ground state over the first piece
  opened : Class → List ℕ → List Bool
  opened (opens i) t = is_escape (kind_of i) ∷ marks (state_of i) t
  opened (single k) t = is_escape k ∷ marks (Ground true) t

  opened_by : (b : Bool) (c : ℕ) (t : List ℕ) (d f g a z : Bool) →
      eqb c 0x0D ≡ d → eqb c 0x0C ≡ f → eqb c 0x1B ≡ g → eqb c 0x0A ≡ a → option_char o c ≡ z →
      marks (Ground b) (c ∷ t) ≡ opened (class o c) t
  unfolding in_escape leave_of meet_of class line_char cr_or_lf opened
  opened_by b c t true f g a z hd hf hg ha hz = rw (eqb-true c 0x0D hd)
  opened_by b c t false true g a z hd hf hg ha hz = rw (eqb-true c 0x0C hf)
  opened_by b c t false false true a z hd hf hg ha hz = rw (eqb-true c 0x1B hg)
  opened_by b c t false false false true z hd hf hg ha hz = rw (eqb-true c 0x0A ha)
  opened_by b c t false false false false true hd hf hg ha hz = rw (option_is o c, hd, hf, hg, ha, hz)
  opened_by b c t false false false false false hd hf hg ha hz =
      rw (option_is o c, hd, hf, hg, ha, hz) (ap (λ (l : List Bool). false ∷ l) (marks_ground false true t))

  over_first : (c : ℕ) (t : List ℕ) (x : Class) →
      opened x t ≡ alike (is_escape (kind_c x)) (c ∷ (tail_of x t).taken) ++ marks (Ground true) (tail_of x t).rest
  unfolding opened tail_of kind_c
  over_first c t (opens i) = ap (λ (l : List Bool). is_escape (kind_of i) ∷ l) (marks_cut i t)
  over_first c t (single k) = refl

  over_piece : (x : Piece) (w t : List ℕ) → x.text ≡ w → LongestPiece o x t → (b : Bool) →
      marks (Ground b) (w ++ t) ≡ alike (is_escape x.kind) x.text ++ marks (Ground true) t
  over_piece x [] t h l b = absurd (no_piece o x.kind [] [] (rw h at l.fits) refl)
  over_piece x (c ∷ q) t h l b =
      let k = tail_of (class o c) (q ++ t) in
      let f : Piece = record { kind = kind_c (class o c); text = c ∷ k.taken } in
      let j : x.text ++ t ≡ f.text ++ k.rest = rw (h, k.joined) in
      let u : x ≡ f = first_unique o x f t k.rest l (longest_of o c (q ++ t) k) j in
      let v : t ≡ k.rest = append_cancel_left f.text t k.rest (rw u at j) in
      opened_by b c (q ++ t) (eqb c 0x0D) (eqb c 0x0C) (eqb c 0x1B) (eqb c 0x0A) (option_char o c) refl refl refl refl refl
      ∙ over_first c (q ++ t) (class o c)
      ∙ ap₂ (λ (y : Piece) (z : List ℕ). alike (is_escape y.kind) y.text ++ marks (Ground true) z) (sym u) (sym v)

  -- ---- over all pieces
  pub marks_are : (xs : List Piece) → EachLongest o xs → (b : Bool) → marks (Ground b) (join xs) ≡ piece_marks xs
  unfolding join
  marks_are [] l b = refl
  marks_are (x ∷ xs) l b =
      over_piece x x.text (join xs) refl l.0 b
      ∙ ap (λ (m : List Bool). alike (is_escape x.kind) x.text ++ m) (marks_are xs l.1 true)
