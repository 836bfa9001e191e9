-- What the scanner means: a text and a finish, from a record in a ground state, append the image of the text's reading, with 34F
-- before it where a start is expected and it begins with none, and then what the finish adds; and the record after is known. By
-- induction on the reading, whose first piece is the one over which the scanner's steps go (proofs/Run.antt).
--     ends_last, ends_start, ends_count   a run's last character; `at_start` and the count stay
--     section_after                        the image with the marks and the newline
--     section_chars                       what a text and a finish append is this
--     section_next                        the record after them
use Prim.Native.Nat.{ℕ}
use mathlib.Core.Bool.{Bool, true, false, cond, not, ◌&&◌, ◌||◌, not-not}
use mathlib.Core.List.{List, [], ◌∷◌, ◌++◌, append_assoc, append_cancel_left}
use mathlib.Core.Path.{◌≡◌, refl, ap, ap₂, sym, ◌∙◌}
use lib.Dec.{eqb}
use borrow.Author.Tests.{eqb-true}
use Rattle.replace.specs.declared.Replaced.{Replaced}
use Rattle.replace.specs.declared.Replaced.TheVariants.{One, Two, Three}
use Rattle.replace.specs.Replace.{chars}
use Rattle.page.specs.Page.{accepted}
use Rattle.text_utils.specs.Classes.{basic_text_start}
use Rattle.text_input.specs.declared.State.{State}
use Rattle.text_input.specs.declared.State.TheVariants.{Ground}
use Rattle.text_input.specs.declared.Options.{Options}
use Rattle.text_input.specs.declared.TextInput.{TextInput}
use Rattle.text_input.specs.declared.step.Left.{Left}
use Rattle.text_input.specs.declared.step.Left.TheVariants.{Part, Newline, Goes, Ends, After, Dropped}
use Rattle.text_input.specs.declared.step.Met.{Met}
use Rattle.text_input.specs.declared.step.Met.TheVariants.{Line, Opens, Other}
use Rattle.text_input.specs.declared.step.Step.{Step}
use Rattle.text_input_parts.specs.PieceSets.{cr_or_lf}
use Rattle.text_input_parts.specs.Appended.{lead_chars, image_chars, last_of, end_mark_of, newline_of, guard_of}
use Rattle.text_input.specs.Step.{out_chars, replaced_by, made_of, met_of, left_of, leave_of, meet_of}
use Rattle.text_input.specs.Step.{scan_step_of}
use Rattle.text_input.specs.Scan.{finish_chars, finish_next, after_line}
use Rattle.text_input.specs.Inner.{outs, ends}
use Rattle.text_input.specs.Pieces.{is_line, option_char, line_char, Piece, join, LongestPiece, EachLongest, Reading, piece_image, image}
use Rattle.text_input.specs.Pieces.{start_mark}
use Rattle.text_input.specs.Streams.{owed_after}
use Rattle.text_input_parts.proofs.Last.{last_append}
use Rattle.text_input.proofs.Sets.{option_is}
use Rattle.text_input.proofs.Cut.{Inner, cr, ff, esc, csiStart, csi, osc, linux, state_of, kind_of, cut}
use Rattle.text_input.proofs.Unique.{Class, opens, single, class, kind_c, tail_of, longest_of, first_unique, no_piece}
use Rattle.text_input.proofs.Run.{Closed, pre, expect_after, guard, at, complete, told, onward, guard_line, run_cut}
use Rattle.std.specs.Prelude.{Option, Some, None}

-- ---- small laws
guard_false : (p v : List ℕ) → guard p false v ≡ v
unfolding guard
guard_false p [] = refl
guard_false p (x ∷ v) = refl

guard_append : (p : List ℕ) (e : Bool) (w v : List ℕ) → guard p e (w ++ v) ≡ guard p e w ++ guard p (expect_after e w) v
unfolding guard expect_after
guard_append p e [] v = refl
guard_append p e (x ∷ w) v = rw (guard_false p v, append_assoc)

-- the mark, and then the image
guard_is : (p : List ℕ) (e : Bool) (w : List ℕ) → guard p e w ≡ cond e (start_mark p w) [] ++ w
unfolding guard start_mark
guard_is p false [] = refl
guard_is p true [] = refl
guard_is p false (x ∷ w) = refl
guard_is p true (x ∷ w) = refl

-- within a piece its first characters do not matter for its image
image_inner : (o : Options) (i : Inner) (w t : List ℕ) → piece_image o (kind_of i) [] t ≡ piece_image o (kind_of i) w t
unfolding piece_image
image_inner o cr w t = refl
image_inner o ff w t = refl
image_inner o esc w t = refl
image_inner o csiStart w t = refl
image_inner o csi w t = refl
image_inner o osc w t = refl
image_inner o linux w t = refl

-- ---- any other character
guarded_lead : (p : List ℕ) (e : Bool) (a : ℕ) (w : List ℕ) →
    lead_chars (cond e (cond (basic_text_start p a) None (Some 0x34F)) None) ++ (a ∷ w) ≡ guard p e (a ∷ w)
unfolding guard
guarded_lead p false a w = refl
guarded_lead p true a w = by (basic_text_start p a)
  where
    by : (b : Bool) → lead_chars (cond b None (Some 0x34F)) ++ (a ∷ w) ≡ cond b [] (0x34F ∷ []) ++ (a ∷ w)
    by true = refl
    by false = refl

module _ (p : List ℕ) (o : Options) (eof start : Bool) (count : ℕ) where
  -- a text and the finish, from this state, expectation and last character
  abbrev from : List ℕ → State → Bool → ℕ → Closed
  from t s e n = complete p o eof start count t (at p o eof start count s e n)

  abbrev then : Bool → List ℕ → Bool → ℕ → List ℕ → Closed
  then b w e n t = told p o eof start count b w e n t

  -- a replacement is never empty
  over_other : (x : Replaced) (e : Bool) (n : ℕ) (t : List ℕ) →
      pre (lead_chars (guard_of p None e x) ++ chars x)
      (from t (Ground false) false (last_of (last_of n (lead_chars (guard_of p None e x))) (chars x)))
      ≡ then false (chars x) e n t
  unfolding told expect_after
  over_other (One a) e n t = rw (guarded_lead p e a [])
  over_other (Two a b) e n t = rw (guarded_lead p e a (b ∷ []))
  over_other (Three a b c) e n t = rw (guarded_lead p e a (b ∷ c ∷ []))

  -- ---- from the ground state over the first piece
  opened : Class → ℕ → Bool → ℕ → List ℕ → Closed
  opened (opens i) c e n t = from t (state_of i) e n
  opened (single k) c e n t = then (is_line k) (piece_image o k (c ∷ []) t) e n t

  opened_by : accepted p ≡ true → (b : Bool) (c : ℕ) (t : List ℕ) (e : Bool) (n : ℕ) (d f g a z : Bool) →
      eqb c 0x0D ≡ d → eqb c 0x0C ≡ f → eqb c 0x1B ≡ g → eqb c 0x0A ≡ a → option_char o c ≡ z →
      from (c ∷ t) (Ground b) e n ≡ opened (class o c) c e n t
  unfolding complete scan_step_of leave_of meet_of class line_char cr_or_lf opened piece_image
  opened_by good b c t e n true f g a z hd hf hg ha hz = rw (eqb-true c 0x0D hd)
  opened_by good b c t e n false true g a z hd hf hg ha hz = rw (eqb-true c 0x0C hf)
  opened_by good b c t e n false false true a z hd hf hg ha hz = rw (eqb-true c 0x1B hg)
  opened_by good b c t e n false false false true z hd hf hg ha hz =
      rw (eqb-true c 0x0A ha) (unfold told expect_after in rw (guard_line p o eof start count good e))
  opened_by good b c t e n false false false false true hd hf hg ha hz =
      rw (option_is o c, hd, hf, hg, ha, hz) (unfold told expect_after in rw (guard_line p o eof start count good e))
  opened_by good b c t e n false false false false false hd hf hg ha hz =
      rw (option_is o c, hd, hf, hg, ha, hz) (over_other (replaced_by o c) e n t)

  over_first : accepted p ≡ true → (c : ℕ) (t : List ℕ) (x : Class) (e : Bool) (n : ℕ) →
      opened x c e n t
      ≡ then (is_line (kind_c x)) (piece_image o (kind_c x) (c ∷ (tail_of x t).taken) (tail_of x t).rest) e n (tail_of x t).rest
  unfolding opened tail_of kind_c onward
  over_first good c t (opens i) e n =
      run_cut p o eof start count good i t e n ∙ rw (image_inner o i (c ∷ (cut i t).taken) (cut i t).rest)
  over_first good c t (single k) e n = refl

  told_piece : Piece → Bool → ℕ → List ℕ → Closed
  told_piece x e n t = then (is_line x.kind) (piece_image o x.kind x.text t) e n t

  -- the piece of the reading is the one that the scanner goes over
  over_piece : accepted p ≡ true → (x : Piece) (w t : List ℕ) → x.text ≡ w → LongestPiece o x t → (b e : Bool) (n : ℕ) →
      from (w ++ t) (Ground b) e n ≡ told_piece x e n t
  unfolding told_piece
  over_piece good x [] t h l b e n = absurd (no_piece o x.kind [] [] (rw h at l.fits) refl)
  over_piece good x (c ∷ q) t h l b e n =
      let k = tail_of (class o c) (q ++ t) in
      let f : Piece = record { kind = kind_c (class o c); text = c ∷ k.taken } in
      let j : x.text ++ t ≡ f.text ++ k.rest = rw (h, k.joined) in
      let u : x ≡ f = first_unique o x f t k.rest l (longest_of o c (q ++ t) k) j in
      let v : t ≡ k.rest = append_cancel_left f.text t k.rest (rw u at j) in
      opened_by good b c (q ++ t) e n (eqb c 0x0D) (eqb c 0x0C) (eqb c 0x1B) (eqb c 0x0A) (option_char o c) refl refl refl refl refl
      ∙ over_first good c (q ++ t) (class o c) e n
      ∙ ap₂ (λ (y : Piece) (z : List ℕ). told_piece y e n z) (sym u) (sym v)

  -- ---- over all pieces, and then the finish
  -- what the finish adds
  closing : Bool → ℕ → List ℕ
  closing owed n = lead_chars (end_mark_of n) ++ lead_chars (newline_of (eof && owed))

  closing_is : (b e : Bool) (n : ℕ) → finish_chars (at p o eof start count (Ground b) e n) eof ≡ closing (not b) n
  unfolding closing
  closing_is b e n = refl

  pieces_by : accepted p ≡ true → (xs : List Piece) → EachLongest o xs → (b e : Bool) (n : ℕ) →
      from (join xs) (Ground b) e n
      ≡ record { out = guard p e (image o xs) ++ closing (owed_after (not b) xs) (last_of n (image o xs)); line = not (owed_after (not b) xs) }
  unfolding join image owed_after told_piece told
  pieces_by good [] l b e n = unfold complete guard in rw (closing_is b e n, not-not b)
  pieces_by good (x ∷ xs) l b e n =
      let w = piece_image o x.kind x.text (join xs) in
      over_piece good x x.text (join xs) refl l.0 b e n
      ∙ rw (
        pieces_by good xs l.1 (is_line x.kind) (expect_after e w) (last_of n w),
        guard_append p e w (image o xs),
        ← last_append n w (image o xs),
        append_assoc,
      )

  -- a run and a finish are what `complete` says
  complete_scan : (t : List ℕ) (r : TextInput) →
      complete p o eof start count t r
      ≡ record { out = outs p o r t ++ finish_chars (ends p o r t) eof; line = after_line (ends p o r t).state }
  unfolding complete
  complete_scan [] r = refl
  complete_scan (c ∷ t) r = simp (complete_scan t (scan_step_of p o r c).next, append_assoc)

-- ---- what a step keeps
record Keeps (r : TextInput) (s : Step) : Type 0 where
  last : s.next.last ≡ last_of r.last (out_chars s)
  start : s.next.at_start ≡ r.at_start
  count : s.next.count ≡ r.count

made_keeps : (r : TextInput) (lead : Option ℕ) (image : Option Replaced) (s : State) (e : Bool) → Keeps r (made_of r lead image s e)
made_keeps r lead image s e =
    record { last = (last_append r.last (lead_chars lead) (image_chars image)); start = refl; count = refl }

met_keeps : (p : List ℕ) (o : Options) (r : TextInput) (c : ℕ) (lead : Option ℕ) (e : Bool) (m : Met) → Keeps r (met_of p o r c lead e m)
met_keeps p o r c lead e Line = made_keeps r lead (Some (One 0x0A)) (Ground true) false
met_keeps p o r c lead e (Opens s) = made_keeps r lead None s e
met_keeps p o r c lead e Other = made_keeps r (guard_of p lead e (replaced_by o c)) (Some (replaced_by o c)) (Ground false) false

left_keeps : (p : List ℕ) (o : Options) (r : TextInput) (c : ℕ) (l : Left) → Keeps r (left_of p o r c l)
left_keeps p o r c (Part s) = made_keeps r None None s r.expect_starter
left_keeps p o r c Newline = made_keeps r None (Some (One 0x0A)) (Ground true) false
left_keeps p o r c Goes = met_keeps p o r c None r.expect_starter (meet_of o c)
left_keeps p o r c Ends = met_keeps p o r c None r.expect_starter (meet_of o c)
left_keeps p o r c (After a) = met_keeps p o r c (Some a) false (meet_of o c)
left_keeps p o r c Dropped = met_keeps p o r c None false (meet_of o c)

step_keeps : (p : List ℕ) (o : Options) (r : TextInput) (c : ℕ) → Keeps r (scan_step_of p o r c)
unfolding scan_step_of
step_keeps p o r c = left_keeps p o r c (leave_of r.state c)

pub ends_last : (p : List ℕ) (o : Options) (r : TextInput) (t : List ℕ) → (ends p o r t).last ≡ last_of r.last (outs p o r t)
ends_last p o r [] = refl
ends_last p o r (c ∷ t) =
    let s = scan_step_of p o r c in
    ends_last p o s.next t
    ∙ ap (λ n. last_of n (outs p o s.next t)) (step_keeps p o r c).last
    ∙ (last_append r.last (out_chars s) (outs p o s.next t))

pub ends_start : (p : List ℕ) (o : Options) (r : TextInput) (t : List ℕ) → (ends p o r t).at_start ≡ r.at_start
ends_start p o r [] = refl
ends_start p o r (c ∷ t) = ends_start p o (scan_step_of p o r c).next t ∙ (step_keeps p o r c).start

pub ends_count : (p : List ℕ) (o : Options) (r : TextInput) (t : List ℕ) → (ends p o r t).count ≡ r.count
ends_count p o r [] = refl
ends_count p o r (c ∷ t) = ends_count p o (scan_step_of p o r c).next t ∙ (step_keeps p o r c).count

-- ---- THE SECTION
-- the image of the pieces, with 34F before it where a start is expected; then what the finish adds
unfoldable pub section_after : List ℕ → Options → Bool → ℕ → Bool → List Piece → Bool → List ℕ
section_after p o expect last owed xs eof =
    cond expect (start_mark p (image o xs)) []
    ++ (image o xs ++ (lead_chars (end_mark_of (last_of last (image o xs))) ++ lead_chars (newline_of (eof && owed_after owed xs))))

module _ (p : List ℕ) (good : accepted p ≡ true) (o : Options) (r : TextInput) (b : Bool) (ground : r.state ≡ Ground b) where
  section_closed : (t : List ℕ) (xs : List Piece) → Reading o t xs → (eof : Bool) →
      ◌≡◌ {A = Closed}
      (record { out = outs p o r t ++ finish_chars (ends p o r t) eof; line = after_line (ends p o r t).state })
      (record { out = section_after p o r.expect_starter r.last (not b) xs eof; line = not (owed_after (not b) xs) })
  unfolding section_after
  section_closed t xs read eof =
      let start = r.at_start in
      let count = r.count in
      let e = r.expect_starter in
      let n = r.last in
      let same : r ≡ at p o eof start count (Ground b) e n =
      λ i. record { state = ground i; expect_starter = e; at_start = start; last = n; count = count } in
      sym (complete_scan p o eof start count t r)
      ∙ ap₂ (λ (u : List ℕ) (z : TextInput). complete p o eof start count u z) (sym read.joined) same
      ∙ pieces_by p o eof start count good xs read.longest b e n
      ∙ unfold closing in rw (guard_is p e (image o xs), append_assoc)

  -- what a text and a finish append
  pub section_chars : (t : List ℕ) (xs : List Piece) → Reading o t xs → (eof : Bool) →
      outs p o r t ++ finish_chars (ends p o r t) eof ≡ section_after p o r.expect_starter r.last (not b) xs eof
  section_chars t xs read eof = ap (λ (x : Closed). x.out) (section_closed t xs read eof)

  section_line : (t : List ℕ) (xs : List Piece) → Reading o t xs → after_line (ends p o r t).state ≡ not (owed_after (not b) xs)
  section_line t xs read = ap (λ (x : Closed). x.line) (section_closed t xs read true)

  section_last : (t : List ℕ) (xs : List Piece) → Reading o t xs → (eof : Bool) →
      last_of (ends p o r t).last (finish_chars (ends p o r t) eof)
      ≡ last_of r.last (section_after p o r.expect_starter r.last (not b) xs eof)
  section_last t xs read eof =
      ap (λ n. last_of n (finish_chars (ends p o r t) eof)) (ends_last p o r t)
      ∙ (last_append r.last (outs p o r t) (finish_chars (ends p o r t) eof))
      ∙ ap (last_of r.last) (section_chars t xs read eof)

  -- the record after them
  pub section_next : (t : List ℕ) (xs : List Piece) → Reading o t xs → (eof : Bool) →
      finish_next (ends p o r t) eof
      ≡ record {
        state = Ground (eof || not (owed_after (not b) xs));
        expect_starter = true;
        at_start = r.at_start;
        last = last_of r.last (section_after p o r.expect_starter r.last (not b) xs eof);
        count = r.count;
      }
  section_next t xs read eof =
      λ i. record {
        state = Ground (eof || section_line t xs read i);
        expect_starter = true;
        at_start = ends_start p o r t i;
        last = section_last t xs read eof i;
        count = ends_count p o r t i;
      }
