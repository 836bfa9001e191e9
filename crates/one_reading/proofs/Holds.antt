-- How the cleaned text of a reading begins and ends, and what a queue holds: what the plain writer asks for. It begins with a start,
-- since 34F goes before any other first character; and it ends with 0A, which follows unless the last piece is a line end, or with
-- nothing. What scans and a finish append is clean call by call.
--     cleaned_starts    the cleaned text begins with a start, if it is not empty
--     cleaned_ends      it ends with 0A, or is empty
--     whole_clean       what scans of characters and a finish append is clean
--     whole_chars       and characters
use Prim.Native.Nat.{ℕ}
use mathlib.Core.Bool.{Bool, true, false, cond, not}
use mathlib.Core.List.{List, [], ◌∷◌, ◌++◌, append-nil, flatten}
use mathlib.Core.Path.{◌≡◌, refl}
use lib.Dec.{eqb}
use borrow.Author.Tests.{eqb-true}
use Rattle.scalars.specs.Chars.{are_chars}
use Rattle.scalars.proofs.Texts.{chars_append, chars_parts}
use Rattle.common.proofs.Kit.{never, split, both_true, both}
use Rattle.page.specs.Page.{accepted}
use Rattle.text_utils.specs.Classes.{basic_text_start}
use Rattle.text_utils.proofs.Classes.{start_newline, start_joiner, end_newline}
use Rattle.check_char.specs.Check.{clean, all}
use Rattle.check_char.proofs.Clean.{holds}
use Rattle.text_input.specs.declared.Options.{Options}
use Rattle.text_input.specs.declared.TextInput.{TextInput}
use Rattle.text_input.specs.Scan.{scan_chars, scan_next, finish_chars}
use Rattle.text_input.specs.Streams.{scans_chars, scans_next, owed_after}
use Rattle.text_input.specs.Pieces.{Kind, line_end, pageRun, escape, other, Piece, join, piece_image, image, start_mark, end_mark, is_line, last_newline, cleaned}
use Rattle.text_input.proofs.Streams.{last_newline_is}
use Rattle.text_input.proofs.Clean.{scan_clean, scan_chars_lem, finish_clean, finish_chars_lem}
use Rattle.text_output.proofs.Passing.{starts_well, ends_well}

-- ---- how it ends
ends_append : (v w : List ℕ) (b : Bool) → ends_well b (v ++ w) ≡ ends_well (ends_well b v) w
ends_append [] w b = refl
ends_append (x ∷ v) w b = ends_append v w (eqb x 0x0A)

-- what holds where nothing came before holds after anything
ends_after : (w : List ℕ) (b : Bool) → ends_well false w ≡ true → ends_well b w ≡ true
ends_after [] b h = never h
ends_after (x ∷ w) b h = h

piece_ends : (o : Options) (k : Kind) (v rest w : List ℕ) (b : Bool) → ends_well (not (not (is_line k))) w ≡ true →
    ends_well (ends_well b (piece_image o k v rest)) w ≡ true
piece_ends o line_end v rest w b h = unfold piece_image in h
piece_ends o pageRun v rest w b h = ends_after w _ h
piece_ends o escape v rest w b h = ends_after w _ h
piece_ends o other v rest w b h = ends_after w _ h

-- where no newline is owed the image ends with 0A, or is empty
image_ends : (o : Options) (xs : List Piece) (owed b : Bool) → owed_after owed xs ≡ false → (owed ≡ false → b ≡ true) →
    ends_well b (image o xs) ≡ true
unfolding owed_after image
image_ends o [] owed b h f = f h
image_ends o (x ∷ xs) owed b h f =
    rw (ends_append (piece_image o x.kind x.text (join xs)) (image o xs) b)
    (piece_ends o x.kind x.text (join xs) (image o xs) b (image_ends o xs (not (is_line x.kind)) _ h (λ e. rw e)))

-- 0A is an end, so no 34F follows it
no_end_mark : (w : List ℕ) → ends_well true w ≡ true → end_mark w ≡ []
unfolding end_mark
no_end_mark [] h = refl
no_end_mark (x ∷ []) h = rw (eqb-true x 0x0A h, end_newline)
no_end_mark (x ∷ y ∷ w) h = no_end_mark (y ∷ w) h

module _ (p : List ℕ) (o : Options) where
  marked_ends : (w : List ℕ) → ends_well true w ≡ true → ends_well true (start_mark p w ++ w) ≡ true
  unfolding start_mark
  marked_ends [] h = refl
  marked_ends (x ∷ w) h = split (λ (l : List ℕ). ends_well true (l ++ (x ∷ w)) ≡ true) (basic_text_start p x) (λ e. h) (λ e. h)

  ends_by : (xs : List Piece) (owed : Bool) → owed_after false xs ≡ owed → ends_well true (cleaned p o xs) ≡ true
  unfolding cleaned
  ends_by xs true h = rw (← last_newline_is xs, h) (simp ends_append refl)
  ends_by xs false h =
      let a : ends_well true (image o xs) ≡ true = image_ends o xs false true h (λ e. refl) in
      rw (← last_newline_is xs, h, no_end_mark (image o xs) a, append-nil (image o xs)) (marked_ends (image o xs) a)

  pub cleaned_ends : (xs : List Piece) → ends_well true (cleaned p o xs) ≡ true
  cleaned_ends xs = ends_by xs (owed_after false xs) refl

  -- ---- how it begins
  module _ (good : accepted p ≡ true) where
    newline_starts : (owed : Bool) → starts_well p (cond owed (0x0A ∷ []) []) ≡ true
    newline_starts true = start_newline p good
    newline_starts false = refl

    marked_starts : (w u : List ℕ) → starts_well p u ≡ true → starts_well p (start_mark p w ++ (w ++ (end_mark w ++ u))) ≡ true
    unfolding start_mark end_mark
    marked_starts [] u h = h
    marked_starts (x ∷ w) u h =
        split (λ (l : List ℕ). starts_well p (l ++ (x ∷ (w ++ (end_mark (x ∷ w) ++ u)))) ≡ true) (basic_text_start p x)
        (λ e. e) (λ e. start_joiner p good)

    pub cleaned_starts : (xs : List Piece) → starts_well p (cleaned p o xs) ≡ true
    unfolding cleaned
    cleaned_starts xs = marked_starts (image o xs) (last_newline xs) (rw (← last_newline_is xs) (newline_starts (owed_after false xs)))

-- ---- what it holds
all_append : (f : ℕ → Bool) (v w : List ℕ) → all f v ≡ true → all f w ≡ true → all f (v ++ w) ≡ true
all_append f [] w h g = g
all_append f (x ∷ v) w h g = let k = both_true (f x) (all f v) h in both k.0 (all_append f v w k.1 g)

module _ (p : List ℕ) (o : Options) where
  scans_clean : (r : TextInput) (ts : List (List ℕ)) → are_chars (flatten ts) ≡ true → all (clean o.units_compatibility) (scans_chars p o r ts) ≡ true
  unfolding scans_chars flatten
  scans_clean r [] h = refl
  scans_clean r (t ∷ ts) h =
      all_append (clean o.units_compatibility) (scan_chars p o r t) (scans_chars p o (scan_next p o r t) ts)
      (holds (all (clean o.units_compatibility) (scan_chars p o r t)) (scan_clean p o r t (chars_parts t (flatten ts) h).0))
      (scans_clean (scan_next p o r t) ts (chars_parts t (flatten ts) h).1)

  scans_chars_lem : (r : TextInput) (ts : List (List ℕ)) → are_chars (flatten ts) ≡ true → are_chars (scans_chars p o r ts) ≡ true
  unfolding scans_chars flatten
  scans_chars_lem r [] h = refl
  scans_chars_lem r (t ∷ ts) h =
      chars_append (scan_chars p o r t) (scans_chars p o (scan_next p o r t) ts)
      (scan_chars_lem p o r t (chars_parts t (flatten ts) h).0)
      (scans_chars_lem (scan_next p o r t) ts (chars_parts t (flatten ts) h).1)

  module _ (r : TextInput) (ts : List (List ℕ)) (h : are_chars (flatten ts) ≡ true) where
    abbrev last : TextInput
    last = scans_next p o r ts

    pub whole_clean : all (clean o.units_compatibility) (scans_chars p o r ts ++ finish_chars last true) ≡ true
    whole_clean =
        all_append (clean o.units_compatibility) (scans_chars p o r ts) (finish_chars last true) (scans_clean r ts h)
        (holds (all (clean o.units_compatibility) (finish_chars last true)) (finish_clean o.units_compatibility last true))

    pub whole_chars : are_chars (scans_chars p o r ts ++ finish_chars last true) ≡ true
    whole_chars = chars_append (scans_chars p o r ts) (finish_chars last true) (scans_chars_lem r ts h) (finish_chars_lem last true)
