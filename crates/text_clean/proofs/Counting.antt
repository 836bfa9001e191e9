-- What is counted of a text, by its pieces: the characters that are dropped are those of the escapes of its reading, and a leading U+FEFF;
-- the line ends that are lost are those whose last character an escape takes. And so of texts one after the other.
-- Idea: which characters stand in escapes is known (`marks_are`); a 0D that one takes is counted with the character after it, or at the
-- end, and so exactly where no 0A follows.
--     trues, ends_by_lem       what marks count
--     run                 a text by steps alone; run-dropped, run-lost: it counts by its marks; run-escaped, run-swallowed: by its
--                         pieces; run_is: a text that has begun is one, where no line ends by `lines`
--     ends_are            lost line ends one by one, and by what follows
--     text_counts         what is counted of a text, lines or not; line-counts: of a line with its 0A
--     texts_counted       THE COUNTS; counts-only: no texts have two
use Prim.Native.Nat.{ℕ, ◌+◌}
use mathlib.Core.Bool.{Bool, true, false, cond, not, ◌&&◌, ◌||◌}
use mathlib.Core.List.{List, [], ◌∷◌, ◌++◌}
use mathlib.Core.Logic.{inl}
use mathlib.Core.Path.{◌≡◌, refl, sym, ap, ap₂, subst, ◌∙◌}
use native.Mathlib.Omega.{arith}
use lib.Dec.{eqb}
use lib.ListN.{length}
use borrow.Author.Tests.{eqb-true}
use Rattle.common.proofs.Kit.{both, both_true}
use Rattle.utf8_lossy.proofs.Reading.{decoded, only}
use Rattle.text_input.specs.declared.Options.{Options}
use Rattle.text_input.specs.declared.State.{State}
use Rattle.text_input.specs.declared.State.TheVariants.{Ground}
use Rattle.text_input.specs.Sets.{optional_line}
use Rattle.text_input.specs.Scan.{fresh, leading_bom}
use Rattle.text_input.specs.Pieces.{option_char, Piece, join, Reading}
use Rattle.text_input.specs.Streams.{without_bom}
use Rattle.text_input.proofs.Sets.{option_is}
use Rattle.text_input.proofs.Meaning.{ends_start}
use Rattle.text_input.proofs.Unique.{exists, unique}
use Rattle.text_clean.specs.declared.text.Text.{Text}
use Rattle.text_clean.specs.Text.{bit, Passed, fresh_text, begun, in_escape, lost_before, losable, mark_of, stepped_of, take_of, joined, passed_of}
use Rattle.text_clean.specs.Promise.{is_escape, escaped, newline_next, ends_line, line_ends, swallowed, CountedTexts, none, more, lines_of, texts_of}
use Rattle.text_clean.proofs.Reading.{chars_of, whole_from, text_passed, whole_text}
use Rattle.text_clean.proofs.Lines.{no_newline, is_no, plain_read, passed_plain, take_line, Lines, last, line, cut, lines_last, lines_line, line_read, whole_line, whole_last}
use Rattle.text_clean.proofs.Marks.{alike, piece_marks, step_state, marks, marks_are}

-- ---- what marks count
abbrev trues : List Bool → ℕ
trues [] = 0
trues (b ∷ bs) = bit b + trues bs

trues_alike : (b : Bool) (w : List ℕ) (ms : List Bool) → trues (alike b w ++ ms) ≡ cond b (length w) 0 + trues ms
trues_alike true [] ms = omega arith
trues_alike false [] ms = omega arith
trues_alike true (c ∷ w) ms = omega (arith, trues_alike true w ms)
trues_alike false (c ∷ w) ms = omega (arith, trues_alike false w ms)

-- the characters of escapes
trues_are : (xs : List Piece) → trues (piece_marks xs) ≡ escaped xs
unfolding escaped
trues_are [] = refl
trues_are (x ∷ xs) = omega (arith, trues_alike (is_escape x.kind) x.text (piece_marks xs), trues_are xs)

module _ (o : Options) (lines : Bool) where
  -- line ends whose last character is marked
  abbrev ends_by_lem : List ℕ → List Bool → ℕ
  ends_by_lem [] ms = 0
  ends_by_lem (c ∷ cs) [] = 0
  ends_by_lem (c ∷ cs) (m ∷ ms) = bit (m && ends_line o lines c cs) + ends_by_lem cs ms

  ends_alike : (b : Bool) (w t : List ℕ) (ms : List Bool) →
      ends_by_lem (w ++ t) (alike b w ++ ms) ≡ cond b (line_ends o lines w t) 0 + ends_by_lem t ms
  unfolding line_ends
  ends_alike true [] t ms = omega arith
  ends_alike false [] t ms = omega arith
  ends_alike true (c ∷ w) t ms = omega (arith, ends_alike true w t ms)
  ends_alike false (c ∷ w) t ms = omega (arith, ends_alike false w t ms)

  swallowed_are : (xs : List Piece) → ends_by_lem (join xs) (piece_marks xs) ≡ swallowed o lines xs
  unfolding swallowed join
  swallowed_are [] = refl
  swallowed_are (x ∷ xs) =
      omega (arith, ends_alike (is_escape x.kind) x.text (join xs) (piece_marks xs), swallowed_are xs)

  -- the same one by one: a 0D that is marked counts with the character after it
  abbrev lost_by : Bool → List ℕ → List Bool → ℕ
  lost_by cr [] ms = bit cr
  lost_by cr (c ∷ cs) [] = lost_before cr c
  lost_by cr (c ∷ cs) (m ∷ ms) = lost_before cr c + bit (m && losable o lines c) + lost_by (m && eqb c 0x0D) cs ms

  bit_or : (b : Bool) → 0 + bit b ≡ bit (b || false)
  bit_or true = refl
  bit_or false = refl

  bit_add : (n : ℕ) → n + 0 ≡ n
  bit_add n = omega arith

  -- a 0D is no other line end
  end_by : (c : ℕ) (next d : Bool) → eqb c 0x0D ≡ d →
      bit ((eqb c 0x0A && not lines) || optional_line o c) + bit (eqb c 0x0D && not next)
      ≡ bit ((eqb c 0x0A && not lines) || ((eqb c 0x0D && not next) || option_char o c))
  end_by c next true h = rw (eqb-true c 0x0D h) (unfold optional_line option_char in bit_or (not next))
  end_by c next false h = rw (h, option_is o c) (bit_add _)

  end_one : (m : Bool) (c : ℕ) (cs : List ℕ) →
      bit (m && losable o lines c) + bit ((m && eqb c 0x0D) && not (newline_next cs)) ≡ bit (m && ends_line o lines c cs)
  unfolding ends_line
  end_one true c cs = end_by c (newline_next cs) (eqb c 0x0D) refl
  end_one false c cs = refl

  ends_are : (cr : Bool) (cs : List ℕ) (ms : List Bool) → lost_by cr cs ms ≡ bit (cr && not (newline_next cs)) + ends_by_lem cs ms
  ends_are true [] ms = refl
  ends_are false [] ms = refl
  ends_are cr (c ∷ cs) [] = omega arith
  ends_are cr (c ∷ cs) (m ∷ ms) = omega (arith, end_one m c cs, ends_are (m && eqb c 0x0D) cs ms)

module _ (p : List ℕ) (o : Options) (lines : Bool) where
  -- ---- a text by steps alone
  abbrev pub run : Text → List ℕ → Passed
  run t [] = record { out = []; next = t; dropped = 0; lost = 0 }
  run t (c ∷ cs) = joined (stepped_of p o lines t c) (run (stepped_of p o lines t c).next cs)

  run_dropped : (t : Text) (cs : List ℕ) → (run t cs).dropped ≡ trues (marks o t.input.state cs)
  run_dropped t [] = refl
  run_dropped t (c ∷ cs) =
      let k = ap (λ (s : State). trues (marks o s cs)) (step_state o p (begun t.input) c) in
      omega (arith, run_dropped (stepped_of p o lines t c).next cs, k)

  run_lost : (t : Text) (cs : List ℕ) →
      (run t cs).lost + bit (run t cs).next.cr ≡ lost_by o lines t.cr cs (marks o t.input.state cs)
  run_lost t [] = omega arith
  run_lost t (c ∷ cs) =
      let cr : Bool = in_escape t.input.state c && eqb c 0x0D in
      let k = ap (λ (s : State). lost_by o lines cr cs (marks o s cs)) (step_state o p (begun t.input) c) in
      omega (arith, run_lost (stepped_of p o lines t c).next cs, k)

  -- a text that has begun
  abbrev begun_text : Text
  begun_text = record { input = begun fresh; cr = false }

  -- any text where nothing is pending, and no 0D that an escape took
  module _ (t : Text) (b : Bool) (ground : t.input.state ≡ Ground b) (quiet : t.cr ≡ false)
      (cs : List ℕ) (xs : List Piece) (read : Reading o cs xs) where
    marks_read : marks o t.input.state cs ≡ piece_marks xs
    marks_read =
        ap₂ (λ (s : State) (l : List ℕ). marks o s l) ground (sym read.joined) ∙ marks_are o xs read.longest b

    pub run_escaped : (run t cs).dropped ≡ escaped xs
    run_escaped = run_dropped t cs ∙ ap trues marks_read ∙ trues_are xs

    pub run_swallowed : (run t cs).lost + bit (run t cs).next.cr ≡ swallowed o lines xs
    run_swallowed =
        run_lost t cs
        ∙ ap (λ (cr : Bool). lost_by o lines cr cs (marks o t.input.state cs)) quiet
        ∙ ends_are o lines false cs (marks o t.input.state cs)
        ∙ ap₂ (λ (l : List ℕ) (ms : List Bool). 0 + ends_by_lem o lines l ms) (sym read.joined) marks_read
        ∙ omega (arith, swallowed_are o lines xs)

  -- ---- where no line ends by `lines`, a text that has begun goes by steps alone
  abbrev pub calm : List ℕ → Bool
  calm [] = true
  calm (c ∷ cs) = not (lines && eqb c 0x0A) && calm cs

  take_calm : (t : Text) → t.input.at_start ≡ false → (c : ℕ) → not (lines && eqb c 0x0A) ≡ true →
      take_of p o lines t c ≡ stepped_of p o lines t c
  unfolding take_of
  take_calm t h c k = rw (h, is_no (lines && eqb c 0x0A) k)

  pub run_is : (t : Text) → t.input.at_start ≡ false → (cs : List ℕ) → calm cs ≡ true → passed_of p o lines t cs ≡ run t cs
  run_is t h [] k = refl
  run_is t h (c ∷ cs) k =
      let q = both_true (not (lines && eqb c 0x0A)) (calm cs) k in
      ap (λ (x : Passed). joined x (passed_of p o lines x.next cs)) (take_calm t h c q.0)
      ∙ ap (joined (stepped_of p o lines t c))
      (run_is (stepped_of p o lines t c).next (ends_start p o (begun t.input) (c ∷ [])) cs q.1)

  -- ---- the first character
  record Begins (cs ds : List ℕ) : Type 0 where
    dropped : (passed_of p o lines fresh_text cs).dropped ≡ leading_bom cs + (passed_of p o lines begun_text ds).dropped
    lost : (passed_of p o lines fresh_text cs).lost ≡ (passed_of p o lines begun_text ds).lost
    cr : (passed_of p o lines fresh_text cs).next.cr ≡ (passed_of p o lines begun_text ds).next.cr

  begins_by : (c : ℕ) (cs : List ℕ) (b : Bool) → eqb c 0xFEFF ≡ b → Begins (c ∷ cs) (cond b cs (c ∷ cs))
  begins_by c cs true h =
      let e : take_of p o lines fresh_text c ≡ mark_of fresh_text c = unfold take_of in rw h in
      record {
        dropped = ap (λ (x : Passed). x.dropped + (passed_of p o lines x.next cs).dropped) e ∙ rw h;
        lost = ap (λ (x : Passed). x.lost + (passed_of p o lines x.next cs).lost) e ∙ omega arith;
        cr = ap (λ (x : Passed). (passed_of p o lines x.next cs).next.cr) e;
      }
  begins_by c cs false h =
      let e : take_of p o lines fresh_text c ≡ take_of p o lines begun_text c = unfold take_of in rw h in
      let d : passed_of p o lines fresh_text (c ∷ cs) ≡ passed_of p o lines begun_text (c ∷ cs) =
      ap (λ (x : Passed). joined x (passed_of p o lines x.next cs)) e in
      let k = ap (λ (x : Passed). x.dropped) d in
      record {
        dropped = rw h (omega (arith, k));
        lost = ap (λ (x : Passed). x.lost) d;
        cr = ap (λ (x : Passed). x.next.cr) d;
      }

  begins : (cs : List ℕ) → Begins cs (without_bom cs)
  begins [] = record { dropped = refl; lost = refl; cr = refl }
  begins (c ∷ cs) = begins_by c cs (eqb c 0xFEFF) refl

  -- ---- a text, by its reading
  record Counted (x : Passed) (cs : List ℕ) (xs : List Piece) : Type 0 where
    dropped : x.dropped ≡ leading_bom cs + escaped xs
    lost : x.lost + bit x.next.cr ≡ swallowed o lines xs

  text_counts : (cs : List ℕ) (xs : List Piece) → Reading o (without_bom cs) xs → calm (without_bom cs) ≡ true →
      Counted (passed_of p o lines fresh_text cs) cs xs
  text_counts cs xs read k =
      let b = begins cs in
      let e = run_is begun_text refl (without_bom cs) k in
      let d = ap (λ (x : Passed). x.dropped) e in
      let l = ap (λ (x : Passed). x.lost) e in
      let c = ap (λ (x : Passed). bit x.next.cr) e in
      let n = ap bit b.cr in
      record {
        dropped = omega (arith, b.dropped, d, run_escaped begun_text true refl refl (without_bom cs) xs read);
        lost = omega (arith, b.lost, l, n, c, run_swallowed begun_text true refl refl (without_bom cs) xs read);
      }

-- ---- a line with its 0A
bit_no : (b : Bool) → bit (b && false) ≡ 0
bit_no true = refl
bit_no false = refl

without_by : (c : ℕ) (cs u : List ℕ) (b : Bool) → cond b (cs ++ u) (c ∷ (cs ++ u)) ≡ cond b cs (c ∷ cs) ++ u
without_by c cs u true = refl
without_by c cs u false = refl

without_line : (ds : List ℕ) → without_bom (ds ++ (0x0A ∷ [])) ≡ without_bom ds ++ (0x0A ∷ [])
without_line [] = refl
without_line (c ∷ ds) = without_by c ds (0x0A ∷ []) (eqb c 0xFEFF)

plain_by : (c : ℕ) (cs : List ℕ) (b : Bool) → no_newline (c ∷ cs) ≡ true → no_newline (cond b cs (c ∷ cs)) ≡ true
plain_by c cs true h = (both_true (not (eqb c 0x0A)) (no_newline cs) h).1
plain_by c cs false h = h

plain_without : (ds : List ℕ) → no_newline ds ≡ true → no_newline (without_bom ds) ≡ true
plain_without [] h = refl
plain_without (c ∷ ds) h = plain_by c ds (eqb c 0xFEFF) h

module _ (p : List ℕ) (o : Options) where
  abbrev LineRun : Text → List ℕ → Type 0
  LineRun t cs =
      ((passed_of p o true t cs).dropped ≡ (run p o true t cs).dropped)
      × ((passed_of p o true t cs).lost ≡ (run p o true t cs).lost + bit (run p o true t cs).next.cr)

  line_run : (t : Text) → t.input.at_start ≡ false → (ds : List ℕ) → no_newline ds ≡ true → LineRun t (ds ++ (0x0A ∷ []))
  line_run t h [] k =
      let e = take_line p o t in
      let l = ap (λ (x : Passed). x.lost) e in
      let z = bit_no (in_escape t.input.state 0x0A) in
      (ap (λ (x : Passed). x.dropped + 0) e, omega (arith, l, z))
  line_run t h (c ∷ ds) k =
      let q = both_true (not (eqb c 0x0A)) (no_newline ds) k in
      let e = take_calm p o true t h c q.0 in
      let u : List ℕ = ds ++ (0x0A ∷ []) in
      let d = ap (λ (x : Passed). x.dropped + (passed_of p o true x.next u).dropped) e in
      let l = ap (λ (x : Passed). x.lost + (passed_of p o true x.next u).lost) e in
      let ih = line_run (stepped_of p o true t c).next (ends_start p o (begun t.input) (c ∷ [])) ds q.1 in
      (omega (arith, d, ih.0), omega (arith, l, ih.1))

  line_counts : (ds : List ℕ) → no_newline ds ≡ true → (xs : List Piece) → Reading o (without_bom (ds ++ (0x0A ∷ []))) xs →
      ((passed_of p o true fresh_text (ds ++ (0x0A ∷ []))).dropped ≡ leading_bom (ds ++ (0x0A ∷ [])) + escaped xs)
      × ((passed_of p o true fresh_text (ds ++ (0x0A ∷ []))).lost ≡ swallowed o true xs)
  line_counts ds h xs read =
      let cs : List ℕ = ds ++ (0x0A ∷ []) in
      let b = begins p o true cs in
      let r = subst (LineRun (begun_text p o true)) (sym (without_line ds))
      (line_run (begun_text p o true) refl (without_bom ds) (plain_without ds h)) in (
        omega (arith, b.dropped, r.0, run_escaped p o true (begun_text p o true) true refl refl (without_bom cs) xs read),
        omega (arith, b.lost, r.1, run_swallowed p o true (begun_text p o true) true refl refl (without_bom cs) xs read),
      )

  -- ---- THE COUNTS
  same_counts : {lines : Bool} {texts : List (List ℕ)} {d e l m : ℕ} → CountedTexts o lines texts d l → d ≡ e → l ≡ m →
      CountedTexts o lines texts e m
  same_counts {lines} {texts} {e = e} {l = l} k h g =
      subst (λ (n : ℕ). CountedTexts o lines texts e n) g (subst (λ (n : ℕ). CountedTexts o lines texts n l) h k)

  -- a text that no 0A ends
  one_counted : (lines : Bool) (bs : List ℕ) → calm p o lines (without_bom (chars_of bs)) ≡ true →
      passed_of p o false fresh_text (chars_of bs) ≡ passed_of p o lines fresh_text (chars_of bs) →
      CountedTexts o lines (bs ∷ []) (text_passed p o (chars_of bs)).dropped (text_passed p o (chars_of bs)).lost
  one_counted lines bs k e =
      let cs : List ℕ = chars_of bs in
      let r = exists o (without_bom cs) in
      let c = text_counts p o lines cs r.0 r.1 k in
      let d = ap (λ (x : Passed). x.dropped) e in
      let l = ap (λ (x : Passed). x.lost + bit x.next.cr) e in
      same_counts (more (decoded bs [] (inl refl)) r.1 none) (omega (arith, c.dropped, d)) (omega (arith, c.lost, l))

  pub calm_false : (cs : List ℕ) → calm p o false cs ≡ true
  calm_false [] = refl
  calm_false (c ∷ cs) = calm_false cs

  calm_plain : (cs : List ℕ) → no_newline cs ≡ true → calm p o true cs ≡ true
  calm_plain [] h = refl
  calm_plain (c ∷ cs) h =
      let q = both_true (not (eqb c 0x0A)) (no_newline cs) h in both q.0 (calm_plain cs q.1)

  abbrev Whole : Bool → List ℕ → Type 0
  Whole lines bs =
      CountedTexts o lines (texts_of lines bs) (whole_from p o lines [] fresh_text bs).dropped (whole_from p o lines [] fresh_text bs).lost

  last_counted : (xs : List ℕ) → no_newline xs ≡ true → Whole true xs
  last_counted [] h = unfold lines_of in none
  last_counted (b ∷ bs) h =
      let cs : List ℕ = chars_of (b ∷ bs) in
      let n = plain_read (b ∷ bs) h in
      let e = whole_last p o (b ∷ bs) h in
      rw (lines_last b bs h)
      (same_counts
      (one_counted true (b ∷ bs) (calm_plain (without_bom cs) (plain_without cs n)) (sym (passed_plain p o fresh_text cs n)))
      (ap (λ (x : Passed). x.dropped) (sym e)) (ap (λ (x : Passed). x.lost) (sym e)))

  lines_counted : {bs : List ℕ} → Lines bs → Whole true bs
  lines_counted (last xs h) = last_counted xs h
  lines_counted (line xs ys h m) =
      let ds : List ℕ = chars_of xs in
      let l : List ℕ = xs ++ (0x0A ∷ []) in
      let e = line_read p o xs h in
      let r = exists o (without_bom (ds ++ (0x0A ∷ []))) in
      let read = subst (λ (cs : List ℕ). Reading o (without_bom cs) r.0) (sym e) r.1 in
      let k = line_counts ds (plain_read xs h) r.0 r.1 in
      let w = whole_line p o xs h ys in
      let dropped = ap (λ (x : Passed). x.dropped) w in
      let lost = ap (λ (x : Passed). x.lost) w in
      let b = ap leading_bom e in
      rw (lines_line xs ys h)
      (same_counts (more (decoded l [] (inl refl)) read (lines_counted m)) (omega (arith, dropped, k.0, b)) (omega (arith, lost, k.1)))

  pub texts_counted : (lines : Bool) (bs : List ℕ) → Whole lines bs
  texts_counted false bs =
      let e = whole_text p o bs in
      same_counts (one_counted false bs (calm_false (without_bom (chars_of bs))) refl)
      (ap (λ (x : Passed). x.dropped) (sym e)) (ap (λ (x : Passed). x.lost) (sym e))
  texts_counted true bs = lines_counted (cut bs)

-- no texts have two counts
pub counts_only : {o : Options} {lines : Bool} {texts : List (List ℕ)} {d e l m : ℕ} →
    CountedTexts o lines texts d l → CountedTexts o lines texts e m → (d ≡ e) × (l ≡ m)
counts_only none none = (refl, refl)
counts_only {o} {lines} (more {xs = xs} a r k) (more {xs = ys} b s n) =
    let c = (only a b).0 in
    let z : xs ≡ ys = unique o _ xs ys r (rw (← c) at s) in
    let t = counts_only k n in
    let u = ap leading_bom c in
    let v = ap escaped z in
    let w = ap (swallowed o lines) z in
    (omega (arith, t.0, u, v), omega (arith, t.1, w))
