-- With `lines` each line is a text of its own: what bytes come to, with the finish as end of file, is the cleaned texts of their lines,
-- joined.
-- Idea: a 0A ends the character that is pending (`line_outs` of utf8_lossy) and the text (`take_of`), so what follows it begins anew; and
-- up to it, no 0A among the characters, a line goes as any text. A byte 0A is the character 0A and no other (`lossy_plain`).
--     no_newline       no number of a list is 0A
--     lossy_plain     bytes without 0A are read as characters without 0A
--     passed_plain    such characters go alike, with lines and without
--     whole_line      a line's bytes, and what follows; whole-last: the last ones
--     Lines, cut      the lines of a list of bytes; lines-line, lines-last: they are `lines_of`
--     lines_are       THE LINES
--     texts_only      the cleaned texts are one list of bytes
use Prim.Native.Nat.{ℕ}
use mathlib.Core.Bool.{Bool, true, false, cond, not, ◌&&◌}
use mathlib.Core.List.{List, [], ◌∷◌, ◌++◌, append_assoc, append-nil}
use mathlib.Core.Logic.{inl}
use mathlib.Core.Path.{◌≡◌, refl, sym, ap, ap₂, ◌∙◌}
use native.Mathlib.Omega.{arith}
use lib.Dec.{eqb}
use borrow.Author.Tests.{eqb-true}
use Rattle.common.proofs.Kit.{never, by, both, both_true}
use Rattle.scalars.specs.Utf8.{encode_of, encode_all}
use Rattle.scalars.proofs.Texts.{encode_append}
use Rattle.scalars.proofs.Rows.{row1}
use Rattle.page.specs.Page.{accepted}
use Rattle.utf8_lossy.specs.Lossy.{Lossy, done, char, bad}
use Rattle.utf8_lossy.specs.Machine.{outs_of, rest_of, finish_of}
use Rattle.utf8_lossy.proofs.Reading.{decoded}
use Rattle.utf8_lossy.proofs.Texts.{line_outs, line_rest}
use Rattle.text_input.specs.declared.Options.{Options}
use Rattle.text_input.specs.Scan.{finish_chars}
use Rattle.text_input.proofs.Streams.{nothing}
use Rattle.text_clean.specs.declared.text.Text.{Text}
use Rattle.text_clean.specs.Text.{Passed, fresh_text, stepped_of, line_of, take_of, joined, passed_of}
use Rattle.text_clean.specs.Promise.{CleanedTexts, none, more, into_first, lines_of}
use Rattle.text_clean.proofs.Append.{joined_assoc, passed_append, passed_one}
use Rattle.text_clean.proofs.Reading.{chars_of, end_of, whole_from, text_out, text_passed, whole_text, text_is, text_only}

-- ---- no 0A
abbrev pub no_newline : List ℕ → Bool
no_newline [] = true
no_newline (b ∷ bs) = not (eqb b 0x0A) && no_newline bs

pub is_no : (b : Bool) → not b ≡ true → b ≡ false
is_no true h = never h
is_no false h = refl

pub plain_parts : (xs ys : List ℕ) → no_newline (xs ++ ys) ≡ true → (no_newline xs ≡ true) × (no_newline ys ≡ true)
plain_parts [] ys h = (refl, h)
plain_parts (x ∷ xs) ys h =
    let p = both_true (not (eqb x 0x0A)) (no_newline (xs ++ ys)) h in
    let r = plain_parts xs ys p.1 in
    (both p.0 r.0, r.1)

-- the encoding of 0A is the byte 0A
plain_char : (c : ℕ) → no_newline (encode_of c) ≡ true → not (eqb c 0x0A) ≡ true
plain_char c h =
    by (eqb c 0x0A)
    (λ e. let z : c ≡ 0x0A = eqb-true c 0x0A e in never (rw e at (both_true (not (eqb c 0x0A)) true (rw (row1 c (omega arith)) at h)).0))
    (λ e. rw e)

pub lossy_plain : {l cs : List ℕ} {n : ℕ} → Lossy l cs n → no_newline l ≡ true → no_newline cs ≡ true
lossy_plain done h = refl
lossy_plain (char {bs = bs} {c = c} s e m) h =
    let p = plain_parts (encode_of c) bs (rw e at h) in both (plain_char c p.0) (lossy_plain m p.1)
lossy_plain (bad {p = p} {bs = bs} x e m) h = lossy_plain m (plain_parts p bs (rw e at h)).1

pub plain_read : (bs : List ℕ) → no_newline bs ≡ true → no_newline (chars_of bs) ≡ true
plain_read bs h = lossy_plain (decoded bs [] (inl refl)) h

-- ---- the lines of bytes: what comes up to a 0A, and what follows; and a last one, which may be empty
pub data Lines : List ℕ → Type 0 where
  last : (xs : List ℕ) → no_newline xs ≡ true → Lines xs
  line : (xs ys : List ℕ) → no_newline xs ≡ true → Lines ys → Lines (xs ++ (0x0A ∷ ys))

longer : (b : ℕ) {bs : List ℕ} → eqb b 0x0A ≡ false → Lines bs → Lines (b ∷ bs)
longer b h (last xs g) = last (b ∷ xs) (both (ap not h) g)
longer b h (line xs ys g m) = line (b ∷ xs) ys (both (ap not h) g) m

pub cut : (bs : List ℕ) → Lines bs
cut [] = last [] refl
cut (b ∷ bs) =
    by (eqb b 0x0A) (λ e. let z : b ≡ 0x0A = eqb-true b 0x0A e in rw z (line [] bs refl (cut bs)))
    (λ e. longer b e (cut bs))

pub lines_last : (b : ℕ) (bs : List ℕ) → no_newline (b ∷ bs) ≡ true → lines_of (b ∷ bs) ≡ (b ∷ bs) ∷ []
unfolding lines_of
lines_last b [] h = rw (is_no (eqb b 0x0A) (both_true (not (eqb b 0x0A)) true h).0)
lines_last b (d ∷ bs) h =
    let p = both_true (not (eqb b 0x0A)) (no_newline (d ∷ bs)) h in
    rw (is_no (eqb b 0x0A) p.0) (ap (into_first b) (lines_last d bs p.1))

pub lines_line : (xs ys : List ℕ) → no_newline xs ≡ true → lines_of (xs ++ (0x0A ∷ ys)) ≡ (xs ++ (0x0A ∷ [])) ∷ lines_of ys
unfolding lines_of
lines_line [] ys h = refl
lines_line (x ∷ xs) ys h =
    let p = both_true (not (eqb x 0x0A)) (no_newline xs) h in
    rw (is_no (eqb x 0x0A) p.0) (ap (into_first x) (lines_line xs ys p.1))

module _ (p : List ℕ) (o : Options) where
  -- ---- up to a 0A, with lines and without
  take_plain : (t : Text) (c : ℕ) → not (eqb c 0x0A) ≡ true → take_of p o true t c ≡ take_of p o false t c
  unfolding take_of
  take_plain t c h = rw (is_no (eqb c 0x0A) h)

  pub passed_plain : (t : Text) (cs : List ℕ) → no_newline cs ≡ true → passed_of p o true t cs ≡ passed_of p o false t cs
  passed_plain t [] h = refl
  passed_plain t (c ∷ cs) h =
      let q = both_true (not (eqb c 0x0A)) (no_newline cs) h in
      ap (λ (x : Passed). joined x (passed_of p o true x.next cs)) (take_plain t c q.0)
      ∙ ap (joined (take_of p o false t c)) (passed_plain (take_of p o false t c).next cs q.1)

  -- ---- a 0A
  no_mark : (b : Bool) (x y : Passed) → cond (b && false) x y ≡ y
  no_mark true x y = refl
  no_mark false x y = refl

  pub take_line : (t : Text) → take_of p o true t 0x0A ≡ line_of (stepped_of p o true t 0x0A)
  unfolding take_of
  take_line t = no_mark t.input.at_start _ _

  take_end : (t : Text) → take_of p o false t 0x0A ≡ stepped_of p o false t 0x0A
  unfolding take_of
  take_end t = no_mark t.input.at_start _ _

  -- a line's characters, with lines and without
  module _ (ds : List ℕ) (plain : no_newline ds ≡ true) where
    abbrev before : Passed
    before = passed_of p o false fresh_text ds

    abbrev whole : List ℕ
    whole = ds ++ (0x0A ∷ [])

    with_lines : passed_of p o true fresh_text whole ≡ joined before (line_of (stepped_of p o true before.next 0x0A))
    with_lines =
        passed_append p o true fresh_text ds (0x0A ∷ [])
        ∙ ap (λ (x : Passed). joined x (passed_of p o true x.next (0x0A ∷ []))) (passed_plain fresh_text ds plain)
        ∙ ap (joined before) (passed_one p o true before.next 0x0A ∙ take_line before.next)

    without : passed_of p o false fresh_text whole ≡ joined before (stepped_of p o false before.next 0x0A)
    without =
        passed_append p o false fresh_text ds (0x0A ∷ [])
        ∙ ap (joined before) (passed_one p o false before.next 0x0A ∙ take_end before.next)

    pub line_out : (passed_of p o true fresh_text whole).out ≡ text_out p o whole
    line_out =
        ap (λ (x : Passed). x.out) with_lines
        ∙ sym (append_assoc before.out _ _)
        ∙ ap (λ (x : Passed). x.out ++ finish_chars x.next.input true) (sym without)

    pub line_next : (passed_of p o true fresh_text whole).next ≡ fresh_text
    line_next = ap (λ (x : Passed). x.next) with_lines

  -- ---- characters and a finish, of which the first ones leave a fresh text
  abbrev ending : Text → List ℕ → List ℕ → Passed
  ending t cs q = joined (passed_of p o true t cs) (end_of p o q (passed_of p o true t cs).next true)

  after_line : (u v q : List ℕ) → (passed_of p o true fresh_text u).next ≡ fresh_text →
      ending fresh_text (u ++ v) q ≡ joined (passed_of p o true fresh_text u) (ending fresh_text v q)
  after_line u v q h =
      let x : Passed = passed_of p o true fresh_text u in
      let y : Passed = passed_of p o true x.next v in
      ap (λ (z : Passed). joined z (end_of p o q z.next true)) (passed_append p o true fresh_text u v)
      ∙ joined_assoc x y (end_of p o q y.next true)
      ∙ ap (λ (t : Text). joined x (ending t v q)) h

  -- ---- a line, and what follows
  module _ (xs : List ℕ) (plain : no_newline xs ≡ true) where
    pub line_read : chars_of (xs ++ (0x0A ∷ [])) ≡ chars_of xs ++ (0x0A ∷ [])
    line_read =
        ap₂ (λ (l q : List ℕ). l ++ finish_of q) (line_outs [] xs []) (line_rest [] xs []) ∙ append-nil (chars_of xs ++ (0x0A ∷ []))

    pub whole_line : (ys : List ℕ) →
        whole_from p o true [] fresh_text (xs ++ (0x0A ∷ ys))
        ≡ joined (passed_of p o true fresh_text (chars_of xs ++ (0x0A ∷ []))) (whole_from p o true [] fresh_text ys)
    whole_line ys =
        let ds : List ℕ = chars_of xs in
        let e : outs_of [] (xs ++ (0x0A ∷ ys)) ≡ (ds ++ (0x0A ∷ [])) ++ outs_of [] ys =
        line_outs [] xs ys ∙ sym (append_assoc ds (0x0A ∷ []) (outs_of [] ys)) in
        ap₂ (λ (l q : List ℕ). ending fresh_text l q) e (line_rest [] xs ys)
        ∙ after_line (ds ++ (0x0A ∷ [])) (outs_of [] ys) (rest_of [] ys) (line_next ds (plain_read xs plain))

    line_outs_are : (ys : List ℕ) →
        (whole_from p o true [] fresh_text (xs ++ (0x0A ∷ ys))).out
        ≡ text_out p o (chars_of (xs ++ (0x0A ∷ []))) ++ (whole_from p o true [] fresh_text ys).out
    line_outs_are ys =
        ap (λ (z : Passed). z.out) (whole_line ys)
        ∙ ap (λ (l : List ℕ). l ++ (whole_from p o true [] fresh_text ys).out)
        (line_out (chars_of xs) (plain_read xs plain) ∙ ap (text_out p o) (sym line_read))

  -- ---- the last line
  pub whole_last : (xs : List ℕ) → no_newline xs ≡ true → whole_from p o true [] fresh_text xs ≡ text_passed p o (chars_of xs)
  whole_last xs h =
      ap (λ (x : Passed). joined x (end_of p o (rest_of [] xs) x.next true))
      (passed_plain fresh_text (outs_of [] xs) (plain_parts (outs_of [] xs) _ (plain_read xs h)).0)
      ∙ whole_text p o xs

  -- ---- THE LINES
  module _ (good : accepted p ≡ true) where
    last_is : (xs : List ℕ) → no_newline xs ≡ true → CleanedTexts p o (lines_of xs) (encode_all (whole_from p o true [] fresh_text xs).out)
    last_is [] h = unfold lines_of in rw nothing none
    last_is (b ∷ bs) h =
        rw (lines_last b bs h, ap (λ (z : Passed). z.out) (whole_last (b ∷ bs) h), ← append-nil (encode_all (text_out p o (chars_of (b ∷ bs)))))
        (more (text_is p o good (b ∷ bs)) none)

    by_lines : {bs : List ℕ} → Lines bs → CleanedTexts p o (lines_of bs) (encode_all (whole_from p o true [] fresh_text bs).out)
    by_lines (last xs h) = last_is xs h
    by_lines (line xs ys h m) =
        rw (lines_line xs ys h, line_outs_are xs h ys, encode_append (text_out p o (chars_of (xs ++ (0x0A ∷ [])))))
        (more (text_is p o good (xs ++ (0x0A ∷ []))) (by_lines m))

    pub lines_are : (bs : List ℕ) → CleanedTexts p o (lines_of bs) (encode_all (whole_from p o true [] fresh_text bs).out)
    lines_are bs = by_lines (cut bs)

pub texts_only : {p : List ℕ} {o : Options} {texts : List (List ℕ)} {outs also : List ℕ} →
    CleanedTexts p o texts outs → CleanedTexts p o texts also → outs ≡ also
texts_only none none = refl
texts_only (more a m) (more b n) = ap₂ (λ (l k : List ℕ). l ++ k) (text_only a b) (texts_only m n)
