-- Every text has exactly one reading. The first character says what a piece at its place is (`class`): a piece that may go on, of
-- which `cut` gives the longest, or a piece of one character; so the first piece of a text is there and is the only one, and the
-- rest follows by the length.
--     exists         a text has a reading
--     unique         and no other
--     one_reading    so it has exactly one
--     class, kind_c   what a first character begins
--     Tail, tail_of   the rest of the first piece
--     longest_of     with it the first piece is a longest one
--     first_unique   two longest pieces of one text are the same
--     no_piece       no piece is empty
use Prim.Native.Nat.{ℕ, zero, suc, ◌≤◌, zero-le, suc-le-suc}
use mathlib.Core.Bool.{Bool, true, false, cond, ◌||◌}
use mathlib.Core.List.{List, [], ◌∷◌, ◌++◌, head-eq_of_cons-eq, tail-eq_of_cons-eq, append_cancel_left}
use mathlib.Core.Path.{◌≡◌, refl, ap, sym, ◌∙◌}
use lib.Dec.{eqb}
use lib.ListN.{length, length-append}
use borrow.Author.Tests.{eqb-true}
use native.Mathlib.Omega.{arith}
use Rattle.common.specs.Only.{ExactlyOne}
use Rattle.text_input.specs.declared.Options.{Options}
use Rattle.text_input_parts.specs.PieceSets.{cr_or_lf}
use Rattle.text_input.specs.Pieces.{Kind, line_end, pageRun, escape, other, option_char, line_char, LineEnd, PageRun, Escape, Other, Allowed}
use Rattle.text_input.specs.Pieces.{Piece, join, LongestPiece, EachLongest, Reading}
use Rattle.text_input.proofs.Recognise.{nothing, false_true, and_left, and_right, no_more, feeds, after_esc, after_bracket}
use Rattle.text_input.proofs.Recognise.{after_linux, runs_of, feeds_all, bracket_of, page_of_lem, escape_of}
use Rattle.text_input.proofs.Cut.{Inner, cr, ff, esc, kind_of, tail, cut}

-- what a first character begins: a piece that may go on, or a piece of one character
pub data Class : Type 0 where
  opens : Inner → Class
  single : Kind → Class

unfoldable pub class : Options → ℕ → Class
class o c =
    cond (eqb c 0x0D) (opens cr) (
    cond (eqb c 0x0C) (opens ff) (
    cond (eqb c 0x1B) (opens esc) (cond (line_char o c) (single line_end) (single other))
    )
    )

unfoldable pub kind_c : Class → Kind
kind_c (opens i) = kind_of i
kind_c (single k) = k

unfoldable pub rest_c : Class → List ℕ → Bool
rest_c (opens i) q = tail i q
rest_c (single k) q = nothing q

-- ---- what the rules allow, by the first character
Begun : Options → Kind → List ℕ → Type 0
Begun o k [] = ⊥
Begun o k (c ∷ q) = (k ≡ kind_c (class o c)) × (rest_c (class o c) q ≡ true)

-- a line end of one character
one_by : (o : Options) (c : ℕ) (d f g : Bool) → eqb c 0x0D ≡ d → eqb c 0x0C ≡ f → eqb c 0x1B ≡ g → line_char o c ≡ true →
    Begun o line_end (c ∷ [])
unfolding Begun class kind_c rest_c tail
one_by o c true f g hd hf hg h = rw (eqb-true c 0x0D hd) (refl, refl)
one_by o c false true g hd hf hg h = unfold line_char cr_or_lf option_char in false_true (rw (eqb-true c 0x0C hf) at h)
one_by o c false false true hd hf hg h = unfold line_char cr_or_lf option_char in false_true (rw (eqb-true c 0x1B hg) at h)
one_by o c false false false hd hf hg h = rw (hd, hf, hg, h) (refl, refl)

or_left : (a b : Bool) → a || b ≡ false → a ≡ false
or_left true b h = h
or_left false b h = refl

no_cr : (o : Options) (c : ℕ) → line_char o c ≡ false → eqb c 0x0D ≡ false
unfolding line_char cr_or_lf
no_cr o c h = or_left (eqb c 0x0D) (eqb c 0x0A) (or_left (cr_or_lf c) (option_char o c) h)

begun : (o : Options) (k : Kind) (w : List ℕ) → Allowed o k w → Begun o k w
unfolding Begun class kind_c rest_c tail feeds after_esc after_bracket after_linux
begun o line_end w LineEnd.both = (refl, refl)
begun o line_end w (LineEnd.one {c = c} h) = one_by o c (eqb c 0x0D) (eqb c 0x0C) (eqb c 0x1B) refl refl refl h
begun o pageRun w PageRun.one = (refl, refl)
begun o pageRun w (PageRun.more r) = (refl, feeds_all r)
begun o escape w Escape.linux = (refl, refl)
begun o escape w (Escape.linux_char h) = (refl, rw h)
begun o escape w (Escape.control {q = q} e r) = (refl, bracket_of q e (runs_of r))
begun o escape w (Escape.string r) = (refl, runs_of r)
begun o escape w (Escape.two h a b) = (refl, rw (a, b, h))
begun o escape w Escape.alone = (refl, refl)
begun o other w (Other.one {c = c} a f g) = rw (no_cr o c a, f, g, a) (refl, refl)

built_cr : (o : Options) (q : List ℕ) → tail cr q ≡ true → LineEnd o (0x0D ∷ q)
unfolding tail line_char cr_or_lf
built_cr o [] h = LineEnd.one refl
built_cr o (d ∷ q) h =
    rw (eqb-true d 0x0A (and_left (eqb d 0x0A) (nothing q) h), no_more q (and_right (eqb d 0x0A) (nothing q) h)) LineEnd.both

built_by : (o : Options) (c : ℕ) (q : List ℕ) (d f g l : Bool) →
    eqb c 0x0D ≡ d → eqb c 0x0C ≡ f → eqb c 0x1B ≡ g → line_char o c ≡ l →
    let x : Class = cond d (opens cr) (cond f (opens ff) (cond g (opens esc) (cond l (single line_end) (single other)))) in
    rest_c x q ≡ true → Allowed o (kind_c x) (c ∷ q)
unfolding rest_c kind_c tail
built_by o c q true f g l hd hf hg hl h = rw (eqb-true c 0x0D hd) (built_cr o q h)
built_by o c q false true g l hd hf hg hl h = rw (eqb-true c 0x0C hf) (page_of_lem q h)
built_by o c q false false true l hd hf hg hl h = rw (eqb-true c 0x1B hg) (escape_of q h)
built_by o c q false false false true hd hf hg hl h = rw (no_more q h) (LineEnd.one hl)
built_by o c q false false false false hd hf hg hl h = rw (no_more q h) (Other.one hl hf hg)

built : (o : Options) (c : ℕ) (q : List ℕ) → rest_c (class o c) q ≡ true → Allowed o (kind_c (class o c)) (c ∷ q)
unfolding class
built o c q h = built_by o c q (eqb c 0x0D) (eqb c 0x0C) (eqb c 0x1B) (line_char o c) refl refl refl refl h

-- ---- the first piece of a text
pub record Tail (x : Class) (t : List ℕ) : Type 0 where
  pub taken : List ℕ
  pub rest : List ℕ
  pub joined : taken ++ rest ≡ t
  pub fits : rest_c x taken ≡ true
  pub most : (q r : List ℕ) → rest_c x q ≡ true → q ++ r ≡ t → length q ≤ length taken

pub nothing_length : (q : List ℕ) → nothing q ≡ true → length q ≤ 0
nothing_length [] h = zero-le
nothing_length (c ∷ q) h = false_true h

unfoldable pub tail_of : (x : Class) (t : List ℕ) → Tail x t
unfolding rest_c
tail_of (opens i) t =
    let k = cut i t in
    record { taken = k.taken; rest = k.rest; joined = k.joined; fits = k.fits; most = k.most }
tail_of (single k) t =
    record { taken = []; rest = t; joined = refl; fits = refl; most = λ q r h e. nothing_length q h }

most_first : (o : Options) (c : ℕ) (t : List ℕ) (k : Tail (class o c) t) (j : Kind) (q r : List ℕ) →
    Allowed o j q → q ++ r ≡ c ∷ (k.taken ++ k.rest) → length q ≤ suc (length k.taken)
unfolding Begun
most_first o c t k j [] r f h = zero-le
most_first o c t k j (x ∷ q) r f h =
    let g = (begun o j (x ∷ q) f).1 in
    suc-le-suc (k.most q r (rw (head-eq_of_cons-eq h) at g) (tail-eq_of_cons-eq h ∙ k.joined))

pub longest_of : (o : Options) (c : ℕ) (t : List ℕ) (k : Tail (class o c) t) →
    LongestPiece o (record { kind = kind_c (class o c); text = c ∷ k.taken }) k.rest
longest_of o c t k =
    record {
      fits = built o c k.taken k.fits;
      most = most_first o c t k;
    }

-- ---- a text has a reading
shorter : (a b t : List ℕ) (n : ℕ) → a ++ b ≡ t → suc (length t) ≤ suc n → length b ≤ n
shorter a b t n e h = omega (arith, simp length-append at (ap length e))

exists_by : (o : Options) (n : ℕ) (t : List ℕ) → length t ≤ n → (xs : List Piece) × Reading o t xs
unfolding join
exists_by o zero [] h = ([], record { joined = refl; longest = tt })
exists_by o zero (c ∷ t) h = absurd (omega arith)
exists_by o (suc n) [] h = ([], record { joined = refl; longest = tt })
exists_by o (suc n) (c ∷ t) h =
    let k = tail_of (class o c) t in
    let r = exists_by o n k.rest (shorter k.taken k.rest t n k.joined h) in (
      record { kind = kind_c (class o c); text = c ∷ k.taken } ∷ r.0,
      record {
        joined = rw (r.1.joined, k.joined);
        longest = (rw r.1.joined (longest_of o c t k), r.1.longest);
      },
    )

pub exists : (o : Options) (t : List ℕ) → (xs : List Piece) × Reading o t xs
exists o t = exists_by o (length t) t (omega arith)

-- ---- and no other
kind_unique : (o : Options) (k j : Kind) (w : List ℕ) → Allowed o k w → Allowed o j w → k ≡ j
unfolding Begun
kind_unique o k j [] f g = absurd (begun o k [] f)
kind_unique o k j (c ∷ q) f g = (begun o k (c ∷ q) f).0 ∙ sym (begun o j (c ∷ q) g).0

pub no_piece : (o : Options) (k : Kind) (w r : List ℕ) → Allowed o k w → [] ≡ w ++ r → ⊥
unfolding Begun
no_piece o k [] r f h = begun o k [] f
no_piece o k (c ∷ q) r f h = let z : ◌≡◌ {A = ℕ} 0 1 = cc in omega arith

split_left : (a b x y : List ℕ) → length a ≡ length b → a ++ x ≡ b ++ y → a ≡ b
split_left [] [] x y l h = refl
split_left [] (d ∷ b) x y l h = absurd (omega arith)
split_left (c ∷ a) [] x y l h = absurd (omega arith)
split_left (c ∷ a) (d ∷ b) x y l h =
    let r = split_left a b x y (omega arith) (tail-eq_of_cons-eq h) in cc

pub first_unique : (o : Options) (a b : Piece) (x y : List ℕ) →
    LongestPiece o a x → LongestPiece o b y → a.text ++ x ≡ b.text ++ y → a ≡ b
first_unique o a b x y f g h =
    let u = f.most b.kind b.text y g.fits (sym h) in
    let v = g.most a.kind a.text x f.fits h in
    let e : a.text ≡ b.text = split_left a.text b.text x y (omega arith) h in
    let k : a.kind ≡ b.kind = kind_unique o a.kind b.kind b.text (rw e at f.fits) g.fits in
    λ i. record { kind = k i; text = e i }

unique_by : (o : Options) (xs ys : List Piece) → EachLongest o xs → EachLongest o ys → join xs ≡ join ys → xs ≡ ys
unfolding join
unique_by o [] [] f g h = refl
unique_by o [] (y ∷ ys) f g h = absurd (no_piece o y.kind y.text (join ys) g.0.fits h)
unique_by o (x ∷ xs) [] f g h = absurd (no_piece o x.kind x.text (join xs) f.0.fits (sym h))
unique_by o (x ∷ xs) (y ∷ ys) f g h =
    let e = first_unique o x y (join xs) (join ys) f.0 g.0 h in
    let r = unique_by o xs ys f.1 g.1 (append_cancel_left y.text (join xs) (join ys) (rw e at h)) in
    cc

pub unique : (o : Options) (t : List ℕ) (xs ys : List Piece) → Reading o t xs → Reading o t ys → xs ≡ ys
unique o t xs ys f g = unique_by o xs ys f.longest g.longest (f.joined ∙ sym g.joined)

pub one_reading : (o : Options) (t : List ℕ) → ExactlyOne (List Piece) (λ (xs : List Piece). Reading o t xs)
one_reading o t = let r = exists o t in record { one = r.0; is = r.1; only = λ xs h. unique o t xs r.0 h r.1 }
