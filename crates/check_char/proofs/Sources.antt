-- The check's lists held to Unicode's: each law by one test that antt computes over the rows and the spans of a property
-- (`agrees` of replace, Spans), at every number up to 10FFFF.
--     excepted_are      the excepted are characters with a singleton decomposition: all such ideographs of two blocks and, with the
--                       option off, three signs
--     clean_are         a cleaned text may hold what is accepted or one of these, and no ESC
--     control_codes     reason 2: the controls but for tab, newline and ESC
--     deprecated_ones   reason 3: the deprecated ones of 2060..206F
--     bidi_formats      reason 5: the bidi controls but for three marks
--     separators        reasons 8 and 10: the line separator and the paragraph separator
--     noncharacters     reason 9: the noncharacters, by Unicode's list and by its rule
use Prim.Native.Nat.{ℕ, ◌<◌}
use mathlib.Core.Path.{◌≡◌, refl, ap, ◌∙◌}
use mathlib.Core.Bool.{Bool, true, false, not, ◌&&◌, ◌||◌}
use mathlib.Core.List.{List, [], ◌∷◌}
use native.Mathlib.Omega.{arith}
use lib.Dec.{T, eqb}
use Rattle.replace.specs.Table.{Span, ◌to◌, one, in_spans}
use Rattle.replace.specs.Replace.{nonchars}
use Rattle.replace.specs.Nonchars.{non_character}
use Rattle.replace.proofs.Rows.{Piece, ◌until◌, here}
use Rattle.replace.proofs.Spans.{agree, agrees, spans_agree}
use Rattle.replace.proofs.Nonchars.{nonchars_are}
use Rattle.check_char.specs.Check.{excepted, refusals, reason_of, clean}
use Rattle.check_char.specs.Unicode.{control, line_separator, paragraph_separator, deprecated, bidi_control, noncharacter_code_point, singleton_decomposition}
use Rattle.check_char.specs.Excepted.{excepted_among, excepted_by_unicode}

abbrev line : List Piece
line = 0 until 0x110000 ∷ []

-- the first list's characters but for the second's
abbrev but : Bool → Bool → Bool
but y z = y && not z

-- reason r is given exactly at the characters of ys but for those of zs
abbrev given_at : ℕ → List Span → List Span → Bool
given_at r ys zs = agree but ys zs (λ n. eqb n r) refusals 0 line

given : (r : ℕ) (ys zs : List Span) → T (given_at r ys zs) → (c : ℕ) → c < 0x110000 → eqb (reason_of c) r ≡ in_spans ys c && not (in_spans zs c)
unfolding reason_of
given r ys zs t c h = agrees but ys zs (λ n. eqb n r) refusals 0 line t (here {x = 0} (omega arith) h)

and-true : (b : Bool) → b && true ≡ b
and-true true = refl
and-true false = refl

all_given : (r : ℕ) (ys : List Span) → T (given_at r ys []) → (c : ℕ) → c < 0x110000 → eqb (reason_of c) r ≡ in_spans ys c
all_given r ys t c h = given r ys [] t c h ∙ and-true (in_spans ys c)

-- "The ideographs excepted are those that `check_basic_text_char` lists."
-- "With it on, a cleaned text's only remaining exceptions are the CJK compatibility ideographs."
pub excepted_are : (units : Bool) (c : ℕ) → c < 0x110000 → in_spans (excepted units) c ≡ excepted_by_unicode units c
excepted_are true c h = spans_agree ◌&&◌ singleton_decomposition (excepted_among true) (excepted true) line tt (here {x = 0} (omega arith) h)
excepted_are false c h = spans_agree ◌&&◌ singleton_decomposition (excepted_among false) (excepted false) line tt (here {x = 0} (omega arith) h)

pub clean_are : (units : Bool) (x : ℕ) → x < 0x110000 →
    clean units x ≡ (eqb (reason_of x) 0 || excepted_by_unicode units x) && not (eqb x 0x1b)
clean_are units x h = ap (λ (b : Bool). (eqb (reason_of x) 0 || b) && not (eqb x 0x1b)) (excepted_are units x h)

-- "`check_basic_text_char` accepts 1B."
pub control_codes : (c : ℕ) → c < 0x110000 → eqb (reason_of c) 2 ≡ in_spans control c && not (in_spans (0x9 to 0xa ∷ one 0x1b ∷ []) c)
control_codes = given 2 control (0x9 to 0xa ∷ one 0x1b ∷ []) tt

-- the others have a replacement (16), or are the language tag (7)
pub deprecated_ones : (c : ℕ) → c < 0x110000 →
    eqb (reason_of c) 3 ≡ in_spans deprecated c && not (in_spans (0x0 to 0x205f ∷ 0x2070 to 0x10ffff ∷ []) c)
deprecated_ones = given 3 deprecated (0x0 to 0x205f ∷ 0x2070 to 0x10ffff ∷ []) tt

-- the Arabic letter mark, and the marks for left to right and right to left, are accepted
pub bidi_formats : (c : ℕ) → c < 0x110000 → eqb (reason_of c) 5 ≡ in_spans bidi_control c && not (in_spans (one 0x61c ∷ 0x200e to 0x200f ∷ []) c)
bidi_formats = given 5 bidi_control (one 0x61c ∷ 0x200e to 0x200f ∷ []) tt

pub separators : (c : ℕ) → c < 0x110000 → (eqb (reason_of c) 8 ≡ in_spans line_separator c) × (eqb (reason_of c) 10 ≡ in_spans paragraph_separator c)
separators c h = (all_given 8 line_separator tt c h, all_given 10 paragraph_separator tt c h)

pub noncharacters : (c : ℕ) → c < 0x110000 → (eqb (reason_of c) 9 ≡ in_spans noncharacter_code_point c) × (eqb (reason_of c) 9 ≡ non_character c)
noncharacters c h = (all_given 9 noncharacter_code_point tt c h, all_given 9 nonchars tt c h ∙ nonchars_are c h)
