-- Start and end are what UAX #29 says, for every number. Idea: by Classes.antt and by Uax29.antt the characters that are no start are some
-- tables taken together; both come to one list of ranges when they are put in order and joined, which antt computes, and tables that do
-- have the same numbers (ranges, Union). So it is with the characters that are no end.
--     start_by_uax29_lem     a start, by the page and Grapheme_Cluster_Break; 34F apart
--     end_by_uax29_lem       an end, by Grapheme_Cluster_Break; 890 and 891 apart
--     start_answer, end_answer     so the entries, where they do not refuse, answer the class by UAX #29
use mathlib.Core.Path.{◌≡◌, refl, ap, ◌∙◌}
use mathlib.Core.Bool.{Bool, true, false, not, ◌&&◌, ◌||◌, cond, and-true, and-false, or-false}
use mathlib.Core.List.{List, [], ◌∷◌}
use Prim.Native.Nat.{ℕ}
use lib.Dec.{leb, eqb}
use Rattle.scalars.specs.Chars.{is_char}
use Rattle.ranges.specs.Ranges.{member}
use Rattle.ranges.proofs.Union.{lists, union, lists_union, without, lists_without, joined, same_numbers}
use Rattle.page.specs.Page.{accepted}
use Rattle.text_utils.specs.Tables.{grapheme_extend, emoji_modifier, spacing_mark, spacing_mark_exceptions, consonant_preceding_repha, consonant_prefixed, prepended_concatenation_mark}
use Rattle.text_utils.specs.Classes.{starter, grapheme_extend_not_cgj, spacing_mark_plus, basic_text_start, basic_text_end, start_class, end_class}
use Rattle.text_utils.specs.Breaks.{break_extend, break_zwj, break_spacing_mark, break_prepend}
use Rattle.text_utils.specs.Uax29.{has, start_by_uax29, end_by_uax29}
use Rattle.text_utils.proofs.Classes.{one_char}

-- ---- tables and their numbers
has_lists : (t : List (ℕ × ℕ)) (c : ℕ) → has t c ≡ lists t c
unfolding member has
has_lists [] c = refl
has_lists (r ∷ t) c = ap (λ (b : Bool). (leb r.0 c && leb c r.1) || b) (has_lists t c)

lists_one : (m c : ℕ) → lists ((m, m) ∷ []) c ≡ eqb c m
unfolding member
lists_one m c = or-false (leb m c && leb c m) ∙ one_char m c

lists_two : (m n c : ℕ) → lists ((m, m) ∷ (n, n) ∷ []) c ≡ eqb c m || eqb c n
unfolding member
lists_two m n c = rw (or-false, one_char m c, one_char n c)

none_of : (s a b d e : Bool) → s && not a && not b && not d && not e ≡ s && not (a || (b || (d || e)))
none_of s true b d e = simp and-false
none_of s false true d e = simp and-false
none_of s false false true e = simp and-false
none_of s false false false e = simp and-true

-- ---- starts
-- the tables of Classes.antt by which a character is no start, as one: ge is Grapheme_Extend, em Emoji_Modifier, sm the spacing marks, ex
-- those excepted
abbrev no_starts : (ge em sm ex : List (ℕ × ℕ)) → List (ℕ × ℕ)
no_starts ge em sm ex =
    union ((0x200d, 0x200d) ∷ [])
    (union (without ((0x34f, 0x34f) ∷ []) ge)
    (union em
    (union ((0xe33, 0xe33) ∷ (0xeb3, 0xeb3) ∷ []) (without ex sm))))

-- the same by UAX #29
abbrev no_starts_29 : (be bz bs : List (ℕ × ℕ)) → List (ℕ × ℕ)
no_starts_29 be bz bs = without ((0x34f, 0x34f) ∷ []) (union be (union bz bs))

module _ (ge em sm ex be bz bs : List (ℕ × ℕ)) (same : joined (no_starts ge em sm ex) ≡ joined (no_starts_29 be bz bs)) where
  starts : (s : Bool) (c : ℕ)
      → s && not (eqb c 0x200d) && not (lists ge c && not (eqb c 0x34f)) && not (lists em c)
      && not (eqb c 0xe33 || eqb c 0xeb3 || (lists sm c && not (lists ex c)))
      ≡ s && not ((has be c || (has bz c || has bs c)) && not (eqb c 0x34f || false))
  starts s c =
      none_of s (eqb c 0x200d) (lists ge c && not (eqb c 0x34f)) (lists em c) (eqb c 0xe33 || eqb c 0xeb3 || (lists sm c && not (lists ex c)))
      ∙ ap (λ (b : Bool). s && not b) (ours ∙ same_numbers (no_starts ge em sm ex) (no_starts_29 be bz bs) same c ∙ theirs)
    where
      ours : eqb c 0x200d || ((lists ge c && not (eqb c 0x34f)) || (lists em c || (eqb c 0xe33 || eqb c 0xeb3 || (lists sm c && not (lists ex c)))))
          ≡ lists (no_starts ge em sm ex) c
      ours = simp (lists_union, lists_without, lists_one, lists_two)

      theirs : lists (no_starts_29 be bz bs) c ≡ (has be c || (has bz c || has bs c)) && not (eqb c 0x34f || false)
      theirs = simp (lists_union, lists_without, lists_one, has_lists, or-false)

-- the test that antt computes: both come to the same ranges
same_starts : joined (no_starts grapheme_extend emoji_modifier spacing_mark spacing_mark_exceptions) ≡ joined (no_starts_29 break_extend break_zwj break_spacing_mark)
same_starts = refl

pub start_by_uax29_lem : (p : List ℕ) (c : ℕ) → basic_text_start p c ≡ start_by_uax29 p c
unfolding basic_text_start starter grapheme_extend_not_cgj spacing_mark_plus start_by_uax29
start_by_uax29_lem p c =
    starts grapheme_extend emoji_modifier spacing_mark spacing_mark_exceptions break_extend break_zwj break_spacing_mark same_starts (starter p c) c

-- ---- ends
-- the tables by which a character is no end: pr is Consonant_Preceding_Repha, px Consonant_Prefixed, pc Prepended_Concatenation_Mark
abbrev no_ends : (pr px pc : List (ℕ × ℕ)) → List (ℕ × ℕ)
no_ends pr px pc = union ((0x200d, 0x200d) ∷ []) (union pr (union px (without ((0x890, 0x891) ∷ []) pc)))

abbrev no_ends_29 : (bp bz : List (ℕ × ℕ)) → List (ℕ × ℕ)
no_ends_29 bp bz = without ((0x890, 0x890) ∷ (0x891, 0x891) ∷ []) (union bp bz)

lists_span : (m n c : ℕ) → lists ((m, n) ∷ []) c ≡ leb m c && leb c n
unfolding member
lists_span m n c = or-false (leb m c && leb c n)

module _ (pr px pc bp bz : List (ℕ × ℕ)) (same : joined (no_ends pr px pc) ≡ joined (no_ends_29 bp bz)) where
  ends : (c : ℕ)
      → not (eqb c 0x200d) && not (lists pr c) && not (lists px c) && not (lists pc c && not (leb 0x890 c && leb c 0x891))
      ≡ not ((has bp c || has bz c) && not (eqb c 0x890 || (eqb c 0x891 || false)))
  ends c =
      none_of true (eqb c 0x200d) (lists pr c) (lists px c) (lists pc c && not (leb 0x890 c && leb c 0x891))
      ∙ ap not (ours ∙ same_numbers (no_ends pr px pc) (no_ends_29 bp bz) same c ∙ theirs)
    where
      ours : eqb c 0x200d || (lists pr c || (lists px c || (lists pc c && not (leb 0x890 c && leb c 0x891))))
          ≡ lists (no_ends pr px pc) c
      ours = simp (lists_union, lists_without, lists_one, lists_span 0x890 0x891)

      theirs : lists (no_ends_29 bp bz) c ≡ (has bp c || has bz c) && not (eqb c 0x890 || (eqb c 0x891 || false))
      theirs = simp (lists_union, lists_without, lists_two, has_lists, or-false)

same_ends : joined (no_ends consonant_preceding_repha consonant_prefixed prepended_concatenation_mark) ≡ joined (no_ends_29 break_prepend break_zwj)
same_ends = refl

pub end_by_uax29_lem : (c : ℕ) → basic_text_end c ≡ end_by_uax29 c
unfolding basic_text_end end_by_uax29
end_by_uax29_lem c = ends consonant_preceding_repha consonant_prefixed prepended_concatenation_mark break_prepend break_zwj same_ends c

-- ---- the entries
-- "Start and end as `is_basic_text_start`, `is_basic_text_end`."
pub start_answer : (p : List ℕ) (c : ℕ) → accepted p ≡ true → is_char c ≡ true → start_class p c ≡ 0 ∷ cond (start_by_uax29 p c) 1 0 ∷ []
start_answer p c a h = simp (a, h, start_by_uax29_lem p c)

pub end_answer : (c : ℕ) → is_char c ≡ true → end_class c ≡ 0 ∷ cond (end_by_uax29 c) 1 0 ∷ []
end_answer c h = simp (h, end_by_uax29_lem c)
