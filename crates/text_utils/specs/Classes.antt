-- The boundary classes of internals/src/text_utils.rs, over the properties of UAX #44 and the rules of UAX #29, Table 2. They are
-- defined on every number.
use Rattle.std.specs.Prelude.{Bool, not, cond, ◌&&◌, ◌||◌, List, [], ◌∷◌, ℕ, leb, ltb, eqb, Result, Ok, Err}
use Rattle.scalars.specs.Chars.{is_char}
use Rattle.ranges.specs.Ranges.{member, firsts_of, lasts_of}
use Rattle.page.specs.Page.{nonstarter, accepted}
use Rattle.text_utils.specs.Tables.{grapheme_extend, emoji_modifier, spacing_mark, spacing_mark_exceptions, consonant_preceding_repha, consonant_prefixed, prepended_concatenation_mark, private_use}
use Rattle.common.specs.declared.Refusal.{Refusal}
use Rattle.common.specs.Answers.{refusal_number}

-- c has the property whose ranges the table lists
abbrev pub listed : List (ℕ × ℕ) → ℕ → Bool
listed t c = member (firsts_of t) (lasts_of t) c

-- ---- start
-- `is_starter`: every ASCII character, whatever the page says, and what is no nonstarter by the page
unfoldable pub starter : List ℕ → ℕ → Bool
starter p c = ltb c 0x80 || not (nonstarter p c)

-- `is_grapheme_extend_not_cgj`: Grapheme_Extend = Yes, except CGJ, 34F
unfoldable pub grapheme_extend_not_cgj : ℕ → Bool
grapheme_extend_not_cgj c = listed grapheme_extend c && not (eqb c 0x34f)

-- `is_grapheme_cluster_break_spacing_mark_plus`: E33, EB3, and General_Category = Spacing_Mark but for the exceptions
unfoldable pub spacing_mark_plus : ℕ → Bool
spacing_mark_plus c = eqb c 0xe33 || eqb c 0xeb3 || (listed spacing_mark c && not (listed spacing_mark_exceptions c))

-- "Start and end as `is_basic_text_start`, `is_basic_text_end`." A start: a starter that is neither ZWJ, nor Extend (CGJ apart), nor
-- SpacingMark. Extend is Grapheme_Extend = Yes or Emoji_Modifier = Yes (UAX #29, Table 2). "The Unicode Standard with UAX #29 and #44,
-- the Basic Text specification .. define": the last one's text is not at hand (docs/DIFFERENCES.md)
unfoldable pub basic_text_start : List ℕ → ℕ → Bool
basic_text_start p c =
    starter p c
    && not (eqb c 0x200d)
    && not (grapheme_extend_not_cgj c)
    && not (listed emoji_modifier c)
    && not (spacing_mark_plus c)

-- ---- end
-- Prepended_Concatenation_Mark = Yes by Unicode, and not in the Rust: 890 and 891
abbrev pub lacked_by_rust : ℕ → Bool
lacked_by_rust c = leb 0x890 c && leb c 0x891

-- "Start and end as `is_basic_text_start`, `is_basic_text_end`." An end: neither ZWJ nor Prepend, as the Rust lists Prepend
unfoldable pub basic_text_end : ℕ → Bool
basic_text_end c =
    not (eqb c 0x200d)
    && not (listed consonant_preceding_repha c)
    && not (listed consonant_prefixed c)
    && not (listed prepended_concatenation_mark c && not (lacked_by_rust c))

-- ---- private use: `is_private_use_area`
unfoldable pub is_private_use : ℕ → Bool
is_private_use c = listed private_use c

-- ---- the entries
-- whether c is in a class, as a number: 1 where it is, and 0 where not
abbrev pub flag : Bool → ℕ
flag b = cond b 1 0

-- an answer by document 01's numbers: 0 and whether c is in the class, or the refusal's number
-- "a definition lists this paper's number and values for each case"
abbrev pub class_numbers : Result Bool Refusal → List ℕ
class_numbers (Ok b) = 0 ∷ flag b ∷ []
class_numbers (Err e) = refusal_number e ∷ []

-- "Entries on one character give 1 (the start class 2, then 1)"
abbrev pub start_class : List ℕ → ℕ → List ℕ
start_class p c = cond (accepted p) (cond (is_char c) (0 ∷ flag (basic_text_start p c) ∷ []) (1 ∷ [])) (2 ∷ [])

abbrev pub end_class : ℕ → List ℕ
end_class c = cond (is_char c) (0 ∷ flag (basic_text_end c) ∷ []) (1 ∷ [])
