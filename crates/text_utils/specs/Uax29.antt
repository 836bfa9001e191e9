-- Start and end by UAX #29, Unicode Text Segmentation, of Unicode 15.0.0: over the values of Grapheme_Cluster_Break as
-- GraphemeBreakProperty.txt has them (Breaks.antt). Nothing here is taken from Classes.antt nor from the lists of Tables.antt: the classes
-- are held to this, a second source, by `start_by_uax29_lem` and `end_by_uax29_lem` (proofs/Uax29.antt).
-- "The Unicode Standard with UAX #29 and #44 .. define; a difference is recorded": by name, below.
use Rattle.std.specs.Prelude.{Bool, false, not, ◌&&◌, ◌||◌, List, [], ◌∷◌, ℕ, leb, ltb, eqb}
use Rattle.page.specs.Page.{nonstarter}
use Rattle.text_utils.specs.Breaks.{break_extend, break_zwj, break_spacing_mark, break_prepend}

-- c lies in one of the ranges
unfoldable pub has : List (ℕ × ℕ) → ℕ → Bool
has [] c = false
has (r ∷ rs) c = (leb r.0 c && leb c r.1) || has rs c

-- c is one of them
abbrev pub is_one_of : List ℕ → ℕ → Bool
is_one_of [] c = false
is_one_of (x ∷ xs) c = eqb c x || is_one_of xs c

-- what stands in a cluster behind its core (Table 1c, `postcore`; rules GB9 and GB9a: no break before Extend, ZWJ and SpacingMark)
abbrev pub postcore : ℕ → Bool
postcore c = has break_extend c || (has break_zwj c || has break_spacing_mark c)

-- what does not end a cluster: what stands before its core (Table 1c, `precore`; rule GB9b: no break after Prepend), and ZWJ (rule GB11)
abbrev pub unended : ℕ → Bool
unended c = has break_prepend c || has break_zwj c

-- Where the Rust differs, by name (docs/DIFFERENCES.md):
-- CGJ is Extend, and a start: the Rust puts it before a character that is none
abbrev pub starts_as_rust : List ℕ
starts_as_rust = 0x34f ∷ []

-- ARABIC POUND MARK ABOVE and ARABIC PIASTRE MARK ABOVE are Prepend, and ends: the Rust's lists lack them
abbrev pub ends_as_rust : List ℕ
ends_as_rust = 0x890 ∷ 0x891 ∷ []

-- a start: ASCII or no nonstarter by the page, and nothing that goes behind a core
unfoldable pub start_by_uax29 : List ℕ → ℕ → Bool
start_by_uax29 p c = (ltb c 0x80 || not (nonstarter p c)) && not (postcore c && not (is_one_of starts_as_rust c))

-- an end
unfoldable pub end_by_uax29 : ℕ → Bool
end_by_uax29 c = not (unended c && not (is_one_of ends_as_rust c))
