-- What the two entries answer, by document 01's sentences written out, and as rows that antt computes. The rows' answers are the oracle's
-- (`L start` and `L end` of its scripts, behind `P` with the row's page).
--     start_order, end_order     by which number each refuses, and in which order
--     start_rows, end_rows       rows: each refusal, both at once, and characters of each class
use mathlib.Core.Path.{◌≡◌, refl}
use mathlib.Core.Bool.{Bool, true, false, not, cond, ◌&&◌, ◌||◌}
use mathlib.Core.List.{List, [], ◌∷◌, map}
use Prim.Native.Nat.{ℕ}
use lib.Dec.{leb, ltb}
use Rattle.common.specs.Answers.{refusal_in}
use Rattle.common.specs.Order.{◌when◌, first_of}
use Rattle.scalars.specs.Chars.{is_char}
use Rattle.ranges.specs.Ranges.{member, rises}
use Rattle.page.specs.Page.{sized, rising, nonstarter, assigned, accepted}
use Rattle.text_utils.specs.Classes.{starter, grapheme_extend_not_cgj, spacing_mark_plus, basic_text_start, basic_text_end, start_class, end_class}

-- "1 a value in D800..DFFF or above 10FFFF."
abbrev no_char : ℕ → Bool
no_char c = (leb 0xD800 c && leb c 0xDFFF) || ltb 0x10FFFF c

-- "Entries on one character give 1 (the start class 2, then 1)"
pub start_order : (p : List ℕ) (c : ℕ) → refusal_in (start_class p c) ≡ first_of (2 when not (accepted p) ∷ 1 when no_char c ∷ [])
unfolding is_char
start_order p c = go (accepted p) (no_char c) _
  where
    go : (a b : Bool) (n : ℕ) → refusal_in (cond a (cond (not b) (0 ∷ n ∷ []) (1 ∷ [])) (2 ∷ [])) ≡ first_of (2 when not a ∷ 1 when b ∷ [])
    go true true n = refl
    go true false n = refl
    go false b n = refl

pub end_order : (c : ℕ) → refusal_in (end_class c) ≡ first_of (1 when no_char c ∷ [])
unfolding is_char
end_order c = go (no_char c) _
  where
    go : (b : Bool) (n : ℕ) → refusal_in (cond (not b) (0 ∷ n ∷ []) (1 ∷ [])) ≡ first_of (1 when b ∷ [])
    go true n = refl
    go false n = refl

-- by this page each of the characters gets this answer
pub record Row : Type 0 where
  pub page : List ℕ
  pub chars : List ℕ
  pub answer : List ℕ

-- the answers of rows by an entry, and as the rows have them
abbrev pub answered : (List ℕ → ℕ → List ℕ) → List Row → List (List (List ℕ))
answered entry rows = map (λ (r : Row). map (λ (c : ℕ). entry r.page c) r.chars) rows

abbrev pub expected : List Row → List (List (List ℕ))
expected rows = map (λ (r : Row). map (λ (c : ℕ). r.answer) r.chars) rows

-- no nonstarters, and 0..377 assigned
abbrev plain : List ℕ
plain = 0 ∷ 1 ∷ 0 ∷ 0x377 ∷ []

-- 34F is not assigned
abbrev wrong : List ℕ
wrong = 0 ∷ 1 ∷ 0 ∷ 0x34E ∷ []

-- 7E..81 and E9 are nonstarters
abbrev marked : List ℕ
marked = 2 ∷ 1 ∷ 0x7E ∷ 0xE9 ∷ 0 ∷ 0x81 ∷ 0xE9 ∷ 0x377 ∷ []

abbrev starts : List Row
starts =
    -- ASCII, the last assigned, an unassigned, the last before the surrogates, the first behind them, the last
    record { page = plain; chars = 0 ∷ 0xA ∷ 0x20 ∷ 0x61 ∷ 0x7F ∷ 0x80 ∷ 0x377 ∷ 0x378 ∷ 0xD7FF ∷ 0xE000 ∷ 0x10FFFF ∷ []; answer = 0 ∷ 1 ∷ [] }
    -- Extend: both sides of CGJ; ZWNJ; an emoji modifier; a spacing mark that is Extend
    ∷ record { page = plain; chars = 0x300 ∷ 0x34E ∷ 0x350 ∷ 0x36F ∷ 0x200C ∷ 0x1F3FB ∷ 0x1F3FF ∷ 0x9BE ∷ 0xE01EF ∷ []; answer = 0 ∷ 0 ∷ [] }
    -- CGJ; the neighbours of Extend
    ∷ record { page = plain; chars = 0x34F ∷ 0x2FF ∷ 0x370 ∷ 0x200B ∷ 0x200E ∷ 0x1F3FA ∷ 0x1F400 ∷ []; answer = 0 ∷ 1 ∷ [] }
    -- ZWJ; SpacingMark, with the two that are no spacing marks
    ∷ record { page = plain; chars = 0x200D ∷ 0x903 ∷ 0x93E ∷ 0x940 ∷ 0xE33 ∷ 0xEB3 ∷ 0x1D16D ∷ []; answer = 0 ∷ 0 ∷ [] }
    -- spacing marks that UAX #29 excepts; the neighbours of the two
    ∷ record { page = plain; chars = 0x102B ∷ 0x102C ∷ 0x1038 ∷ 0x1A64 ∷ 0xAA7D ∷ 0x11721 ∷ 0xE32 ∷ 0xEB2 ∷ []; answer = 0 ∷ 1 ∷ [] }
    -- Prepend is a start
    ∷ record { page = plain; chars = 0x600 ∷ 0x890 ∷ 0xD4E ∷ []; answer = 0 ∷ 1 ∷ [] }
    -- nonstarters by the page: ASCII is a start all the same
    ∷ record { page = marked; chars = 0x61 ∷ 0x7E ∷ 0x7F ∷ 0x82 ∷ 0xE8 ∷ 0xEA ∷ []; answer = 0 ∷ 1 ∷ [] }
    ∷ record { page = marked; chars = 0x80 ∷ 0x81 ∷ 0xE9 ∷ 0x300 ∷ []; answer = 0 ∷ 0 ∷ [] }
    -- "1 a value in D800..DFFF or above 10FFFF."
    ∷ record { page = plain; chars = 0xD800 ∷ 0xDFFF ∷ 0x110000 ∷ 0xFFFFFFFF ∷ []; answer = 1 ∷ [] }
    -- "2 a wrong page.", with a character and with none
    ∷ record { page = wrong; chars = 0x61 ∷ 0x300 ∷ 0xD800 ∷ 0xDFFF ∷ 0x110000 ∷ []; answer = 2 ∷ [] }
    ∷ []

pub start_rows : answered start_class starts ≡ expected starts
unfolding is_char accepted sized rising nonstarter assigned member rises basic_text_start starter grapheme_extend_not_cgj spacing_mark_plus
start_rows = refl

abbrev ends : List Row
ends =
    record { page = []; chars = 0 ∷ 0xA ∷ 0x20 ∷ 0x61 ∷ 0x300 ∷ 0x34F ∷ 0x378 ∷ 0x200C ∷ 0x200E ∷ 0xD7FF ∷ 0xE000 ∷ 0x10FFFF ∷ []; answer = 0 ∷ 1 ∷ [] }
    -- ZWJ; Prepended_Concatenation_Mark; Consonant_Preceding_Repha; Consonant_Prefixed
    ∷ record { page = []; chars = 0x200D ∷ []; answer = 0 ∷ 0 ∷ [] }
    ∷ record { page = []; chars = 0x600 ∷ 0x605 ∷ 0x6DD ∷ 0x70F ∷ 0x8E2 ∷ 0x110BD ∷ 0x110CD ∷ []; answer = 0 ∷ 0 ∷ [] }
    ∷ record { page = []; chars = 0xD4E ∷ 0x11941 ∷ 0x11D46 ∷ 0x11F02 ∷ []; answer = 0 ∷ 0 ∷ [] }
    ∷ record { page = []; chars = 0x111C2 ∷ 0x111C3 ∷ 0x1193F ∷ 0x11A3A ∷ 0x11A84 ∷ 0x11A89 ∷ []; answer = 0 ∷ 0 ∷ [] }
    -- their neighbours
    ∷ record { page = []; chars = 0x5FF ∷ 0x606 ∷ 0xD4D ∷ 0xD4F ∷ 0x111C1 ∷ 0x111C4 ∷ 0x11A83 ∷ 0x11A8A ∷ 0x11F03 ∷ []; answer = 0 ∷ 1 ∷ [] }
    -- the two that the Rust's list lacks
    ∷ record { page = []; chars = 0x88F ∷ 0x890 ∷ 0x891 ∷ 0x892 ∷ []; answer = 0 ∷ 1 ∷ [] }
    -- "1 a value in D800..DFFF or above 10FFFF."
    ∷ record { page = []; chars = 0xD800 ∷ 0xDFFF ∷ 0x110000 ∷ 0xFFFFFFFF ∷ []; answer = 1 ∷ [] }
    ∷ []

-- an end is asked of no page
pub end_rows : answered (λ (p : List ℕ) (c : ℕ). end_class c) ends ≡ expected ends
unfolding is_char member basic_text_end
end_rows = refl
