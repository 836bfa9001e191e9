-- The packed lists as they are stored. What a function of src/lists.rt answers is, by its contract, the packed list of its table; so it
-- rises strictly, without overlap, and has the table's members. One law for all (ranges, Packed), over the one test that antt computes for
-- each table (Rising).
--     Stored, stored_of     what is said of a list, and that the packed list of a table that rises has it
--     LIST-stored           of what each function answers
--     counts                as many numbers as the Rust's `matches!` has ranges
--     extend_cut            the ranges of Extend, one by one, in a file of Unicode of its own
use mathlib.Core.Path.{◌≡◌, refl}
use mathlib.Core.Bool.{true}
use mathlib.Core.List.{List, [], ◌∷◌}
use Prim.Native.Nat.{ℕ}
use lib.ListN.{length}
use Rattle.ranges.specs.Ranges.{firsts_of, lasts_of, minus, rises, RisesStrictly}
use Rattle.ranges.specs.Packed.{firsts_in, lasts_in, packed, StandsFor}
use Rattle.ranges.proofs.Laws.{strictly_rising}
use Rattle.ranges.proofs.Packed.{packed_stands, packable_of_rises, rises_packed}
use Rattle.text_utils.specs.Tables.{grapheme_extend, emoji_modifier, spacing_mark, spacing_mark_exceptions}
use Rattle.text_utils.specs.Breaks.{break_extend}
use Rattle.text_utils.proofs.Rising.{no_cgj, no_cgj_rises, emoji_modifier_rises, spacing_mark_rises, spacing_mark_exceptions_rises}
use Rattle.text_utils.proofs.lists.grapheme_extend_not_cgj.Reads as grapheme-extend-not-cgj
use Rattle.text_utils.proofs.lists.emoji_modifier.Reads as emoji-modifier
use Rattle.text_utils.proofs.lists.spacing_mark.Reads as spacing-mark
use Rattle.text_utils.proofs.lists.spacing_mark_exception.Reads as spacing-mark-exception

-- "Each list still rises without overlap, and every class answers as before for each character.": the list q of the table t
pub record Stored (t : List (ℕ × ℕ)) (q : List ℕ) : Type 0 where
  pub is_packed : q ≡ packed t
  pub strictly : RisesStrictly (firsts_in q) (lasts_in q)
  pub stands : StandsFor t q

stored_of : (t : List (ℕ × ℕ)) → rises 0 (firsts_of t) (lasts_of t) ≡ true → (q : List ℕ) → q ≡ packed t → Stored t q
stored_of t r q e =
    record {
      is_packed = e;
      strictly = strictly_rising 0 (firsts_in q) (lasts_in q) (rises_packed t r e);
      stands = rw e (packed_stands t (packable_of_rises 0 t r));
    }

-- "store each range as one 32-bit number .. with a list for each category": of Extend
pub grapheme_extend_not_cgj_stored : (κs : _) (a : _) (r : List ℕ) (s : _) → grapheme-extend-not-cgj.Post κs a r s
    → Stored (minus 0x34f 0x34f grapheme_extend) r
grapheme_extend_not_cgj_stored κs a r s h = stored_of no_cgj no_cgj_rises r h

pub emoji_modifier_stored : (κs : _) (a : _) (r : List ℕ) (s : _) → emoji-modifier.Post κs a r s
    → Stored emoji_modifier r
emoji_modifier_stored κs a r s h = stored_of emoji_modifier emoji_modifier_rises r h

-- and of SpacingMark
pub spacing_mark_stored : (κs : _) (a : _) (r : List ℕ) (s : _) → spacing-mark.Post κs a r s
    → Stored spacing_mark r
spacing_mark_stored κs a r s h = stored_of spacing_mark spacing_mark_rises r h

pub spacing_mark_exception_stored : (κs : _) (a : _) (r : List ℕ) (s : _) → spacing-mark-exception.Post κs a r s
    → Stored spacing_mark_exceptions r
spacing_mark_exception_stored κs a r s h = stored_of spacing_mark_exceptions spacing_mark_exceptions_rises r h

-- "store each range as one 32-bit number": the Rust's lists have 377, 1, 182 and 16 ranges
pub counts :
    length (packed no_cgj) ∷ length (packed emoji_modifier) ∷ length (packed spacing_mark) ∷ length (packed spacing_mark_exceptions) ∷ []
    ≡ 377 ∷ 1 ∷ 182 ∷ 16 ∷ []
counts = refl

-- GraphemeBreakProperty.txt has the same ranges for Extend, and the emoji modifiers as one more
pub extend_cut : (minus 0x1F3FB 0x1F3FF break_extend ≡ grapheme_extend) × (emoji_modifier ≡ (0x1F3FB, 0x1F3FF) ∷ [])
extend_cut = (refl, refl)
