-- The tables rise: one test that antt computes for each, and the law of any rising list. The Rust's two tables that differ from
-- Unicode's are Unicode's without the characters that the Rust leaves out.
--     TABLE-rises                        the table rises: what `in_ranges` asks, and of its packed list `in_packed`
--     strictly                           so every table, Unicode's and the Rust's, rises strictly, and its ranges never overlap
--     no_cgj, no_cgj_rises               Grapheme_Extend without CGJ
--     as_in_rust, as_in_rust_rises       Prepended_Concatenation_Mark without 890 and 891
use mathlib.Core.Path.{◌≡◌, refl}
use mathlib.Core.Bool.{true}
use mathlib.Core.List.{List}
use Prim.Native.Nat.{ℕ}
use Rattle.ranges.specs.Ranges.{firsts_of, lasts_of, minus, rises, RisesStrictly}
use Rattle.ranges.proofs.Laws.{strictly_rising}
use Rattle.text_utils.specs.Tables.{grapheme_extend, emoji_modifier, spacing_mark, spacing_mark_exceptions, consonant_preceding_repha, consonant_prefixed, prepended_concatenation_mark, private_use}

abbrev pub no_cgj : List (ℕ × ℕ)
no_cgj = minus 0x34f 0x34f grapheme_extend

abbrev pub as_in_rust : List (ℕ × ℕ)
as_in_rust = minus 0x890 0x891 prepended_concatenation_mark

-- "rising order proved by one computed test and carried to membership": here, and of every table below
pub no_cgj_rises : rises 0 (firsts_of no_cgj) (lasts_of no_cgj) ≡ true
unfolding rises
no_cgj_rises = refl

pub as_in_rust_rises : rises 0 (firsts_of as_in_rust) (lasts_of as_in_rust) ≡ true
unfolding rises
as_in_rust_rises = refl

pub emoji_modifier_rises : rises 0 (firsts_of emoji_modifier) (lasts_of emoji_modifier) ≡ true
unfolding rises
emoji_modifier_rises = refl

pub spacing_mark_rises : rises 0 (firsts_of spacing_mark) (lasts_of spacing_mark) ≡ true
unfolding rises
spacing_mark_rises = refl

pub spacing_mark_exceptions_rises : rises 0 (firsts_of spacing_mark_exceptions) (lasts_of spacing_mark_exceptions) ≡ true
unfolding rises
spacing_mark_exceptions_rises = refl

pub consonant_preceding_repha_rises : rises 0 (firsts_of consonant_preceding_repha) (lasts_of consonant_preceding_repha) ≡ true
unfolding rises
consonant_preceding_repha_rises = refl

pub consonant_prefixed_rises : rises 0 (firsts_of consonant_prefixed) (lasts_of consonant_prefixed) ≡ true
unfolding rises
consonant_prefixed_rises = refl

prepended_rises : rises 0 (firsts_of prepended_concatenation_mark) (lasts_of prepended_concatenation_mark) ≡ true
unfolding rises
prepended_rises = refl

pub private_use_rises : rises 0 (firsts_of private_use) (lasts_of private_use) ≡ true
unfolding rises
private_use_rises = refl

grapheme_extend_rises : rises 0 (firsts_of grapheme_extend) (lasts_of grapheme_extend) ≡ true
unfolding rises
grapheme_extend_rises = refl

-- "In the grapheme and spacing-mark tables each list rises strictly and its ranges never overlap."
pub strictly :
    RisesStrictly (firsts_of no_cgj) (lasts_of no_cgj)
    × RisesStrictly (firsts_of grapheme_extend) (lasts_of grapheme_extend)
    × RisesStrictly (firsts_of emoji_modifier) (lasts_of emoji_modifier)
    × RisesStrictly (firsts_of spacing_mark) (lasts_of spacing_mark)
    × RisesStrictly (firsts_of spacing_mark_exceptions) (lasts_of spacing_mark_exceptions)
    × RisesStrictly (firsts_of consonant_preceding_repha) (lasts_of consonant_preceding_repha)
    × RisesStrictly (firsts_of consonant_prefixed) (lasts_of consonant_prefixed)
    × RisesStrictly (firsts_of as_in_rust) (lasts_of as_in_rust)
    × RisesStrictly (firsts_of prepended_concatenation_mark) (lasts_of prepended_concatenation_mark)
    × RisesStrictly (firsts_of private_use) (lasts_of private_use)
strictly = (
  strictly_rising 0 _ _ no_cgj_rises,
  strictly_rising 0 _ _ grapheme_extend_rises,
  strictly_rising 0 _ _ emoji_modifier_rises,
  strictly_rising 0 _ _ spacing_mark_rises,
  strictly_rising 0 _ _ spacing_mark_exceptions_rises,
  strictly_rising 0 _ _ consonant_preceding_repha_rises,
  strictly_rising 0 _ _ consonant_prefixed_rises,
  strictly_rising 0 _ _ as_in_rust_rises,
  strictly_rising 0 _ _ prepended_rises,
  strictly_rising 0 _ _ private_use_rises,
)
