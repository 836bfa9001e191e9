-- The classes at the characters on which all above them rests.
--     one_char             being a character, as a range of one
--     starts_clear, ends_clear     no table that a start, or an end, is tested by meets a span: one test, which antt computes
--     start_clear          in such a span a start is a starter, but for the three characters that are told by name
--     end_clear            in such a span every character but 200D is an end
--     start_low            below 300 a start is a starter
--     start_newline ..     on every accepted page 0A, 20 and 34F are starts
--     end_newline ..       0A, 20 and 34F are ends
--     private_use_lem          private use is the three areas of The Unicode Standard, section 23.5
--     class_back           an answer read back from its numbers: no two answers list alike
use mathlib.Core.Path.{◌≡◌, refl}
use mathlib.Core.Bool.{Bool, true, false, not, ◌&&◌, ◌||◌, and-true, or-false}
use mathlib.Core.List.{List, [], ◌∷◌}
use Prim.Native.Nat.{ℕ, ◌≤◌, ◌<◌}
use native.Mathlib.Omega.{arith}
use lib.Dec.{leb, eqb}
use borrow.Author.Tests.{eq-eqb, ne_eqb, le-leb, lt-leb}
use Rattle.common.proofs.Kit.{by_lt, both_true}
use Rattle.ranges.specs.Ranges.{member, firsts_of, lasts_of}
use Rattle.ranges.proofs.Laws.{clears, member_clear}
use Rattle.page.specs.Page.{accepted}
use Rattle.page.proofs.PageLaws.{facts_of_accepted}
use Rattle.text_utils.specs.Tables.{grapheme_extend, emoji_modifier, spacing_mark, consonant_preceding_repha, consonant_prefixed, prepended_concatenation_mark}
use Rattle.common.specs.declared.Refusal.TheVariants.{NotAChar}
use Rattle.common.proofs.Answers.{refusal_by, refusal_back}
use Rattle.text_utils.specs.Classes.{listed, starter, grapheme_extend_not_cgj, spacing_mark_plus, basic_text_start, basic_text_end, is_private_use, class_numbers}
use Rattle.common.specs.declared.Refusal.{Refusal}
use Rattle.std.specs.Prelude.{Result, Ok, Err}

-- being m, as a range of one character
pub one_char : (m c : ℕ) → leb m c && leb c m ≡ eqb c m
one_char m c =
    by_lt c m (λ h. simp (lt-leb m c h, ne_eqb c m (λ e. omega arith)))
    (λ g. by_lt m c (λ h. simp (le-leb m c g, lt-leb c m h, ne_eqb c m (λ e. omega arith)))
    (λ h. simp (le-leb m c g, le-leb c m h, eq-eqb c m (omega arith))))

module _ (lo hi : ℕ) where
  -- no range of the table meets the span
  abbrev clear_of : List (ℕ × ℕ) → Bool
  clear_of t = clears lo hi (firsts_of t) (lasts_of t)

  none : (u : List (ℕ × ℕ)) → clear_of u ≡ true → (c : ℕ) → lo ≤ c → c ≤ hi → listed u c ≡ false
  none u e c l h = member_clear lo hi c l h (firsts_of u) (lasts_of u) e

  -- no table that a start is tested by meets it
  abbrev pub starts_clear : Bool
  starts_clear = clear_of grapheme_extend && (clear_of emoji_modifier && clear_of spacing_mark)

  pub start_clear : starts_clear ≡ true → (p : List ℕ) (c : ℕ) → lo ≤ c → c ≤ hi
      → (c ≡ 0x200d → ⊥) → (c ≡ 0xe33 → ⊥) → (c ≡ 0xeb3 → ⊥) → basic_text_start p c ≡ starter p c
  unfolding basic_text_start grapheme_extend_not_cgj spacing_mark_plus
  start_clear t p c l h zwj am-thai am-lao =
      let x = both_true (clear_of grapheme_extend) (clear_of emoji_modifier && clear_of spacing_mark) t in
      let y = both_true (clear_of emoji_modifier) (clear_of spacing_mark) x.1 in
      simp (
        ne_eqb c 0x200d zwj,
        ne_eqb c 0xe33 am-thai,
        ne_eqb c 0xeb3 am-lao,
        none grapheme_extend x.0 c l h,
        none emoji_modifier y.0 c l h,
        none spacing_mark y.1 c l h,
        and-true,
      )

  -- no table that an end is tested by meets it
  abbrev pub ends_clear : Bool
  ends_clear = clear_of consonant_preceding_repha && (clear_of consonant_prefixed && clear_of prepended_concatenation_mark)

  pub end_clear : ends_clear ≡ true → (c : ℕ) → lo ≤ c → c ≤ hi → basic_text_end c ≡ not (eqb c 0x200d)
  unfolding basic_text_end
  end_clear t c l h =
      let x = both_true (clear_of consonant_preceding_repha) (clear_of consonant_prefixed && clear_of prepended_concatenation_mark) t in
      let y = both_true (clear_of consonant_prefixed) (clear_of prepended_concatenation_mark) x.1 in
      simp (
        none consonant_preceding_repha x.0 c l h,
        none consonant_prefixed y.0 c l h,
        none prepended_concatenation_mark y.1 c l h,
        and-true,
      )

pub start_low : (p : List ℕ) (c : ℕ) → c < 0x300 → basic_text_start p c ≡ starter p c
start_low p c h = start_clear 0 0x2ff refl p c (omega arith) (omega arith) (λ e. omega arith) (λ e. omega arith) (λ e. omega arith)

module _ (p : List ℕ) (a : accepted p ≡ true) where
  pub start_newline : basic_text_start p 0xa ≡ true
  unfolding starter
  start_newline = start_low p 0xa (omega arith)

  pub start_space : basic_text_start p 0x20 ≡ true
  unfolding starter
  start_space = start_low p 0x20 (omega arith)

  pub start_joiner : basic_text_start p 0x34f ≡ true
  unfolding basic_text_start starter grapheme_extend_not_cgj spacing_mark_plus member
  start_joiner = simp (facts_of_accepted p a).nonstarter_34f

pub end_newline : basic_text_end 0xa ≡ true
end_newline = end_clear 0 0x5ff refl 0xa (omega arith) (omega arith)

pub end_space : basic_text_end 0x20 ≡ true
end_space = end_clear 0 0x5ff refl 0x20 (omega arith) (omega arith)

pub end_joiner : basic_text_end 0x34f ≡ true
end_joiner = end_clear 0 0x5ff refl 0x34f (omega arith) (omega arith)

-- "an unassigned character outside private use": E000..F8FF, F0000..FFFFD and 100000..10FFFD
pub private_use_lem : (c : ℕ)
    → is_private_use c ≡ (leb 0xE000 c && leb c 0xF8FF) || ((leb 0xF0000 c && leb c 0xFFFFD) || (leb 0x100000 c && leb c 0x10FFFD))
unfolding is_private_use member
private_use_lem c = simp or-false

-- the answer of these numbers
abbrev pub class_of : List ℕ → Result Bool Refusal
class_of [] = Err NotAChar
class_of (n ∷ []) = Err (refusal_by n)
class_of (n ∷ b ∷ ns) = Ok (eqb b 1)

pub class_back : (a : Result Bool Refusal) → class_of (class_numbers a) ≡ a
class_back (Ok true) = refl
class_back (Ok false) = refl
class_back (Err e) = rw (refusal_back e)
