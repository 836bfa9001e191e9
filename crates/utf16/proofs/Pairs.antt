-- Unpaired surrogates and characters as a list of units is read, unit by unit and pair by pair.
--     neither            the parts of an `||` that does not hold
--     surrogate_range    the surrogates are one range
--     low_bounds, high_bounds, low_of, high_of    the ranges of low and of high ones, both ways
--     low_not_high, high_not_low                  none is both
--     zero_plain, zero_no_low                     0, which stands where there is no unit, is none
--     plain_turn         what a unit that is no surrogate adds: nothing
--     pair_turn          what a pair adds: one low surrogate
--     unpaired_turn      any other surrogate is unpaired
--     length_chars       each unit but a low surrogate gives a character
use Prim.Native.Nat.{ℕ, suc, ◌+◌, ◌≤◌}
use mathlib.Core.Path.{◌≡◌, refl, sym, ◌∙◌}
use mathlib.Core.Bool.{Bool, true, false, ◌&&◌, ◌||◌}
use mathlib.Core.List.{List, [], ◌∷◌}
use native.Mathlib.Omega.{arith}
use borrow.Author.Tests.{le-leb, lt-leb, leb-true}
use lib.Dec.{leb}
use lib.ListN.{length}
use Rattle.common.proofs.Kit.{never, by, by_lt, both_true, both}
use Rattle.utf16.specs.Reading.{is_high, is_low, unpaired, next, unpaired_from, chars_in}
use Rattle.utf16.specs.Inner.{lows}

pub neither : (b c : Bool) → b || c ≡ false → (b ≡ false) × (c ≡ false)
neither true c h = never (sym h)
neither false c h = (refl, h)

-- ---- surrogates
pub surrogate_range : (u : ℕ) → is_high u || is_low u ≡ leb 0xD800 u && leb u 0xDFFF
unfolding is_high is_low
surrogate_range u =
    by_lt u 0xD800 (λ a. simp (lt-leb 0xD800 u a, lt-leb 0xDC00 u (omega arith)))
    (λ a. by_lt 0xDBFF u
    (λ b. simp (le-leb 0xD800 u a, lt-leb u 0xDBFF b, le-leb 0xDC00 u (omega arith)))
    (λ b. simp (le-leb 0xD800 u a, le-leb u 0xDBFF b, le-leb u 0xDFFF (omega arith))))

pub low_bounds : (u : ℕ) → is_low u ≡ true → (0xDC00 ≤ u) × (u ≤ 0xDFFF)
unfolding is_low
low_bounds u h = let p = both_true (leb 0xDC00 u) (leb u 0xDFFF) h in (leb-true 0xDC00 u p.0, leb-true u 0xDFFF p.1)

pub high_bounds : (u : ℕ) → is_high u ≡ true → (0xD800 ≤ u) × (u ≤ 0xDBFF)
unfolding is_high
high_bounds u h = let p = both_true (leb 0xD800 u) (leb u 0xDBFF) h in (leb-true 0xD800 u p.0, leb-true u 0xDBFF p.1)

pub low_of : (u : ℕ) → 0xDC00 ≤ u → u ≤ 0xDFFF → is_low u ≡ true
unfolding is_low
low_of u h g = both (le-leb 0xDC00 u h) (le-leb u 0xDFFF g)

pub high_of : (u : ℕ) → 0xD800 ≤ u → u ≤ 0xDBFF → is_high u ≡ true
unfolding is_high
high_of u h g = both (le-leb 0xD800 u h) (le-leb u 0xDBFF g)

pub low_not_high : (u : ℕ) → is_low u ≡ true → is_high u ≡ false
low_not_high u h = by (is_high u) (λ g. absurd (omega (arith, low_bounds u h, high_bounds u g))) (λ g. g)

pub high_not_low : (u : ℕ) → is_high u ≡ true → is_low u ≡ false
high_not_low u h = by (is_low u) (λ g. absurd (omega (arith, low_bounds u g, high_bounds u h))) (λ g. g)

-- ---- unit by unit, pair by pair
behind_by : (i b : ℕ) (us : List ℕ) → is_high b ≡ is_high 0 → unpaired_from i b us ≡ unpaired_from i 0 us
unfolding unpaired
behind_by i b [] h = refl
behind_by i b (u ∷ us) h = rw h

pub zero_plain : is_high 0 ≡ false
unfolding is_high
zero_plain = refl

pub zero_no_low : is_low 0 ≡ false
unfolding is_low
zero_no_low = refl

behind_none : (i b : ℕ) (us : List ℕ) → is_high b ≡ false → unpaired_from i b us ≡ unpaired_from i 0 us
behind_none i b us h = behind_by i b us (h ∙ sym zero_plain)

module _ (i u : ℕ) (us : List ℕ) where
  pub plain_turn : is_high u ≡ false → is_low u ≡ false →
      (unpaired_from i 0 (u ∷ us) ≡ unpaired_from (suc i) 0 us) × (lows (u ∷ us) ≡ lows us)
  unfolding unpaired
  plain_turn h l = (rw (h, l) (behind_none (suc i) u us h), rw l)

  pub unpaired_turn : is_high u || is_low u ≡ true → is_high u && is_low (next us) ≡ false →
      unpaired_from i 0 (u ∷ us) ≡ i ∷ unpaired_from (suc i) u us
  unfolding unpaired
  unpaired_turn s p =
      by (is_high u) (λ h. rw (h, rw h at p))
      (λ h. rw (h, rw h at s, zero_plain))

pub pair_turn : (i u v : ℕ) (us : List ℕ) → is_high u ≡ true → is_low v ≡ true →
    (unpaired_from i 0 (u ∷ v ∷ us) ≡ unpaired_from (suc (suc i)) 0 us) × (lows (u ∷ v ∷ us) ≡ lows us + 1)
unfolding unpaired
pair_turn i u v us h l =
    (rw (h, l, high_not_low u h, low_not_high v l) (behind_none (suc (suc i)) v us (low_not_high v l)), rw (high_not_low u h, l))

pub length_chars : (us : List ℕ) → length (chars_in us) + lows us ≡ length us
length_chars [] = refl
length_chars (u ∷ us) = by (is_low u) (λ h. rw h (omega (arith, length_chars us))) (λ h. rw h (omega (arith, length_chars us)))
