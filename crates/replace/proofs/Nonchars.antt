-- The list of the noncharacters has exactly those of the rule. Idea: but for its last span it is a span for each plane, in order, and
-- the plane of a number is its quotient by 10000.
--     nonchars_are    for every character
use Prim.Native.Nat.{ℕ, zero, suc, ◌+◌, ◌*◌, ◌/◌, ◌%◌, ◌≤◌, ◌<◌}
use mathlib.Core.Path.{◌≡◌, refl, ap, ◌∙◌}
use mathlib.Core.Bool.{Bool, true, false, ◌&&◌, ◌||◌}
use mathlib.Core.List.{List, [], ◌∷◌, ◌++◌}
use mathlib.Core.Logic.{◌⊎◌, inl, inr}
use native.Mathlib.Omega.{arith}
use lib.Dec.{T, leb, leb→le, le→leb}
use Rattle.common.proofs.Kit.{by_lt}
use Rattle.replace.specs.Table.{Span, ◌to◌, has, in_spans}
use Rattle.replace.specs.Replace.{nonchars}
use Rattle.replace.specs.Nonchars.{non_character}
use Rattle.replace.proofs.Rows.{and_l, and_r, and_i, or_l, or_r}
use Rattle.replace.proofs.Spans.{or_parts, same_truth}

-- the last two of plane k
abbrev last_two : ℕ → Span
last_two k = (k * 0x10000 + 0xfffe) to (k * 0x10000 + 0xffff)

-- the same of n planes, from plane k on
abbrev planes : ℕ → ℕ → List Span
planes k zero = []
planes k (suc n) = last_two k ∷ planes (suc k) n

abbrev others : List Span
others = 0xfdd0 to 0xfdef ∷ []

-- plane by plane, then the others
by_planes : nonchars ≡ planes 0 17 ++ others
by_planes = refl

or-false : (b : Bool) → b || false ≡ b
or-false true = refl
or-false false = refl

module _ (c : ℕ) where
  last_two_lem : (k : ℕ) → T (has (last_two k) c) → T (leb 0xfffe (c % 0x10000))
  last_two_lem k t =
      let l : k * 0x10000 + 0xfffe ≤ c = leb→le (k * 0x10000 + 0xfffe) c (and_l (leb (k * 0x10000 + 0xfffe) c) (leb c (k * 0x10000 + 0xffff)) t) in
      let r : c ≤ k * 0x10000 + 0xffff = leb→le c (k * 0x10000 + 0xffff) (and_r (leb (k * 0x10000 + 0xfffe) c) (leb c (k * 0x10000 + 0xffff)) t) in
      le→leb 0xfffe (c % 0x10000) (omega arith)

  of_rule : (k n : ℕ) → T (in_spans (planes k n ++ others) c) → T (leb 0xfffe (c % 0x10000)) ⊎ T (in_spans others c)
  of_rule k zero t = inr t
  of_rule k (suc n) t =
      elim (or_parts (has (last_two k) c) (in_spans (planes (suc k) n ++ others) c) t) [
        | inl h ↦ inl (last_two_lem k h)
        | inr h ↦ of_rule (suc k) n h
      ]

  behind : (k n : ℕ) → T (in_spans others c) → T (in_spans (planes k n ++ others) c)
  behind k zero t = t
  behind k (suc n) t = or_r (has (last_two k) c) _ (behind (suc k) n t)

  from : (k n : ℕ) → k ≤ c / 0x10000 → c / 0x10000 < k + n → 0xfffe ≤ c % 0x10000 → T (in_spans (planes k n ++ others) c)
  from k zero a b h = absurd (omega arith)
  from k (suc n) a b h =
      by_lt k (c / 0x10000) (λ l. or_r (has (last_two k) c) _ (from (suc k) n l (omega arith) h))
      (λ g.
      or_l (has (last_two k) c) _
      (and_i (leb (k * 0x10000 + 0xfffe) c) (leb c (k * 0x10000 + 0xffff)) (le→leb (k * 0x10000 + 0xfffe) c (omega arith))
      (le→leb c (k * 0x10000 + 0xffff) (omega arith))))

  abbrev between : Bool
  between = leb 0xfdd0 c && leb c 0xfdef

  into : T (leb 0xfffe (c % 0x10000)) ⊎ T (between || false) → T (non_character c)
  into (inl t) = or_l (leb 0xfffe (c % 0x10000)) between t
  into (inr t) = or_r (leb 0xfffe (c % 0x10000)) between (rw (or-false between) at t)

  pub nonchars_are : c < 0x110000 → in_spans nonchars c ≡ non_character c
  nonchars_are h =
      ap (λ (l : List Span). in_spans l c) by_planes ∙
      same_truth (in_spans (planes 0 17 ++ others) c) (non_character c) (λ t. into (of_rule 0 17 t))
      (λ t.
      elim (or_parts (leb 0xfffe (c % 0x10000)) between t) [
        | inl l ↦ from 0 17 (omega arith) (omega arith) (leb→le 0xfffe (c % 0x10000) l)
        | inr r ↦ behind 0 17 (or_l between false r)
      ])
