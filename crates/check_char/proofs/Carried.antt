-- What a refusal by 4 carries, reason by reason, for every character, with the option on or off.
--     carries-it              reasons 2, 3 and 13: the character
--     carries_replacements    reason 16: the character, how many replacements, and these
--     carries_nothing         any other reason
use Prim.Native.Nat.{ℕ}
use mathlib.Core.Path.{◌≡◌, refl, ap, ◌∙◌}
use mathlib.Core.Bool.{Bool, true, false}
use mathlib.Core.List.{List, [], ◌∷◌}
use borrow.Author.Tests.{ne_eqb}
use lib.Dec.{eqb}
use lib.ListN.{length, get_or}
use Rattle.scalars.specs.Chars.{is_char}
use Rattle.replace.specs.declared.Replaced.{Replaced}
use Rattle.replace.specs.declared.Replaced.TheVariants.{One, Two, Three}
use Rattle.replace.specs.Replace.{chars, replace_of}
use Rattle.check_char.specs.Check.{reason_of, list_numbers, three_and_count, carried, check_answer}

-- how many, and three of them, 0 past that many
abbrev three : List ℕ → List ℕ
three l = length l ∷ get_or l 0 0 ∷ get_or l 1 0 ∷ get_or l 2 0 ∷ []

list_three : (r : Replaced) → list_numbers (three_and_count r) ≡ three (chars r)
list_three (One a) = refl
list_three (Two a b) = refl
list_three (Three a b c) = refl

module _ (units : Bool) (c : ℕ) (char : is_char c ≡ true) where
  answered : (r : ℕ) → reason_of c ≡ r → eqb r 0 ≡ false → check_answer units c ≡ 4 ∷ r ∷ carried units r c
  answered r e n = simp (char, e, n)

  -- "reasons 2, 3, 13, 16 carry it"
  pub carries-it :
      (reason_of c ≡ 2 → check_answer units c ≡ 4 ∷ 2 ∷ c ∷ [])
      × (reason_of c ≡ 3 → check_answer units c ≡ 4 ∷ 3 ∷ c ∷ [])
      × (reason_of c ≡ 13 → check_answer units c ≡ 4 ∷ 13 ∷ c ∷ [])
  carries-it = (λ e. answered 2 e refl, λ e. answered 3 e refl, λ e. answered 13 e refl)

  -- "16 also its one to three replacements."
  pub carries_replacements : reason_of c ≡ 16 → check_answer units c ≡ 4 ∷ 16 ∷ c ∷ three (chars (replace_of units c))
  carries_replacements e = answered 16 e refl ∙ ap (λ (l : List ℕ). 4 ∷ 16 ∷ c ∷ l) (list_three (replace_of units c))

  pub carries_nothing : (r : ℕ) → reason_of c ≡ r → (r ≡ 0 → ⊥) → (r ≡ 2 → ⊥) → (r ≡ 3 → ⊥) → (r ≡ 13 → ⊥) → (r ≡ 16 → ⊥) →
      check_answer units c ≡ 4 ∷ r ∷ []
  carries_nothing r e n₀ n₂ n₃ n₁₃ n₁₆ =
      answered r e (ne_eqb r 0 n₀) ∙ simp (ne_eqb r 16 n₁₆, ne_eqb r 2 n₂, ne_eqb r 3 n₃, ne_eqb r 13 n₁₃)
