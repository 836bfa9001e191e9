-- Two tables that say the same of every number, by one test that antt computes over both.
--     agrees       a table's answers, by a test on them, are what two lists of spans say by a rule
--     spans_agree  the same of a third list of spans
--     alike_at     two tables of one kind, with one default
--     in_each      a list of spans as a table
--     or_parts     the parts of an `||`
--     same_truth   two tests that imply each other
use Prim.Native.Nat.{ℕ}
use mathlib.Core.Path.{◌≡◌, refl, sym, ◌∙◌}
use mathlib.Core.Bool.{Bool, true, false, not, cond, ◌||◌}
use mathlib.Core.List.{List, [], ◌∷◌}
use mathlib.Core.Logic.{◌⊎◌, inl, inr}
use lib.Dec.{T}
use Rattle.replace.specs.Table.{Span, Row, ◌gives◌, has, in_spans, lookup, each}
use Rattle.replace.proofs.Rows.{Piece, At, null, not_null, passes, finds, other, only, finds_one, clear, finds_none}

pub or_parts : (a b : Bool) → T (a || b) → T a ⊎ T b
or_parts true b t = inl tt
or_parts false b t = inr t

pub same_truth : (a b : Bool) → (T a → T b) → (T b → T a) → a ≡ b
same_truth true true f g = refl
same_truth true false f g = absurd (f tt)
same_truth false true f g = absurd (g tt)
same_truth false false f g = refl

abbrev pub same : Bool → Bool → Bool
same true b = b
same false b = not b

same→eq : (a b : Bool) → T (same a b) → a ≡ b
same→eq true true t = refl
same→eq true false t = absurd t
same→eq false true t = absurd t
same→eq false false t = refl

pub in_each : (ss : List Span) (c : ℕ) → lookup (each ss true []) false c ≡ in_spans ss c
in_each [] c = refl
in_each (s ∷ ss) c = go (has s c) (in_each ss c) where
  go : (b : Bool) {x y : Bool} → x ≡ y → cond b true x ≡ b || y
  go true e = refl
  go false e = e

-- The rule joins what the two lists say of a number.
module _ (rule : Bool → Bool → Bool) (ys zs : List Span) where
  -- at every number of the pieces the rule gives x: by what the second list says, where the first says y
  abbrev pub by_second : Bool → Bool → List Piece → Bool
  by_second x y = passes (λ z qs. null qs || same x (rule y z)) (λ qs. null qs || same x (rule y false)) (each zs true [])

  -- and by what the first says
  abbrev pub by_first : Bool → List Piece → Bool
  by_first x = passes (λ y qs. null qs || by_second x y qs) (λ qs. null qs || by_second x false qs) (each ys true [])

  module _ {A : Type 0} (f : A → Bool) where
    abbrev pub agree : List (Row A) → A → List Piece → Bool
    agree rs d = passes (λ a qs. null qs || by_first (f a) qs) (λ qs. null qs || by_first (f d) qs) rs

    module _ {c : ℕ} where
      second : (x y : Bool) (qs : List Piece) → At c qs → T (by_second x y qs) → x ≡ rule y (in_spans zs c)
      second x y qs i t =
          rw (in_each zs c) at
          (finds (λ z. x ≡ rule y z) (λ z ps. null ps || same x (rule y z)) (λ ps. null ps || same x (rule y false)) false
          (λ z ps j u. same→eq x (rule y z) (other (null ps) _ (not_null ps j) u))
          (λ ps j u. same→eq x (rule y false) (other (null ps) _ (not_null ps j) u)) (each zs true []) qs t i)

      first : (x : Bool) (qs : List Piece) → At c qs → T (by_first x qs) → x ≡ rule (in_spans ys c) (in_spans zs c)
      first x qs i t =
          rw (in_each ys c) at
          (finds (λ y. x ≡ rule y (in_spans zs c)) (λ y ps. null ps || by_second x y ps) (λ ps. null ps || by_second x false ps) false
          (λ y ps j u. second x y ps j (other (null ps) _ (not_null ps j) u))
          (λ ps j u. second x false ps j (other (null ps) _ (not_null ps j) u)) (each ys true []) qs t i)

      pub agrees : (rs : List (Row A)) (d : A) (qs : List Piece) → T (agree rs d qs) → At c qs →
          f (lookup rs d c) ≡ rule (in_spans ys c) (in_spans zs c)
      agrees rs d qs t i =
          finds (λ a. f a ≡ rule (in_spans ys c) (in_spans zs c)) (λ a ps. null ps || by_first (f a) ps) (λ ps. null ps || by_first (f d) ps) d
          (λ a ps j u. first (f a) ps j (other (null ps) _ (not_null ps j) u))
          (λ ps j u. first (f d) ps j (other (null ps) _ (not_null ps j) u)) rs qs t i

  pub spans_agree : {c : ℕ} (xs : List Span) (qs : List Piece) → T (agree (λ (b : Bool). b) (each xs true []) false qs) → At c qs →
      in_spans xs c ≡ rule (in_spans ys c) (in_spans zs c)
  spans_agree {c} xs qs t i = sym (in_each xs c) ∙ agrees (λ (b : Bool). b) (each xs true []) false qs t i

-- Where a row of the first table decides, the second gives its answer; where none does, none of the second does.
module _ {A : Type 0} (equal : A → A → Bool) (sound : (a b : A) → T (equal a b) → a ≡ b) (rs ss : List (Row A)) where
  abbrev pub alike : List Piece → Bool
  alike = passes (λ a qs. null qs || only equal sound a ss qs) (clear ss) rs

  pub alike_at : {c : ℕ} (d : A) (qs : List Piece) → T (alike qs) → At c qs → lookup rs d c ≡ lookup ss d c
  alike_at {c} d qs t i =
      finds (λ v. v ≡ lookup ss d c) (λ a ps. null ps || only equal sound a ss ps) (clear ss) d
      (λ a ps j u. finds_one equal sound a d ss ps (other (null ps) _ (not_null ps j) u) j) (λ ps j u. finds_none d ss ps u j) rs qs t i
