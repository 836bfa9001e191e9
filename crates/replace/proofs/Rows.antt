-- A rule of a table of rows, proved at every number by one test that antt computes over the rows.
-- The test walks the rows with the pieces of the number line that no earlier row has; a piece is half-open.
use Prim.Native.Nat.{ℕ, zero, suc, min, max, ◌≤◌, ◌<◌}
use mathlib.Core.Path.{◌≡◌, refl, sym, subst}
use mathlib.Core.Bool.{Bool, true, false, not, cond, ◌&&◌, ◌||◌}
use mathlib.Core.List.{List, [], ◌∷◌}
use mathlib.Core.Logic.{◌⊎◌, inl, inr}
use native.Mathlib.Omega.{arith}
use lib.Dec.{T, leb, ltb, eqb, leb→le, nleb→lt, lt→ltb, eqb→eq, eqb_refl, not_T, T_not, le→leb}
use mir.Val.{has_key}
use types.Run.{OneOf, hit}
use Rattle.replace.specs.Table.{Span, ◌to◌, one, Row, ◌gives◌, has, in_spans, lookup}

-- the numbers x with low ≤ x < high
pub data Piece : Type 0 where
  ◌until◌ : ℕ → ℕ → Piece

infix 85 ◌until◌
pub data At (c : ℕ) : List Piece → Type 0 where
  here : {x y : ℕ} {ps : List Piece} → x ≤ c → c < y → At c (x until y ∷ ps)
  there : {p : Piece} {ps : List Piece} → At c ps → At c (p ∷ ps)

abbrev pub null : List Piece → Bool
null [] = true
null (p ∷ ps) = false

-- a piece in front, unless it is empty
abbrev pub add : ℕ → ℕ → List Piece → List Piece
add x y ps = cond (ltb x y) (x until y ∷ ps) ps

-- the span and the piece have a number in common
abbrev pub meets : Span → ℕ → ℕ → Bool
meets (a to b) x y = leb x b && ltb a y

abbrev pub inside : Span → List Piece → List Piece
inside s [] = []
inside (a to b) (x until y ∷ ps) =
    cond (meets (a to b) x y) (max x a until min y (suc b) ∷ inside (a to b) ps) (inside (a to b) ps)

abbrev pub outside : Span → List Piece → List Piece
outside s [] = []
outside (a to b) (x until y ∷ ps) =
    cond (meets (a to b) x y) (add x a (add (suc b) y (outside (a to b) ps))) (x until y ∷ outside (a to b) ps)

-- F passes at each row's answer with the pieces that find the row, and D at the pieces that find none
module _ {A : Type 0} where
  abbrev pub passes : (A → List Piece → Bool) → (List Piece → Bool) → List (Row A) → List Piece → Bool
  passes F D [] ps = D ps
  passes F D (s gives a ∷ rs) ps = F a (inside s ps) && passes F D rs (outside s ps)

pub and_l : (a b : Bool) → T (a && b) → T a
and_l true b t = tt
and_l false b t = t

pub and_i : (a b : Bool) → T a → T b → T (a && b)
and_i true b t u = u
and_i false b t u = t

pub and_r : (a b : Bool) → T (a && b) → T b
and_r true b t = t
and_r false b t = absurd t

step : {A : Type 0} (P : A → Type 0) (b : Bool) {a v : A} → (T b → P a) → (T (not b) → P v) → P (cond b a v)
step P true h m = h tt
step P false h m = m tt

module _ {c : ℕ} where
  add-here : (x y : ℕ) (ps : List Piece) → x ≤ c → c < y → At c (add x y ps)
  add-here x y ps h k = go (ltb x y) (lt→ltb x y (omega arith)) where
    go : (b : Bool) → T b → At c (cond b (x until y ∷ ps) ps)
    go true t = here h k
    go false t = absurd t

  add-there : (x y : ℕ) (ps : List Piece) → At c ps → At c (add x y ps)
  add-there x y ps i = go (ltb x y) where
    go : (b : Bool) → At c (cond b (x until y ∷ ps) ps)
    go true = there i
    go false = i

  inside_at : (s : Span) (ps : List Piece) → At c ps → T (has s c) → At c (inside s ps)
  inside_at (a to b) [] x6 t = elim x6 [ ]
  inside_at (a to b) (x until y ∷ ps) (here h k) t =
      let l : a ≤ c = leb→le a c (and_l (leb a c) (leb c b) t) in
      let r : c ≤ b = leb→le c b (and_r (leb a c) (leb c b) t) in
      step (At c) (meets (a to b) x y) (λ m. here {x = max x a} {y = min y (suc b)} (omega arith) (omega arith))
      (λ m. absurd (T_not (meets (a to b) x y) m (and_i (leb x b) (ltb a y) (le→leb x b (omega arith)) (lt→ltb a y (omega arith)))))
  inside_at (a to b) (x until y ∷ ps) (there i) t =
      step (At c) (meets (a to b) x y) (λ m. there (inside_at (a to b) ps i t)) (λ m. inside_at (a to b) ps i t)

  apart : (a b : ℕ) → T (not (leb a c && leb c b)) → (c < a) ⊎ (b < c)
  apart a b t = go (leb a c) (nleb→lt a c) t where
    go : (p : Bool) → (T (not p) → c < a) → T (not (p && leb c b)) → (c < a) ⊎ (b < c)
    go true f n = inr (nleb→lt c b n)
    go false f n = inl (f tt)

  outside_at : (s : Span) (ps : List Piece) → At c ps → T (not (has s c)) → At c (outside s ps)
  outside_at (a to b) [] x6 t = elim x6 [ ]
  outside_at (a to b) (x until y ∷ ps) (here h k) t =
      step (At c) (meets (a to b) x y)
      (λ m.
      elim (apart a b t) [
        | inl l ↦ add-here x a (add (suc b) y (outside (a to b) ps)) h l
        | inr r ↦ add-there x a (add (suc b) y (outside (a to b) ps)) (add-here (suc b) y (outside (a to b) ps) r k)
      ])
      (λ m. here h k)
  outside_at (a to b) (x until y ∷ ps) (there i) t =
      step (At c) (meets (a to b) x y)
      (λ m.
      add-there x a (add (suc b) y (outside (a to b) ps))
      (add-there (suc b) y (outside (a to b) ps) (outside_at (a to b) ps i t)))
      (λ m. there (outside_at (a to b) ps i t))

  pub not_null : (ps : List Piece) → At c ps → T (null ps) → ⊥
  not_null [] i t = elim i [ ]
  not_null (p ∷ ps) i t = t

  module _ {A : Type 0} (P : A → Type 0) where
    -- the law: what the test says of each row and of no row holds of what c finds
    pub finds :
        (F : A → List Piece → Bool) (D : List Piece → Bool) (d : A) →
        ((a : A) (qs : List Piece) → At c qs → T (F a qs) → P a) →
        ((qs : List Piece) → At c qs → T (D qs) → P d) →
        (rs : List (Row A)) (ps : List Piece) → T (passes F D rs ps) → At c ps → P (lookup rs d c)
    finds F D d hit miss [] ps t i = miss ps i t
    finds F D d hit miss (s gives a ∷ rs) ps t i =
        step P (has s c)
        (λ h. hit a (inside s ps) (inside_at s ps i h) (and_l (F a (inside s ps)) (passes F D rs (outside s ps)) t))
        (λ n. finds F D d hit miss rs (outside s ps) (and_r (F a (inside s ps)) (passes F D rs (outside s ps)) t) (outside_at s ps i n))

-- ---- a match on a number: its keys and what is left of them

-- the pieces of some keys
abbrev pub points : List ℕ → List Piece
points [] = []
points (k ∷ ks) = k until suc k ∷ points ks

abbrev pub without : List ℕ → List Piece → List Piece
without [] ps = ps
without (k ∷ ks) ps = without ks (outside (one k) ps)

-- what `rest` of a match says, with the arms' keys from the last arm to the first
abbrev pub None : List (List ℕ) → ℕ → Type 0
None [] c = Unit {0}
None (ks ∷ kss) c = None kss c × (OneOf ks c → ⊥)

abbrev pub free : List (List ℕ) → List Piece → List Piece
free [] ps = ps
free (ks ∷ kss) ps = free kss (without ks ps)

pub or_l : (a b : Bool) → T a → T (a || b)
or_l true b t = tt
or_l false b t = absurd t

pub or_r : (a b : Bool) → T b → T (a || b)
or_r true b t = tt
or_r false b t = t

pub other : (p q : Bool) → (T p → ⊥) → T (p || q) → T q
other true q f u = absurd (f tt)
other false q f u = u

module _ {c : ℕ} where
  pub points_at : (ks : List ℕ) → OneOf ks c → At c (points ks)
  points_at [] o = absurd o
  points_at (k ∷ []) o = here {x = k} {y = suc k} (omega arith) (omega arith)
  points_at (k ∷ j ∷ ks) (inl e) = here {x = k} {y = suc k} (omega arith) (omega arith)
  points_at (k ∷ j ∷ ks) (inr o) = there (points_at (j ∷ ks) o)

  without_at : (ks : List ℕ) (ps : List Piece) → (T (has_key ks c) → ⊥) → At c ps → At c (without ks ps)
  without_at [] ps n i = i
  without_at (k ∷ ks) ps n i =
      without_at ks (outside (one k) ps) (λ t. n (or_r (eqb k c) (has_key ks c) t))
      (outside_at (one k) ps i (not_T (has (one k) c) (λ t. n (or_l (eqb k c) (has_key ks c) (same t)))))
    where
      same : T (leb k c && leb c k) → T (eqb k c)
      same t =
          let l : k ≤ c = leb→le k c (and_l (leb k c) (leb c k) t) in
          let r : c ≤ k = leb→le c k (and_r (leb k c) (leb c k) t) in
          subst (λ (n : ℕ). T (eqb k n)) (omega arith) (eqb_refl k)

  pub free_at : (kss : List (List ℕ)) (ps : List Piece) → None kss c → At c ps → At c (free kss ps)
  free_at [] ps n i = i
  free_at (ks ∷ kss) ps n i = free_at kss (without ks ps) n.0 (without_at ks ps (λ t. n.1 (hit ks c t)) i)

-- where every piece finds the answer a, by a test of equality
module _ {A : Type 0} (same : A → A → Bool) (sound : (a b : A) → T (same a b) → a ≡ b) where
  abbrev pub only : A → List (Row A) → List Piece → Bool
  only a = passes (λ b qs. null qs || same b a) null

  pub finds_one : {c : ℕ} (a d : A) (rs : List (Row A)) (ps : List Piece) → T (only a rs ps) → At c ps → a ≡ lookup rs d c
  finds_one {c} a d rs ps t i =
      finds (λ v. a ≡ v) (λ b qs. null qs || same b a) null d
      (λ b qs j u. sym (sound b a (other (null qs) (same b a) (not_null qs j) u)))
      (λ qs j u. absurd (not_null qs j u)) rs ps t i

-- where no piece finds a row
abbrev pub clear : {A : Type 0} → List (Row A) → List Piece → Bool
clear = passes (λ b qs. null qs) (λ qs. true)

pub finds_none :
    {A : Type 0} {c : ℕ} (d : A) (rs : List (Row A)) (ps : List Piece) →
    T (clear rs ps) → At c ps → d ≡ lookup rs d c
finds_none {A} {c} d rs ps t i =
    finds (λ v. d ≡ v) (λ b qs. null qs) (λ qs. true) d (λ b qs j u. absurd (not_null qs j u)) (λ qs j u. refl) rs ps t i

-- ---- spans that cover the pieces
abbrev pub uncovered : List Span → List Piece → List Piece
uncovered [] ps = ps
uncovered (s ∷ ss) ps = uncovered ss (outside s ps)

pub covered : {c : ℕ} (ss : List Span) (ps : List Piece) → At c ps → T (null (uncovered ss ps)) → T (in_spans ss c)
covered [] ps i t = absurd (not_null ps i t)
covered {c} (s ∷ ss) ps i t = go (has s c) (λ n. covered ss (outside s ps) (outside_at s ps i n) t) where
  go : (b : Bool) → (T (not b) → T (in_spans ss c)) → T (b || in_spans ss c)
  go true f = tt
  go false f = f tt

-- ---- what holds of every row's answer, and of the default, holds of what any number finds
module _ {A : Type 0} (f : A → Bool) where
  abbrev pub all_rows : List (Row A) → Bool
  all_rows [] = true
  all_rows (s gives a ∷ rs) = f a && all_rows rs

  pub any_finds : (rs : List (Row A)) (d : A) (c : ℕ) → T (all_rows rs) → T (f d) → T (f (lookup rs d c))
  any_finds [] d c t u = u
  any_finds (s gives a ∷ rs) d c t u =
      step (λ v. T (f v)) (has s c) (λ h. and_l (f a) (all_rows rs) t) (λ n. any_finds rs d c (and_r (f a) (all_rows rs) t) u)

pub at_point : {k m n : ℕ} → At k (m until n ∷ []) → n ≤ suc m → k ≡ m
at_point (here h l) e = omega arith
at_point (there i) e = absurd (not_null [] i tt)

-- ---- the ways of a match that are intervals: one test for all of them
pub data Way (A : Type 0) : Type 0 where
  finding : ℕ → ℕ → A → Way A
  outside_all : ℕ → ℕ → Way A

module _ {A : Type 0} where
  -- what a way says of the value v that c finds, with the default d
  abbrev pub Holds : Way A → ℕ → A → A → Type 0
  Holds (finding lo hi a) c d v = (lo ≤ c) × (c < hi) → a ≡ v
  Holds (outside_all lo hi) c d v = (lo ≤ c) × (c < hi) → d ≡ v

  abbrev pub nth : List (Way A) → ℕ → Way A
  nth [] i = outside_all 0 0
  nth (w ∷ ws) zero = w
  nth (w ∷ ws) (suc i) = nth ws i

module _ {A : Type 0} (same : A → A → Bool) (sound : (a b : A) → T (same a b) → a ≡ b) (rs : List (Row A)) (keys : List (List ℕ)) where
  abbrev pub right : Way A → Bool
  right (finding lo hi a) = only same sound a rs (free keys (lo until hi ∷ []))
  right (outside_all lo hi) = clear rs (free keys (lo until hi ∷ []))

  abbrev pub all_right : List (Way A) → Bool
  all_right [] = true
  all_right (w ∷ ws) = right w && all_right ws

  holds : (w : Way A) (c : ℕ) (d : A) → T (right w) → None keys c → Holds w c d (lookup rs d c)
  holds (finding lo hi a) c d t n =
      λ w. finds_one same sound a d rs (free keys (lo until hi ∷ [])) t (free_at keys (lo until hi ∷ []) n (here w.0 w.1))
  holds (outside_all lo hi) c d t n =
      λ w. finds_none d rs (free keys (lo until hi ∷ [])) t (free_at keys (lo until hi ∷ []) n (here w.0 w.1))

  pub way_holds : (ws : List (Way A)) (c : ℕ) (d : A) → T (all_right ws) → None keys c → (i : ℕ) → Holds (nth ws i) c d (lookup rs d c)
  way_holds [] c d t n i = λ w. absurd (not_null [] (empty w.1) tt) where
    empty : c < 0 → At c []
    empty l = absurd (omega arith)
  way_holds (w ∷ ws) c d t n zero = holds w c d (and_l (right w) (all_right ws) t) n
  way_holds (w ∷ ws) c d t n (suc i) = way_holds ws c d (and_r (right w) (all_right ws) t) n i
