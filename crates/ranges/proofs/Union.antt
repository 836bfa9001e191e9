-- Tables of ranges taken together, and a test that two tables have the same numbers: each is put in order and ranges that meet are made
-- one; two tables that come to the same list have the same members. No law here asks for a rising table.
--     lists             whether a table has a number
--     union             two tables put into one, by their firsts
--     lists_union       its numbers are those of the two
--     without           a table without the numbers of another
--     lists_without     its numbers are those of the one and not of the other
--     joined            ranges that overlap or adjoin made one
--     lists_joined      its numbers are the same
--     same_numbers      two tables that are the same when joined have the same numbers
use mathlib.Core.Path.{◌≡◌, refl, sym, ap, ◌∙◌}
use mathlib.Core.Bool.{Bool, true, false, not, cond, ◌&&◌, ◌||◌, and-true, and-false, or_assoc, or-true}
use mathlib.Core.List.{List, [], ◌∷◌}
use Prim.Native.Nat.{ℕ, suc, min, max, ◌≤◌}
use native.Mathlib.Omega.{arith}
use lib.Dec.{leb}
use borrow.Author.Tests.{le-leb, lt-leb, leb-true}
use Rattle.common.proofs.Kit.{by_lt, both_true}
use Rattle.ranges.specs.Ranges.{member, firsts_of, lasts_of, minus}
use Rattle.ranges.proofs.Minus.{member_minus}

abbrev pub lists : List (ℕ × ℕ) → ℕ → Bool
lists t c = member (firsts_of t) (lasts_of t) c

-- c lies from a to b
abbrev within : ℕ → ℕ → ℕ → Bool
within a b c = leb a c && leb c b

-- ---- two tables as one
-- the first list where the test holds, else the second
abbrev pick : Bool → List (ℕ × ℕ) → List (ℕ × ℕ) → List (ℕ × ℕ)
pick true s t = s
pick false s t = t

-- r, with what `rest` makes of the ranges that begin after it, behind those of the table that begin before it
abbrev along : ℕ × ℕ → (List (ℕ × ℕ) → List (ℕ × ℕ)) → List (ℕ × ℕ) → List (ℕ × ℕ)
along r rest [] = r ∷ rest []
along r rest (q ∷ t) = pick (leb r.0 q.0) (r ∷ rest (q ∷ t)) (q ∷ along r rest t)

abbrev pub union : List (ℕ × ℕ) → List (ℕ × ℕ) → List (ℕ × ℕ)
union [] t = t
union (r ∷ s) t = along r (union s) t

swap : (x y z : Bool) → x || (y || z) ≡ y || (x || z)
swap true y z = sym (or-true y)
swap false y z = refl

lists_pick : (b : Bool) (s t : List (ℕ × ℕ)) (c : ℕ) (v : Bool) → lists s c ≡ v → lists t c ≡ v → lists (pick b s t) c ≡ v
lists_pick true s t c v p q = p
lists_pick false s t c v p q = q

module _ (r : ℕ × ℕ) (s : List (ℕ × ℕ)) (rest : List (ℕ × ℕ) → List (ℕ × ℕ)) (c : ℕ)
    (h : (t : List (ℕ × ℕ)) → lists (rest t) c ≡ lists s c || lists t c) where
  lists_along : (t : List (ℕ × ℕ)) → lists (along r rest t) c ≡ (within r.0 r.1 c || lists s c) || lists t c
  unfolding member
  lists_along [] =
      ap (λ (b : Bool). within r.0 r.1 c || b) (h []) ∙ sym (or_assoc (within r.0 r.1 c) (lists s c) false)
  lists_along (q ∷ t) =
      lists_pick (leb r.0 q.0) (r ∷ rest (q ∷ t)) (q ∷ along r rest t) c _
      (ap (λ (b : Bool). within r.0 r.1 c || b) (h (q ∷ t)) ∙ sym (or_assoc (within r.0 r.1 c) (lists s c) (lists (q ∷ t) c)))
      (ap (λ (b : Bool). within q.0 q.1 c || b) (lists_along t)
      ∙ swap (within q.0 q.1 c) (within r.0 r.1 c || lists s c) (lists t c))

pub lists_union : (s t : List (ℕ × ℕ)) (c : ℕ) → lists (union s t) c ≡ lists s c || lists t c
unfolding member
lists_union [] t c = refl
lists_union (r ∷ s) t c = lists_along r s (union s) c (λ u. lists_union s u c) t

-- ---- one table without another
abbrev pub without : List (ℕ × ℕ) → List (ℕ × ℕ) → List (ℕ × ℕ)
without [] t = t
without (r ∷ s) t = minus r.0 r.1 (without s t)

neither : (x y z : Bool) → (x && not y) && not z ≡ x && not (z || y)
neither x y true = and-false (x && not y) ∙ sym (and-false x)
neither x y false = and-true (x && not y)

pub lists_without : (s t : List (ℕ × ℕ)) (c : ℕ) → lists (without s t) c ≡ lists t c && not (lists s c)
unfolding member
lists_without [] t c = sym (and-true (lists t c))
lists_without (r ∷ s) t c =
    member_minus r.0 r.1 (without s t) c
    ∙ ap (λ (b : Bool). b && not (within r.0 r.1 c)) (lists_without s t c)
    ∙ neither (lists t c) (lists s c) (within r.0 r.1 c)

-- ---- ranges that meet made one
-- the range so far in front, unless it goes on
abbrev emit : Bool → ℕ → ℕ → List (ℕ × ℕ) → List (ℕ × ℕ)
emit true a b rest = rest
emit false a b rest = (a, b) ∷ rest

-- two ranges overlap or adjoin
abbrev meets : ℕ → ℕ → ℕ × ℕ → Bool
meets a b q = leb q.0 (suc b) && leb a (suc q.1)

-- the range so far goes from a to b
abbrev joined_from : ℕ → ℕ → List (ℕ × ℕ) → List (ℕ × ℕ)
joined_from a b [] = (a, b) ∷ []
joined_from a b (q ∷ t) =
    emit (meets a b q) a b (joined_from (cond (meets a b q) (min a q.0) q.0) (cond (meets a b q) (max b q.1) q.1) t)

abbrev pub joined : List (ℕ × ℕ) → List (ℕ × ℕ)
joined [] = []
joined (r ∷ t) = joined_from r.0 r.1 t

-- two ranges that meet, as one
meet : (a b f l c : ℕ) → f ≤ suc b → a ≤ suc l → within (min a f) (max b l) c ≡ within a b c || within f l c
meet a b f l c h k =
    by_lt c (min a f)
    (λ m. simp (lt-leb (min a f) c m, lt-leb a c (omega arith), lt-leb f c (omega arith)))
    (λ m. by_lt (max b l) c
    (λ n. simp (lt-leb c (max b l) n, lt-leb c b (omega arith), lt-leb c l (omega arith), and-false))
    (λ n. by_lt c a
    (λ o. simp (le-leb (min a f) c m, le-leb c (max b l) n, le-leb f c (omega arith), le-leb c l (omega arith), or-true))
    (λ o. by_lt b c
    (λ q. simp (le-leb (min a f) c m, le-leb c (max b l) n, le-leb f c (omega arith), le-leb c l (omega arith), or-true))
    (λ q. simp (le-leb (min a f) c m, le-leb c (max b l) n, le-leb a c o, le-leb c b q)))))

lists_emit : (e : Bool) (a b : ℕ) (q : ℕ × ℕ) (t : List (ℕ × ℕ)) (c : ℕ) → meets a b q ≡ e
    → ((x y : ℕ) → lists (joined_from x y t) c ≡ within x y c || lists t c)
    → lists (emit e a b (joined_from (cond e (min a q.0) q.0) (cond e (max b q.1) q.1) t)) c
    ≡ within a b c || (within q.0 q.1 c || lists t c)
unfolding member
lists_emit true a b q t c m h =
    let p = both_true (leb q.0 (suc b)) (leb a (suc q.1)) m in
    h (min a q.0) (max b q.1)
    ∙ ap (λ (x : Bool). x || lists t c) (meet a b q.0 q.1 c (leb-true _ _ p.0) (leb-true _ _ p.1))
    ∙ or_assoc (within a b c) (within q.0 q.1 c) (lists t c)
lists_emit false a b q t c m h = ap (λ (x : Bool). within a b c || x) (h q.0 q.1)

lists_from : (a b : ℕ) (t : List (ℕ × ℕ)) (c : ℕ) → lists (joined_from a b t) c ≡ within a b c || lists t c
unfolding member
lists_from a b [] c = refl
lists_from a b (q ∷ t) c = lists_emit (meets a b q) a b q t c refl (λ x y. lists_from x y t c)

pub lists_joined : (t : List (ℕ × ℕ)) (c : ℕ) → lists (joined t) c ≡ lists t c
unfolding member
lists_joined [] c = refl
lists_joined (r ∷ t) c = lists_from r.0 r.1 t c

pub same_numbers : (s t : List (ℕ × ℕ)) → joined s ≡ joined t → (c : ℕ) → lists s c ≡ lists t c
same_numbers s t e c = sym (lists_joined s c) ∙ ap (λ (u : List (ℕ × ℕ)). lists u c) e ∙ lists_joined t c
