-- A range is stored in as few numbers of 32 bits as will do (`fewest`). By counting: a number of 32 bits stands for at most 2,048
-- characters, so n of them have at most 2,048 * n between them, in any order and with any overlap.
use mathlib.Core.Path.{◌≡◌, refl, ap}
use mathlib.Core.Bool.{Bool, true, false, cond, ◌&&◌, ◌||◌}
use mathlib.Core.List.{List, [], ◌∷◌}
use Prim.Native.Nat.{ℕ, zero, suc, max, ◌+◌, ◌-◌, ◌*◌, ◌/◌, ◌^◌, ◌≤◌, ◌<◌}
use native.Mathlib.Omega.{arith}
use lib.Dec.{leb, ltb}
use lib.ListN.{length, length-append}
use borrow.Author.Tests.{le-leb, lt-leb, ltb-true}
use Rattle.common.proofs.Kit.{by_lt, both_true}
use Rattle.ranges.specs.Ranges.{member}
use Rattle.ranges.specs.Packed.{first_in, last_in, firsts_in, lasts_in, pieces, packed}
use Rattle.ranges.proofs.Packed.{of32}

-- how many of the k numbers from f on the test holds of
abbrev count : (ℕ → Bool) → ℕ → ℕ → ℕ
count p f zero = 0
count p f (suc k) = cond (p f) 1 0 + count p (suc f) k

count_all : (p : ℕ → Bool) (f k : ℕ) → ((c : ℕ) → f ≤ c → c < f + k → p c ≡ true) → count p f k ≡ k
count_all p f zero h = refl
count_all p f (suc k) h =
    rw (h f (omega arith) (omega arith), count_all p (suc f) k (λ c a b. h c (omega arith) (omega arith))) (omega arith)

count_or : (p q : ℕ → Bool) (f k : ℕ) → count (λ (c : ℕ). p c || q c) f k ≤ count p f k + count q f k
count_or p q f zero = omega arith
count_or p q f (suc k) = go (p f) (q f) _ _ _ (count_or p q (suc f) k)
  where
    go : (x y : Bool) (m a b : ℕ) → m ≤ a + b → cond (x || y) 1 0 + m ≤ cond x 1 0 + a + (cond y 1 0 + b)
    go true true m a b h = omega arith
    go true false m a b h = omega arith
    go false true m a b h = omega arith
    go false false m a b h = omega arith

-- of the numbers from a to b, those from f on
count_range : (a b f k : ℕ) → count (λ (c : ℕ). leb a c && leb c b) f k ≤ suc b - max a f
count_range a b f zero = omega arith
count_range a b f (suc k) =
    by_lt f a (λ s. rw (lt-leb a f s) (omega (arith, count_range a b (suc f) k)))
    (λ s. by_lt b f (λ t. rw (le-leb a f s, lt-leb f b t) (omega (arith, count_range a b (suc f) k)))
    (λ t. rw (le-leb a f s, le-leb f b t) (omega (arith, count_range a b (suc f) k))))

count_none : (f k : ℕ) → count (λ (c : ℕ). false) f k ≡ 0
count_none f zero = refl
count_none f (suc k) = omega (arith, count_none (suc f) k)

-- the length less one is what stands above 21 of 32 bits: below 2,048
at_most : (n : ℕ) → n < 2 ^ 32 → suc (last_in n) - first_in n ≤ 2048
unfolding first_in last_in
at_most n h = omega arith

count_member : (q : List ℕ) → of32 q ≡ true → (f k : ℕ) → count (member (firsts_in q) (lasts_in q)) f k ≤ 2048 * length q
unfolding member
count_member [] h f k = omega (arith, count_none f k)
count_member (n ∷ q) h f k =
    let t = both_true (ltb n (2 ^ 32)) (of32 q) h in
    omega (
      arith,
      count_or (λ (c : ℕ). leb (first_in n) c && leb c (last_in n)) (member (firsts_in q) (lasts_in q)) f k,
      count_range (first_in n) (last_in n) f k,
      at_most n (ltb-true n (2 ^ 32) t.0),
      count_member q t.1 f k,
    )

length_pieces : (k f l : ℕ) → length (pieces k f l) ≡ suc k
length_pieces zero f l = refl
length_pieces (suc k) f l = ap suc (length_pieces k (f + 2048) l)

-- "as few as will do": no fewer numbers of 32 bits have all characters from f to l
pub fewest : (f l : ℕ) → f ≤ l → (q : List ℕ) → of32 q ≡ true
    → ((c : ℕ) → f ≤ c → c ≤ l → member (firsts_in q) (lasts_in q) c ≡ true)
    → length (packed ((f, l) ∷ [])) ≤ length q
fewest f l o q h has =
    omega (
      arith,
      length-append (pieces ((l - f) / 2048) f l) [],
      length_pieces ((l - f) / 2048) f l,
      count_all (member (firsts_in q) (lasts_in q)) f (suc (l - f)) (λ c a b. has c a (omega arith)),
      count_member q h f (suc (l - f)),
    )
