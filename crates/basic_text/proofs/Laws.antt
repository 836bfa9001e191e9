-- Laws on bytes read as numbers.
--     from_le, to_le    four bytes as a number, and back, as the library has them
--     Bytes             each number of a list is a byte
--     four_more         four more places for each number
--     length_numbers    a number for every four bytes
--     numbers_at        the number at a place, by its four bytes
--     numbers_drop      the numbers from a place on
--     numbers_append    the numbers of two parts one after the other
--     length_bytes      four bytes for every number
--     bytes_append      the bytes of two lists one after the other
--     with_filled       numbers stored in the first places are their bytes stored in the first places
--     with_all          the numbers as they were are the bytes as they were
use Prim.Native.Nat.{ℕ, zero, suc, ◌+◌, ◌*◌, ◌/◌, ◌%◌, ◌≤◌, ◌<◌}
use mathlib.Core.Path.{◌≡◌, refl, ap, sym, ◌∙◌}
use mathlib.Core.List.{List, [], ◌∷◌, ◌++◌, append-nil}
use mathlib.Core.Logic.{◌⊎◌, inl, inr}
use native.Mathlib.Omega.{arith}
use lib.ListN.{length, get_or, drop}
use lib.Seq.{sets, length-sets}
use mir.Syntax.{w32}
use Rattle.std.specs.Int.{from_le_bytes, to_le_bytes}
use Rattle.common.proofs.Lists.{sets_first}
use Rattle.basic_text.specs.Exports.{number_of, numbers_of, bytes_of}

-- a number and its four bytes, as the library has them
pub from_le : (a b c d : ℕ) → from_le_bytes w32 (a ∷ b ∷ c ∷ d ∷ []) ≡ number_of a b c d
from_le a b c d = omega arith

pub to_le : (n : ℕ) → to_le_bytes w32 n ≡ bytes_of (n ∷ [])
to_le n = refl

abbrev pub Bytes : List ℕ → Type 0
Bytes bytes = (i : ℕ) → get_or bytes i 0 < 256

pub four_more : (n : ℕ) → 4 * suc n ≡ suc (suc (suc (suc (4 * n))))
four_more n = omega arith

pub length_numbers : (bytes : List ℕ) → length (numbers_of bytes) ≡ length bytes / 4
length_numbers [] = refl
length_numbers (a ∷ []) = refl
length_numbers (a ∷ b ∷ []) = refl
length_numbers (a ∷ b ∷ c ∷ []) = refl
length_numbers (a ∷ b ∷ c ∷ d ∷ rest) = omega (arith, length_numbers rest)

-- the number made of the four bytes from a place on
abbrev pub four_at : List ℕ → ℕ → ℕ
four_at bytes at = number_of (get_or bytes at 0) (get_or bytes (at + 1) 0) (get_or bytes (at + 2) 0) (get_or bytes (at + 3) 0)

four_at_more : (a b c d : ℕ) (rest : List ℕ) (at : ℕ) → four_at (a ∷ b ∷ c ∷ d ∷ rest) (suc (suc (suc (suc at)))) ≡ four_at rest at
four_at_more a b c d rest at =
    let e1 : suc (suc (suc (suc at))) + 1 ≡ suc (suc (suc (suc (at + 1)))) = omega arith in
    let e2 : suc (suc (suc (suc at))) + 2 ≡ suc (suc (suc (suc (at + 2)))) = omega arith in
    let e3 : suc (suc (suc (suc at))) + 3 ≡ suc (suc (suc (suc (at + 3)))) = omega arith in
    rw (e1, e2, e3)

pub numbers_at : (bytes : List ℕ) (i : ℕ) → 4 * (i + 1) ≤ length bytes → get_or (numbers_of bytes) i 0 ≡ four_at bytes (4 * i)
numbers_at [] i h = absurd (omega arith)
numbers_at (a ∷ []) i h = absurd (omega arith)
numbers_at (a ∷ b ∷ []) i h = absurd (omega arith)
numbers_at (a ∷ b ∷ c ∷ []) i h = absurd (omega arith)
numbers_at (a ∷ b ∷ c ∷ d ∷ rest) zero h = refl
numbers_at (a ∷ b ∷ c ∷ d ∷ rest) (suc i) h =
    numbers_at rest i (omega arith)
    ∙ sym (four_at_more a b c d rest (4 * i))
    ∙ ap (four_at (a ∷ b ∷ c ∷ d ∷ rest)) (sym (four_more i))

pub numbers_drop : (i : ℕ) (bytes : List ℕ) → numbers_of (drop (4 * i) bytes) ≡ drop i (numbers_of bytes)
numbers_drop zero bytes = refl
numbers_drop (suc i) [] = rw (four_more i)
numbers_drop (suc i) (a ∷ []) = rw (four_more i)
numbers_drop (suc i) (a ∷ b ∷ []) = rw (four_more i)
numbers_drop (suc i) (a ∷ b ∷ c ∷ []) = rw (four_more i)
numbers_drop (suc i) (a ∷ b ∷ c ∷ d ∷ rest) = rw (four_more i) (numbers_drop i rest)

-- the numbers of two parts, where the first ends with a whole four or nothing is behind it
pub numbers_append : (xs ys : List ℕ) → (length xs % 4 ≡ 0) ⊎ (ys ≡ []) → numbers_of (xs ++ ys) ≡ numbers_of xs ++ numbers_of ys
numbers_append xs ys (inr e) = rw (e, append-nil, append-nil)
numbers_append [] ys (inl h) = refl
numbers_append (a ∷ []) ys (inl h) = absurd (omega arith)
numbers_append (a ∷ b ∷ []) ys (inl h) = absurd (omega arith)
numbers_append (a ∷ b ∷ c ∷ []) ys (inl h) = absurd (omega arith)
numbers_append (a ∷ b ∷ c ∷ d ∷ xs) ys (inl h) =
    ap (λ (l : List ℕ). number_of a b c d ∷ l) (numbers_append xs ys (inl (omega arith)))

pub length_bytes : (ns : List ℕ) → length (bytes_of ns) ≡ 4 * length ns
length_bytes [] = refl
length_bytes (n ∷ ns) = omega (arith, length_bytes ns)

pub bytes_append : (xs ys : List ℕ) → bytes_of (xs ++ ys) ≡ bytes_of xs ++ bytes_of ys
bytes_append [] ys = refl
bytes_append (x ∷ xs) ys = rw (bytes_append xs ys)

past_four : (a b c d : ℕ) (rest : List ℕ) → Bytes (a ∷ b ∷ c ∷ d ∷ rest) → Bytes rest
past_four a b c d rest k i = k (suc (suc (suc (suc i))))

-- four bytes give a number that gives the bytes back
module _ (a b c d : ℕ) (rest more : List ℕ) (ha : a < 256) (hb : b < 256) (hc : c < 256) (hd : d < 256) where
  back : bytes_of (number_of a b c d ∷ rest) ++ more ≡ a ∷ b ∷ c ∷ d ∷ bytes_of rest ++ more
  back =
      let ea : number_of a b c d % 256 ≡ a = omega arith in
      let qb : number_of a b c d / 256 ≡ b + 256 * c + 65536 * d = omega arith in
      let eb : number_of a b c d / 256 % 256 ≡ b = rw qb (omega arith) in
      let qc : number_of a b c d / 65536 ≡ c + 256 * d = omega arith in
      let ec : number_of a b c d / 65536 % 256 ≡ c = rw qc (omega arith) in
      let qd : number_of a b c d / 16777216 ≡ d = omega arith in
      let ed : number_of a b c d / 16777216 % 256 ≡ d = rw qd (omega arith) in
      rw (ea, eb, ec, ed)

-- numbers' bytes, and behind them the bytes past so many numbers
abbrev pub with_rest : List ℕ → List ℕ → List ℕ
with_rest ns queue = bytes_of ns ++ drop (4 * length ns) queue

pub all_is : (queue : List ℕ) → Bytes queue → with_rest (numbers_of queue) queue ≡ queue
all_is [] k = refl
all_is (a ∷ []) k = refl
all_is (a ∷ b ∷ []) k = refl
all_is (a ∷ b ∷ c ∷ []) k = refl
all_is (a ∷ b ∷ c ∷ d ∷ rest) k =
    rw (four_more (length (numbers_of rest)))
    (back a b c d (numbers_of rest) (drop (4 * length (numbers_of rest)) rest) (k 0) (k 1) (k 2) (k 3)
    ∙ ap (λ (l : List ℕ). a ∷ b ∷ c ∷ d ∷ l) (all_is rest (past_four a b c d rest k)))

-- where there is room
pub stores_rest : (ns queue : List ℕ) → 4 * length ns ≤ length queue → sets queue 0 (bytes_of ns) ≡ with_rest ns queue
stores_rest ns queue h = rw (← (length_bytes ns)) (sets_first (bytes_of ns) queue (omega (arith, length_bytes ns)))

pub with_all : (queue : List ℕ) → Bytes queue → sets queue 0 (bytes_of (numbers_of queue)) ≡ queue
with_all queue k = stores_rest (numbers_of queue) queue (omega (arith, length_numbers queue)) ∙ all_is queue k

first_is : (out queue : List ℕ) → Bytes queue → length out ≤ length (numbers_of queue) →
    with_rest (out ++ drop (length out) (numbers_of queue)) queue ≡ with_rest out queue
first_is [] queue k h = all_is queue k
first_is (n ∷ out) [] k h = absurd (omega arith)
first_is (n ∷ out) (a ∷ []) k h = absurd (omega arith)
first_is (n ∷ out) (a ∷ b ∷ []) k h = absurd (omega arith)
first_is (n ∷ out) (a ∷ b ∷ c ∷ []) k h = absurd (omega arith)
first_is (n ∷ out) (a ∷ b ∷ c ∷ d ∷ rest) k h =
    rw (four_more (length (out ++ drop (length out) (numbers_of rest))), four_more (length out))
    (ap (λ (l : List ℕ). n % 256 ∷ n / 256 % 256 ∷ n / 65536 % 256 ∷ n / 16777216 % 256 ∷ l)
    (first_is out rest (past_four a b c d rest k) (omega arith)))

pub with_filled : (out queue : List ℕ) → Bytes queue → length out ≤ length (numbers_of queue) →
    sets queue 0 (bytes_of (sets (numbers_of queue) 0 out)) ≡ sets queue 0 (bytes_of out)
with_filled out queue k h =
    let ns = sets (numbers_of queue) 0 out in
    let e = length-sets (numbers_of queue) 0 out in
    stores_rest ns queue (omega (arith, e, length_numbers queue))
    ∙ ap (λ (l : List ℕ). with_rest l queue) (sets_first out (numbers_of queue) h)
    ∙ first_is out queue k h
    ∙ sym (stores_rest out queue (omega (arith, length_numbers queue)))
