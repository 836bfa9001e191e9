-- How many bytes the characters that are put out take where they are encoded anew, U+FFFD counted as one byte, whatever is pending: at
-- most the bytes that came and were pending. Idea: a whole character of m bytes has the bits of a row of m bytes at most.
--     size, sizes          the bytes of a character, of characters
--     size_pos, size_le    one at least, and at most those of its encoding
--     outs_size            of what a chunk puts out; finish-size: and a finish
use Prim.Native.Nat.{ℕ, ◌+◌, ◌*◌, ◌%◌, ◌≤◌, ◌<◌}
use mathlib.Core.Bool.{cond}
use mathlib.Core.List.{List, [], ◌∷◌, ◌++◌}
use mathlib.Core.Path.{◌≡◌}
use native.Mathlib.Omega.{arith}
use borrow.Author.Tests.{ltb-true}
use lib.Dec.{eqb, ltb}
use lib.ListN.{length, length-append}
use Rattle.common.proofs.Kit.{split}
use Rattle.scalars.specs.Chars.{is_char}
use Rattle.scalars.specs.Utf8.{encode_of}
use Rattle.scalars.proofs.Rows.{by_row, length_encode}
use Rattle.utf8_lossy.specs.declared.Kind.{Kind}
use Rattle.utf8_lossy.specs.declared.Kind.TheVariants.{Whole, More, Bad}
use Rattle.utf8_lossy.specs.Machine.{whole_of, on_tail, next_of, fresh_of, turn_of, step_of, outs_of, rest_of, finish_of}

-- U+FFFD may stand for a single byte
abbrev pub size : ℕ → ℕ
size c = cond (eqb c 0xFFFD) 1 (length (encode_of c))

abbrev pub sizes : List ℕ → ℕ
sizes [] = 0
sizes (c ∷ cs) = size c + sizes cs

pub size_pos : (c : ℕ) → 1 ≤ size c
size_pos c = split (λ (n : ℕ). 1 ≤ n) (eqb c 0xFFFD) (λ e. omega arith) (λ e. (length_encode c).0)

pub size_le : (c : ℕ) → size c ≤ length (encode_of c)
size_le c = split (λ (n : ℕ). n ≤ length (encode_of c)) (eqb c 0xFFFD) (λ e. (length_encode c).0) (λ e. omega arith)

sizes_append : (cs ds : List ℕ) → sizes (cs ++ ds) ≡ sizes cs + sizes ds
sizes_append [] ds = omega arith
sizes_append (c ∷ cs) ds = omega (arith, sizes_append cs ds)

-- ---- encodings by the row
abbrev Short : ℕ → List ℕ → Type 0
Short n l = length l ≤ n

short1 : (c : ℕ) → c < 0x80 → length (encode_of c) ≤ 1
short1 c k = by_row (Short 1) c (λ h. omega arith) (λ g h. absurd (omega arith)) (λ g h. absurd (omega arith)) (λ g. absurd (omega arith))

short2 : (c : ℕ) → c < 0x800 → length (encode_of c) ≤ 2
short2 c k = by_row (Short 2) c (λ h. omega arith) (λ g h. omega arith) (λ g h. absurd (omega arith)) (λ g. absurd (omega arith))

short3 : (c : ℕ) → c < 0x10000 → length (encode_of c) ≤ 3
short3 c k = by_row (Short 3) c (λ h. omega arith) (λ g h. omega arith) (λ g h. omega arith) (λ g. absurd (omega arith))

-- ---- a whole character of n bytes
abbrev Small : ℕ → Kind → Type 0
Small n (Whole c) = size c ≤ n
Small n More = ℕ
Small n Bad = ℕ

whole_small : (n c : ℕ) → length (encode_of c) ≤ n → Small n (whole_of c)
whole_small n c h = split (Small n) (is_char c) (λ e. omega (arith, size_le c)) (λ e. 0)

tail_small : (n b : ℕ) (k : Kind) → Small n k → Small n (on_tail b k)
tail_small n b k s = split (Small n) (ltb b 0x80) (λ h. 0) (λ h. split (Small n) (ltb b 0xC0) (λ i. s) (λ i. 0))

next_small : (p : List ℕ) (b : ℕ) → Small (1 + length p) (next_of p b)
next_small [] b =
    split (Small 1) (ltb b 0x80) (λ h. omega (arith, size_le b, short1 b (ltb-true b 0x80 h)))
    (λ h. split (Small 1) (ltb b 0xC2) (λ i. 0) (λ i. split (Small 1) (ltb b 0xF5) (λ j. 0) (λ j. 0)))
next_small (a ∷ []) b =
    tail_small 2 b _ (split (Small 2) (ltb a 0xE0)
    (λ h. let c = a % 32 * 64 + b % 64 in omega (arith, size_le c, short2 c (omega arith)))
    (λ h. split (Small 2) (ltb a 0xF0)
    (λ i. split (Small 2) (ltb (a % 16 * 64 + b % 64) 0x20) (λ j. 0)
    (λ j. split (Small 2) (ltb (a % 16 * 64 + b % 64) 0x360) (λ k. 0) (λ k. split (Small 2) (ltb (a % 16 * 64 + b % 64) 0x380) (λ l. 0) (λ l. 0))))
    (λ i. split (Small 2) (ltb (a % 8 * 64 + b % 64) 0x10) (λ j. 0) (λ j. split (Small 2) (ltb (a % 8 * 64 + b % 64) 0x110) (λ k. 0) (λ k. 0)))))
next_small (a ∷ b ∷ []) c =
    tail_small 3 c _ (split (Small 3) (ltb a 0xF0)
    (λ h. let v = a % 16 * 4096 + b % 64 * 64 + c % 64 in whole_small 3 v (short3 v (omega arith))) (λ h. 0))
next_small (a ∷ b ∷ c ∷ p) d =
    let v = a % 8 * 262144 + b % 64 * 4096 + c % 64 * 64 + d % 64 in
    tail_small (1 + length (a ∷ b ∷ c ∷ p)) d _ (whole_small (1 + length (a ∷ b ∷ c ∷ p)) v (omega (arith, length_encode v)))

-- ---- a turn, and a chunk
fresh_size : (k : Kind) (b : ℕ) → Small 1 k → sizes (fresh_of k b).out + length (fresh_of k b).pending ≤ 1
fresh_size (Whole c) b s = omega arith
fresh_size More b s = omega arith
fresh_size Bad b s = omega arith

turn_size : (k : Kind) (p : List ℕ) (b : ℕ) → Small (1 + length p) k →
    sizes (turn_of k p b).out + length (turn_of k p b).pending ≤ 1 + length p
turn_size (Whole c) p b s = omega arith
turn_size More p b s = omega (arith, length-append p (b ∷ []))
turn_size Bad [] b s = omega arith
turn_size Bad (a ∷ p) b s = omega (arith, fresh_size (next_of [] b) b (next_small [] b))

pub outs_size : (p bs : List ℕ) → sizes (outs_of p bs) + length (rest_of p bs) ≤ length bs + length p
outs_size p [] = omega arith
outs_size p (b ∷ bs) =
    let t = step_of p b in
    omega (arith, sizes_append t.out (outs_of t.pending bs), turn_size (next_of p b) p b (next_small p b), outs_size t.pending bs)

pub finish_size : (p : List ℕ) → sizes (finish_of p) ≤ 1
finish_size [] = omega arith
finish_size (a ∷ p) = omega arith
