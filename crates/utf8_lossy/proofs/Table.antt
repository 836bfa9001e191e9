-- What the pending bytes and one byte more are: the tests of `next_of` say what the grammar of RFC 3629 says. Each rule of the grammar bounds
-- the first two bytes, and the bits that `next_of` tests give the rule back.
--     State    the pending bytes of a text: none, or part of a character
--     Right    what is right of an answer: a character's encoding, part of one, or bytes that begin none
--     table    in each state, `next_of` is right
use Prim.Native.Nat.{ℕ, ◌+◌, ◌*◌, ◌%◌, ◌/◌, ◌≤◌, ◌<◌}
use mathlib.Core.Path.{◌≡◌, sym, ap, ◌∙◌}
use mathlib.Core.Bool.{true, cond}
use mathlib.Core.Logic.{◌⊎◌, inl, inr}
use mathlib.Core.List.{List, [], ◌∷◌, ◌++◌}
use native.Mathlib.Omega.{arith}
use borrow.Author.Tests.{ltb-true, ltb-false}
use lib.Dec.{ltb}
use lib.ListN.{length, length-append}
use Rattle.scalars.specs.Chars.{is_char}
use Rattle.scalars.specs.Utf8.{encode_of, Encoding}
use Rattle.scalars.specs.Abnf.{Utf8Tail, Utf8Char, utf8_1, utf8_2, utf8_3_e0, utf8_3_e1, utf8_3_ed, utf8_3_ee, utf8_4_f0, utf8_4_f1, utf8_4_f4}
use Rattle.common.proofs.Kit.{split, by_lt, never}
use Rattle.scalars.proofs.Grammar.{grammar}
use Rattle.scalars.proofs.Rows.{char_low, char_high, length_encode, row1, row2, row3, row4}
use Rattle.utf8_lossy.specs.declared.Kind.{Kind}
use Rattle.utf8_lossy.specs.declared.Kind.TheVariants.{Whole, More, Bad}
use Rattle.utf8_lossy.specs.Lossy.{Initial}
use Rattle.utf8_lossy.specs.Machine.{whole_of, next_of, on_tail}

-- the pending bytes of a state: none, or part of a character
abbrev pub State : List ℕ → Type 0
State p = (p ≡ []) ⊎ Initial p

-- the bytes begin no encoding
abbrev pub Dead : List ℕ → Type 0
Dead l = (r : List ℕ) → Encoding (l ++ r) → ⊥

-- what is right of an answer on the bytes l
abbrev pub Right : List ℕ → Kind → Type 0
Right l (Whole c) = (is_char c ≡ true) × (l ≡ encode_of c)
Right l More = Initial l
Right l Bad = Dead l

-- a sequence of the grammar is an encoding, and begins with each of its parts
initial : (p : List ℕ) (w : ℕ) (ws : List ℕ) → 1 ≤ length p → Utf8Char (p ++ (w ∷ ws)) → Initial p
initial p w ws h u = (h, (w, ws, (grammar _).0 u))

dead : (l : List ℕ) → ((r : List ℕ) → Utf8Char (l ++ r) → ⊥) → Dead l
dead l f r k = f r ((grammar (l ++ r)).1 k)

-- a byte on a tail's place
tail : (l : List ℕ) (b : ℕ) (k : Kind) → (b < 0x80 → Dead l) → (0xC0 ≤ b → Dead l) → (0x80 ≤ b → b ≤ 0xBF → Right l k) → Right l (on_tail b k)
tail l b k f g h =
    split (Right l) (ltb b 0x80) (λ p. f (ltb-true b 0x80 p))
    (λ p. split (Right l) (ltb b 0xC0) (λ q. h (ltb-false b 0x80 p) (let z = ltb-true b 0xC0 q in omega arith)) (λ q. g (ltb-false b 0xC0 q)))

test : (l : List ℕ) (a n : ℕ) (k m : Kind) → (a < n → Right l k) → (n ≤ a → Right l m) → Right l (cond (ltb a n) k m)
test l a n k m f g = split (Right l) (ltb a n) (λ p. f (ltb-true a n p)) (λ p. g (ltb-false a n p))

whole : (l : List ℕ) (c : ℕ) → is_char c ≡ true → l ≡ encode_of c → Right l (whole_of c)
whole l c s e = split (Right l) (is_char c) (λ h. (h, e)) (λ h. never (sym h ∙ s))

-- ---- what a sequence of the grammar has at its places
lead_in : {b : ℕ} {r : List ℕ} → Utf8Char (b ∷ r) → 0x80 ≤ b → (0xC2 ≤ b) × (b < 0xF5)
lead_in (utf8_1 g) h = absurd (omega arith)
lead_in (utf8_2 g k t) h = (omega arith, omega arith)
lead_in (utf8_3_e0 e g k u) h = (omega arith, omega arith)
lead_in (utf8_3_e1 g k t u) h = (omega arith, omega arith)
lead_in (utf8_3_ed e g k u) h = (omega arith, omega arith)
lead_in (utf8_3_ee g k t u) h = (omega arith, omega arith)
lead_in (utf8_4_f0 e g k u w) h = (omega arith, omega arith)
lead_in (utf8_4_f1 g k t u w) h = (omega arith, omega arith)
lead_in (utf8_4_f4 e g k u w) h = (omega arith, omega arith)

-- the bits of the first two bytes, in rows three and four
abbrev v3 : ℕ → ℕ → ℕ
v3 a b = a % 16 * 64 + b % 64

abbrev v4 : ℕ → ℕ → ℕ
v4 a b = a % 8 * 64 + b % 64

record Two (a b : ℕ) : Type 0 where
  low : 0xC2 ≤ a
  high : a < 0xF5
  tail : Utf8Tail b
  low3 : 0xE0 ≤ a → a < 0xF0 → 0x20 ≤ v3 a b
  gap3 : 0xE0 ≤ a → a < 0xF0 → 0x360 ≤ v3 a b → 0x380 ≤ v3 a b
  low4 : 0xF0 ≤ a → 0x10 ≤ v4 a b
  high4 : 0xF0 ≤ a → v4 a b < 0x110

two : {a b : ℕ} → (0xC2 ≤ a) × (a < 0xF5) → Utf8Tail b → (0xE0 ≤ a → a < 0xF0 → 0x20 ≤ v3 a b)
    → (0xE0 ≤ a → a < 0xF0 → 0x360 ≤ v3 a b → 0x380 ≤ v3 a b) → (0xF0 ≤ a → (0x10 ≤ v4 a b) × (v4 a b < 0x110)) → Two a b
two lead t low gap four =
    record { low = lead.0; high = lead.1; tail = t; low3 = low; gap3 = gap; low4 = λ x. (four x).0; high4 = λ x. (four x).1 }

two_in : {a b : ℕ} {r : List ℕ} → Utf8Char (a ∷ b ∷ r) → Two a b
two_in (utf8_2 g k t) = two (omega arith) t (λ x y. omega arith) (λ x y z. omega arith) (λ x. omega arith)
two_in (utf8_3_e0 e g k u) = two (omega arith) (omega arith) (λ x y. omega arith) (λ x y z. omega arith) (λ x. omega arith)
two_in (utf8_3_e1 g k t u) = two (omega arith) t (λ x y. omega arith) (λ x y z. omega arith) (λ x. omega arith)
two_in (utf8_3_ed e g k u) = two (omega arith) (omega arith) (λ x y. omega arith) (λ x y z. omega arith) (λ x. omega arith)
two_in (utf8_3_ee g k t u) = two (omega arith) t (λ x y. omega arith) (λ x y z. omega arith) (λ x. omega arith)
two_in (utf8_4_f0 e g k u w) = two (omega arith) (omega arith) (λ x y. omega arith) (λ x y z. omega arith) (λ x. omega arith)
two_in (utf8_4_f1 g k t u w) = two (omega arith) t (λ x y. omega arith) (λ x y z. omega arith) (λ x. omega arith)
two_in (utf8_4_f4 e g k u w) = two (omega arith) (omega arith) (λ x y. omega arith) (λ x y z. omega arith) (λ x. omega arith)

three_in : {a b c : ℕ} {r : List ℕ} → Utf8Char (a ∷ b ∷ c ∷ r) → (0xE0 ≤ a) × Utf8Tail c
three_in (utf8_3_e0 e g k u) = (omega arith, u)
three_in (utf8_3_e1 g k t u) = (omega arith, u)
three_in (utf8_3_ed e g k u) = (omega arith, u)
three_in (utf8_3_ee g k t u) = (omega arith, u)
three_in (utf8_4_f0 e g k u w) = (omega arith, u)
three_in (utf8_4_f1 g k t u w) = (omega arith, u)
three_in (utf8_4_f4 e g k u w) = (omega arith, u)

four_in : {a b c d : ℕ} {r : List ℕ} → Utf8Char (a ∷ b ∷ c ∷ d ∷ r) → (0xF0 ≤ a) × Utf8Tail d
four_in (utf8_4_f0 e g k u w) = (omega arith, w)
four_in (utf8_4_f1 g k t u w) = (omega arith, w)
four_in (utf8_4_f4 e g k u w) = (omega arith, w)

-- ---- the rules of rows three and four, by these bits
rule3 : (a b c : ℕ) → 0xE0 ≤ a → a < 0xF0 → Utf8Tail b → 0x20 ≤ v3 a b → (0x360 ≤ v3 a b → 0x380 ≤ v3 a b) → Utf8Tail c → Utf8Char (a ∷ b ∷ c ∷ [])
rule3 a b c g h t low gap u =
    by_lt a 0xE1 (λ k. utf8_3_e0 (omega arith) (omega arith) (omega arith) u)
    (λ i. by_lt a 0xED (λ k. utf8_3_e1 i (omega arith) t u)
    (λ i. by_lt a 0xEE
    (λ k. utf8_3_ed (omega arith) (omega arith) (by_lt (v3 a b) 0x360 (λ y. omega arith) (λ y. let z = gap y in omega arith)) u)
    (λ i. utf8_3_ee i (omega arith) t u)))

rule4 : (a b c d : ℕ) → 0xF0 ≤ a → a < 0xF5 → Utf8Tail b → 0x10 ≤ v4 a b → v4 a b < 0x110 → Utf8Tail c → Utf8Tail d → Utf8Char (a ∷ b ∷ c ∷ d ∷ [])
rule4 a b c d g h t low high u w =
    by_lt a 0xF1 (λ k. utf8_4_f0 (omega arith) (omega arith) (omega arith) u w)
    (λ i. by_lt a 0xF4 (λ k. utf8_4_f1 i (omega arith) t u w) (λ i. utf8_4_f4 (omega arith) (omega arith) (omega arith) u w))

least : Utf8Tail 0x80
least = (omega arith, omega arith)

lead_more : (a : ℕ) → 0xC2 ≤ a → a < 0xF5 → Initial (a ∷ [])
lead_more a g h =
    by_lt a 0xE0 (λ k. initial (a ∷ []) 0x80 [] (omega arith) (utf8_2 g (omega arith) least))
    (λ i. by_lt a 0xED
    (λ k. initial (a ∷ []) 0xA0 (0x80 ∷ []) (omega arith)
    (rule3 a 0xA0 0x80 i (omega arith) (omega arith, omega arith) (omega arith) (λ y. omega arith) least))
    (λ i. by_lt a 0xF0
    (λ k. initial (a ∷ []) 0x80 (0x80 ∷ []) (omega arith) (rule3 a 0x80 0x80 (omega arith) k least (omega arith) (λ y. omega arith) least))
    (λ i. by_lt a 0xF4
    (λ k. initial (a ∷ []) 0x90 (0x80 ∷ 0x80 ∷ []) (omega arith)
    (rule4 a 0x90 0x80 0x80 i h (omega arith, omega arith) (omega arith) (omega arith) least least))
    (λ j. initial (a ∷ []) 0x80 (0x80 ∷ 0x80 ∷ []) (omega arith) (rule4 a 0x80 0x80 0x80 i h least (omega arith) (omega arith) least least)))))

-- ---- by the number of pending bytes
none_pending : (b : ℕ) → Right (b ∷ []) (next_of [] b)
none_pending b =
    test (b ∷ []) b _ _ _ (λ h. (char_low b (omega arith), sym (row1 b h)))
    (λ g. test (b ∷ []) b _ _ _ (λ h. dead (b ∷ []) (λ r u. let z = lead_in u g in omega arith))
    (λ i. test (b ∷ []) b _ _ _ (λ h. lead_more b i h) (λ h. dead (b ∷ []) (λ r u. let z = lead_in u g in omega arith))))

module _ (a b : ℕ) where
  no_tail2 : (Utf8Tail b → ⊥) → Dead (a ∷ b ∷ [])
  no_tail2 f = dead (a ∷ b ∷ []) (λ r u. f (two_in u).tail)

  whole2 : 0xC2 ≤ a → a < 0xE0 → Utf8Tail b → Right (a ∷ b ∷ []) (Whole (a % 32 * 64 + b % 64))
  whole2 g h t =
      let v : ℕ = a % 32 * 64 + b % 64 in
      let x : a ≡ 0xC0 + v / 64 = omega arith in
      let y : b ≡ 0x80 + v % 64 = omega arith in
      let same : a ∷ b ∷ [] ≡ (0xC0 + v / 64) ∷ (0x80 + v % 64) ∷ [] = cc in
      (char_low v (omega arith), same ∙ sym (row2 v (omega arith) (omega arith)))

  more3 : 0xE0 ≤ a → a < 0xF0 → Utf8Tail b → 0x20 ≤ v3 a b → (0x360 ≤ v3 a b → 0x380 ≤ v3 a b) → Initial (a ∷ b ∷ [])
  more3 g h t low gap = initial (a ∷ b ∷ []) 0x80 [] (omega arith) (rule3 a b 0x80 g h t low gap least)

  one_pending : 0xC2 ≤ a → a < 0xF5 → Right (a ∷ b ∷ []) (next_of (a ∷ []) b)
  one_pending g h =
      let l = a ∷ b ∷ [] in
      tail l b _ (λ x. no_tail2 (λ t. omega arith)) (λ x. no_tail2 (λ t. omega arith))
      (λ x y. test l a _ _ _ (λ k. whole2 g k (x, y))
      (λ i. test l a _ _ _
      (λ k. test l (v3 a b) _ _ _ (λ n. dead l (λ r u. let z = (two_in u).low3 i k in omega arith))
      (λ n. test l (v3 a b) _ _ _ (λ m. more3 i k (x, y) (omega arith) (λ z. omega arith))
      (λ m. test l (v3 a b) _ _ _ (λ o. dead l (λ r u. let z = (two_in u).gap3 i k (omega arith) in omega arith))
      (λ o. more3 i k (x, y) (omega arith) (λ z. omega arith)))))
      (λ j. test l (v4 a b) _ _ _ (λ n. dead l (λ r u. let z = (two_in u).low4 j in omega arith))
      (λ n. test l (v4 a b) _ _ _
      (λ m. initial l 0x80 (0x80 ∷ []) (omega arith) (rule4 a b 0x80 0x80 j h (x, y) (omega arith) (omega arith) least least))
      (λ m. dead l (λ r u. let z = (two_in u).high4 j in omega arith))))))

module _ (a b c : ℕ) (p : Two a b) where
  whole3 : 0xE0 ≤ a → a < 0xF0 → Utf8Tail c → Right (a ∷ b ∷ c ∷ []) (whole_of (a % 16 * 4096 + b % 64 * 64 + c % 64))
  whole3 g h t =
      let v : ℕ = a % 16 * 4096 + b % 64 * 64 + c % 64 in
      let low = p.low3 g h in
      let x : a ≡ 0xE0 + v / 4096 = omega (arith, p.tail) in
      let y : b ≡ 0x80 + v / 64 % 64 = omega (arith, p.tail) in
      let z : c ≡ 0x80 + v % 64 = omega arith in
      let same : a ∷ b ∷ c ∷ [] ≡ (0xE0 + v / 4096) ∷ (0x80 + v / 64 % 64) ∷ (0x80 + v % 64) ∷ [] = cc in
      whole (a ∷ b ∷ c ∷ []) v
      (by_lt v 0xD800 (λ k. char_low v k) (λ k. let gap = p.gap3 g h (omega arith) in char_high v (omega arith) (omega arith)))
      (same ∙ sym (row3 v (omega arith) (omega arith)))

  two_pending : 0xE0 ≤ a → Right (a ∷ b ∷ c ∷ []) (next_of (a ∷ b ∷ []) c)
  two_pending g =
      let l = a ∷ b ∷ c ∷ [] in
      tail l c _ (λ x. dead l (λ r u. let z = three_in u in omega arith)) (λ x. dead l (λ r u. let z = three_in u in omega arith))
      (λ x y. test l a _ _ _ (λ k. whole3 g k (x, y))
      (λ k. initial l 0x80 [] (omega arith) (rule4 a b c 0x80 k p.high p.tail (p.low4 k) (p.high4 k) (x, y) least)))

  whole4 : (d : ℕ) → 0xF0 ≤ a → Utf8Tail c → Utf8Tail d → Right (a ∷ b ∷ c ∷ d ∷ [])
      (whole_of (a % 8 * 262144 + b % 64 * 4096 + c % 64 * 64 + d % 64))
  whole4 d g t s =
      let v : ℕ = a % 8 * 262144 + b % 64 * 4096 + c % 64 * 64 + d % 64 in
      let low = p.low4 g in
      let high = p.high4 g in
      let x : a ≡ 0xF0 + v / 262144 = omega (arith, p.tail, p.high) in
      let y : b ≡ 0x80 + v / 4096 % 64 = omega (arith, p.tail) in
      let z : c ≡ 0x80 + v / 64 % 64 = omega arith in
      let w : d ≡ 0x80 + v % 64 = omega arith in
      let same : a ∷ b ∷ c ∷ d ∷ [] ≡ (0xF0 + v / 262144) ∷ (0x80 + v / 4096 % 64) ∷ (0x80 + v / 64 % 64) ∷ (0x80 + v % 64) ∷ [] = cc in
      whole (a ∷ b ∷ c ∷ d ∷ []) v (char_high v (omega arith) (omega arith)) (same ∙ sym (row4 v (omega arith)))

  three_pending : (d : ℕ) → 0xF0 ≤ a → Utf8Tail c → Right (a ∷ b ∷ c ∷ d ∷ []) (next_of (a ∷ b ∷ c ∷ []) d)
  three_pending d g t =
      let l = a ∷ b ∷ c ∷ d ∷ [] in
      tail l d _ (λ x. dead l (λ r u. let z = four_in u in omega arith)) (λ x. dead l (λ r u. let z = four_in u in omega arith))
      (λ x y. whole4 d g t (x, y))

pub table : (p : List ℕ) (b : ℕ) → State p → Right (p ++ (b ∷ [])) (next_of p b)
table [] b z = none_pending b
table (a ∷ p) d (inl e) = absurd (omega (arith, ap length e))
table (a ∷ []) b (inr i) = let t = two_in ((grammar _).1 i.1.2) in one_pending a b t.low t.high
table (a ∷ b ∷ []) c (inr i) =
    let u = (grammar _).1 i.1.2 in
    two_pending a b c (two_in u) (three_in u).0
table (a ∷ b ∷ c ∷ []) d (inr i) =
    let u = (grammar _).1 i.1.2 in
    three_pending a b c (two_in u) d (four_in u).0 (three_in u).1
table (a ∷ b ∷ c ∷ x ∷ p) d (inr i) =
    let k = i.1.2 in
    absurd (omega (arith, length_encode k.0, simp length-append at (ap length k.2)))
