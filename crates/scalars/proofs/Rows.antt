-- Characters and the rows of RFC 3629's table.
--     char_lt, char_gap      a character is below 110000, and no surrogate
--     char_low, char_high    what is below D800, or from E000 to 10FFFF, is a character
--     row1 .. row4           the encoding, by the row in which c stands
--     by_row                 what holds of the encoding in each row holds of it
--     length_encode          an encoding has one byte at least, and four at most
--     long2, long3, long4    it has two, three, four bytes from its row on
--     written                stores of a row's bytes, one by one, write the encoding
--     encode_done, -full, -no    the answer and the bytes of `encode_utf8`, by its three cases
use Prim.Native.Nat.{ℕ, ◌+◌, ◌/◌, ◌%◌, ◌≤◌, ◌<◌}
use mathlib.Core.Path.{◌≡◌, refl}
use mathlib.Core.Bool.{true, false}
use mathlib.Core.List.{List, [], ◌∷◌}
use native.Mathlib.Omega.{arith}
use borrow.Author.Tests.{lt-ltb, le-ltb, le-leb, lt-leb}
use lib.ListN.{length}
use lib.Seq.{sets}
use Rattle.scalars.specs.Chars.{is_char}
use Rattle.scalars.specs.Utf8.{encode_of, encode_answer, encode_bytes}
use Rattle.common.proofs.Kit.{never, by_lt}
use Rattle.std.specs.Prelude.{Ok, Err}
use Rattle.common.specs.declared.Refusal.TheVariants.{NotAChar, NoRoom}
use Rattle.common.specs.Answers.{written_numbers}

pub char_lt : (c : ℕ) → is_char c ≡ true → c < 0x110000
unfolding is_char
char_lt c h =
    by_lt c 0x110000 (λ p. p)
    (λ g. never (simp (le-leb 0xD800 c (omega arith), lt-leb c 0xDFFF (omega arith), lt-ltb 0x10FFFF c (omega arith)) at h))

pub char_gap : (c : ℕ) → is_char c ≡ true → 0xD800 ≤ c → 0xE000 ≤ c
unfolding is_char
char_gap c s g = by_lt 0xDFFF c (λ h. omega arith) (λ h. never (simp (le-leb 0xD800 c g, le-leb c 0xDFFF h) at s))

pub char_low : (c : ℕ) → c < 0xD800 → is_char c ≡ true
unfolding is_char
char_low c h = simp (lt-leb 0xD800 c h, le-ltb 0x10FFFF c (omega arith))

pub char_high : (c : ℕ) → 0xE000 ≤ c → c < 0x110000 → is_char c ≡ true
unfolding is_char
char_high c g h = simp (le-leb 0xD800 c (omega arith), lt-leb c 0xDFFF (omega arith), le-ltb 0x10FFFF c (omega arith))

pub row1 : (c : ℕ) → c < 0x80 → encode_of c ≡ c ∷ []
unfolding encode_of
row1 c h = simp (lt-ltb c 0x80 h)

pub row2 : (c : ℕ) → 0x80 ≤ c → c < 0x800 → encode_of c ≡ (0xC0 + c / 64) ∷ (0x80 + c % 64) ∷ []
unfolding encode_of
row2 c g h = simp (le-ltb c 0x80 g, lt-ltb c 0x800 h)

pub row3 : (c : ℕ) → 0x800 ≤ c → c < 0x10000 → encode_of c ≡ (0xE0 + c / 4096) ∷ (0x80 + c / 64 % 64) ∷ (0x80 + c % 64) ∷ []
unfolding encode_of
row3 c g h = simp (le-ltb c 0x80 (omega arith), le-ltb c 0x800 g, lt-ltb c 0x10000 h)

pub row4 : (c : ℕ) → 0x10000 ≤ c → encode_of c ≡ (0xF0 + c / 262144) ∷ (0x80 + c / 4096 % 64) ∷ (0x80 + c / 64 % 64) ∷ (0x80 + c % 64) ∷ []
unfolding encode_of
row4 c g = simp (le-ltb c 0x80 (omega arith), le-ltb c 0x800 (omega arith), le-ltb c 0x10000 g)

-- what holds of the encoding in each row holds of the encoding
pub by_row : (P : List ℕ → Type 0) (c : ℕ)
    → (c < 0x80 → P (c ∷ []))
    → (0x80 ≤ c → c < 0x800 → P ((0xC0 + c / 64) ∷ (0x80 + c % 64) ∷ []))
    → (0x800 ≤ c → c < 0x10000 → P ((0xE0 + c / 4096) ∷ (0x80 + c / 64 % 64) ∷ (0x80 + c % 64) ∷ []))
    → (0x10000 ≤ c → P ((0xF0 + c / 262144) ∷ (0x80 + c / 4096 % 64) ∷ (0x80 + c / 64 % 64) ∷ (0x80 + c % 64) ∷ []))
    → P (encode_of c)
by_row P c one two three four =
    by_lt c 0x80 (λ h. rw (row1 c h) (one h))
    (λ g. by_lt c 0x800 (λ h. rw (row2 c g h) (two g h))
    (λ g. by_lt c 0x10000 (λ h. rw (row3 c g h) (three g h)) (λ g. rw (row4 c g) (four g))))

pub length_encode : (c : ℕ) → (1 ≤ length (encode_of c)) × (length (encode_of c) ≤ 4)
length_encode c =
    by_row (λ l. (1 ≤ length l) × (length l ≤ 4)) c (λ h. omega arith) (λ g h. omega arith) (λ g h. omega arith) (λ g. omega arith)

module _ (c : ℕ) where
  abbrev Long : ℕ → List ℕ → Type 0
  Long n l = n ≤ length l

  pub long2 : 0x80 ≤ c → 2 ≤ length (encode_of c)
  long2 k = by_row (Long 2) c (λ h. omega arith) (λ g h. omega arith) (λ g h. omega arith) (λ g. omega arith)

  pub long3 : 0x800 ≤ c → 3 ≤ length (encode_of c)
  long3 k = by_row (Long 3) c (λ h. omega arith) (λ g h. omega arith) (λ g h. omega arith) (λ g. omega arith)

  pub long4 : 0x10000 ≤ c → 4 ≤ length (encode_of c)
  long4 k = by_row (Long 4) c (λ h. omega arith) (λ g h. omega arith) (λ g h. omega arith) (λ g. omega arith)

  pub written : (buf out : List ℕ) (at n : ℕ) {l : List ℕ} → encode_of c ≡ l → length l ≡ n → out ≡ sets buf at l
      → (at + n ≡ at + length (encode_of c)) × (out ≡ sets buf at (encode_of c))
  written buf out at n {l} e k s = (rw (e, k), rw e s)

module _ (c : ℕ) (buf : List ℕ) (at : ℕ) where
  pub encode_done : is_char c ≡ true → at + length (encode_of c) ≤ length buf
      → (written_numbers (Ok (at + length (encode_of c))) ≡ encode_answer c buf at) × (sets buf at (encode_of c) ≡ encode_bytes c buf at)
  encode_done p h = let e = le-ltb _ _ h in (simp (p, e), simp (p, e))

  pub encode_full : is_char c ≡ true → length buf < at + length (encode_of c)
      → (written_numbers (Err NoRoom) ≡ encode_answer c buf at) × (buf ≡ encode_bytes c buf at)
  encode_full p h = let e = lt-ltb _ _ h in (simp (p, e), simp (p, e))

  pub encode_no : is_char c ≡ false → (written_numbers (Err NotAChar) ≡ encode_answer c buf at) × (buf ≡ encode_bytes c buf at)
  encode_no p = (simp p, simp p)
