-- UTF-8 as RFC 3629 defines it: which bytes encode which character, and what reading and writing them gives.
-- Decoding into places and encoding at a place are entries that document 01 does not name; encoding gives 1 before 8, as its entries do.
use Rattle.std.specs.Prelude.{ℕ, zero, suc, ◌+◌, ◌/◌, ◌%◌, ◌≤◌, ◌≡◌, Bool, true, false, cond, not, ◌&&◌, List, [], ◌∷◌, ◌++◌, length, take, drop, ltb, leb, eqb, Option, Some, None}
use Rattle.scalars.specs.declared.utf8.Prefix.{Prefix}
use Rattle.std.proofs.lemmas.List.Edits.{sets}
use Rattle.scalars.specs.Chars.{is_char, are_chars}

-- the bytes that encode a character: section 3, the table. ".. and RFC 3629 (UTF-8) define"
--     0000..007F     0xxxxxxx
--     0080..07FF     110xxxxx 10xxxxxx
--     0800..FFFF     1110xxxx 10xxxxxx 10xxxxxx
--     10000..10FFFF  11110xxx 10xxxxxx 10xxxxxx 10xxxxxx
unfoldable pub encode_of : ℕ → List ℕ
encode_of c =
    cond (ltb c 0x80) (c ∷ [])
    (cond (ltb c 0x800) ((0xC0 + c / 64) ∷ (0x80 + c % 64) ∷ [])
    (cond (ltb c 0x10000) ((0xE0 + c / 4096) ∷ (0x80 + c / 64 % 64) ∷ (0x80 + c % 64) ∷ [])
    ((0xF0 + c / 262144) ∷ (0x80 + c / 4096 % 64) ∷ (0x80 + c / 64 % 64) ∷ (0x80 + c % 64) ∷ [])))

-- the bytes l encode a character
abbrev pub Encoding : List ℕ → Type 0
Encoding l = (c : ℕ) × (is_char c ≡ true) × (l ≡ encode_of c)

-- a continuation byte: 10xxxxxx, 80..BF
unfoldable pub continuation : ℕ → Bool
continuation b = leb 0x80 b && leb b 0xBF

-- the bytes that encode a list of characters
abbrev pub encode_all : List ℕ → List ℕ
encode_all [] = []
encode_all (c ∷ cs) = encode_of c ++ encode_all cs

-- ---- reading
-- whether the bytes bs begin with ws
abbrev pub begins : List ℕ → List ℕ → Bool
begins [] bs = true
begins (w ∷ ws) [] = false
begins (w ∷ ws) (b ∷ bs) = eqb w b && begins ws bs

-- the encoding of the character c stands at `at`
pub record Stands (bs : List ℕ) (at c : ℕ) : Type 0 where
  pub char : is_char c ≡ true
  pub bytes : begins (encode_of c) (drop at bs) ≡ true

-- the character below n with whose encoding bs begins, and the place after it if bs stands at `at`; none where there is none
unfoldable pub step_below : ℕ → List ℕ → ℕ → Option (ℕ × ℕ)
step_below zero bs at = None
step_below (suc c) bs at =
    cond (is_char c && begins (encode_of c) bs) (Some (c, at + length (encode_of c))) (step_below c bs at)

-- the character whose encoding stands at `at` (no two do: `step_exactly`), and the place after it; none where none stands there
-- "a decoded character is taken apart from the stop that ends the valid prefix"
unfoldable pub utf8_step_of : List ℕ → ℕ → Option (ℕ × ℕ)
utf8_step_of bs at = step_below 0x110000 (drop at bs) at

-- the character, and then what comes from the next place on
abbrev pub on_char : Option (ℕ × ℕ) → (ℕ → List ℕ) → List ℕ
on_char (Some (c, next)) rest = c ∷ rest next
on_char None rest = []

-- the characters from `at` on, up to the first stop and at most n
abbrev pub chars_from : ℕ → List ℕ → ℕ → List ℕ
chars_from zero bs at = []
chars_from (suc n) bs at = on_char (utf8_step_of bs at) (λ next. chars_from n bs next)

-- the characters of the longest valid prefix (`longest`, `longest_only`): "Byte writes take the longest valid prefix"
unfoldable pub chars_of : List ℕ → List ℕ
chars_of bs = chars_from (length bs) bs 0

-- what the longest valid prefix is: no characters encode to a longer start of bs
pub record LongestPrefix (bs cs : List ℕ) : Type 0 where
  pub chars : are_chars cs ≡ true
  pub starts : begins (encode_all cs) bs ≡ true
  pub most : (ds : List ℕ) → are_chars ds ≡ true → begins (encode_all ds) bs ≡ true → length (encode_all ds) ≤ length (encode_all cs)

-- how many characters, and how many bytes they take
abbrev pub counts_of : List ℕ → Prefix
counts_of cs = record { chars = length cs; bytes = length (encode_all cs) }

-- the characters that are decoded into the places out: those of the longest valid prefix, as many as there are places
abbrev pub decode_of : List ℕ → List ℕ → List ℕ
decode_of bs out = take (length out) (chars_of bs)

-- the places as decoding leaves them: the characters from the first on, and the others as they were
abbrev pub decode_places : List ℕ → List ℕ → List ℕ
decode_places bs out = sets out 0 (decode_of bs out)

-- ---- writing
-- the number of the refusal of c at `at`, and 0 for none: 1 for a number that is no character, "8 too few free places" for too few
-- bytes from there on
abbrev pub encode_refusal : ℕ → List ℕ → ℕ → ℕ
encode_refusal c buf at = cond (not (is_char c)) 1 (cond (ltb (length buf) (at + length (encode_of c))) 8 0)

-- the answer of encoding c at `at`: 0 and the place after it, or the refusal's number
-- "Where an answer is an enum, a definition lists this paper's number and values for each case. The promises use that definition."
abbrev pub encode_answer : ℕ → List ℕ → ℕ → List ℕ
encode_answer c buf at =
    cond (eqb (encode_refusal c buf at) 0) (0 ∷ (at + length (encode_of c)) ∷ []) (encode_refusal c buf at ∷ [])

-- the bytes as encoding leaves them: unchanged by a refusal
abbrev pub encode_bytes : ℕ → List ℕ → ℕ → List ℕ
encode_bytes c buf at = cond (eqb (encode_refusal c buf at) 0) (sets buf at (encode_of c)) buf
