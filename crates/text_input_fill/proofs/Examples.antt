-- Fills with the answers of the comparison's oracle, which is the original Rust with what document 01 adds: by computing, the
-- definition gives the same answer and the same bytes.
--     examples    the table
use Prim.Native.Nat.{ℕ, zero, suc}
use mathlib.Core.List.{List, [], ◌∷◌, ◌++◌, map}
use mathlib.Core.Path.{◌≡◌, refl}
use lib.ListN.{length, take, drop, replicate}
use Rattle.scalars.specs.Chars.{is_char}
use Rattle.scalars.specs.Utf8.{encode_of, continuation}
use Rattle.text_input_fill.specs.Fill.{FillOutcome, fill_of}

-- a list so many times
abbrev times : ℕ → List ℕ → List ℕ
times zero l = []
times (suc n) l = l ++ times n l

-- a buffer of so many bytes that holds a pattern over and over, the queue, the answer's numbers, and the first bytes after, up to the
-- last that is changed
pub record Row : Type 0 where
  pub size : ℕ
  pub pattern : List ℕ
  pub queue : List ℕ
  pub numbers : List ℕ
  pub changed : List ℕ

abbrev buffer : Row → List ℕ
buffer r = take r.size (times r.size r.pattern)

abbrev expected : Row → FillOutcome
expected r = record { numbers = r.numbers; bytes = r.changed ++ drop (length r.changed) (buffer r) }

abbrev row : ℕ → List ℕ → List ℕ → List ℕ → List ℕ → Row
row size pattern queue numbers changed =
    record { size = size; pattern = pattern; queue = queue; numbers = numbers; changed = changed }

abbrev rows : List Row
rows =
    -- 135 bytes and 136, and none
    row 135 (0x41 ∷ []) (0x61 ∷ []) (7 ∷ []) [] ∷
    row 136 (0x41 ∷ []) (0x61 ∷ []) (0 ∷ 1 ∷ 1 ∷ []) (0x61 ∷ []) ∷
    row 0 (0x80 ∷ []) [] (7 ∷ []) [] ∷
    -- 7 before 1
    row 135 (0x80 ∷ []) (0xd800 ∷ []) (7 ∷ []) [] ∷
    row 136 (0x80 ∷ []) (0xd800 ∷ []) (1 ∷ []) [] ∷
    -- no character, behind all that would be encoded
    row 136 (0x41 ∷ []) (replicate 136 0x61 ++ (0x110000 ∷ [])) (1 ∷ []) [] ∷
    -- four bytes are free, and three
    row 136 (0x41 ∷ []) (replicate 132 0x61 ++ (0x10ffff ∷ 0x62 ∷ [])) (0 ∷ 133 ∷ 136 ∷ []) (replicate 132 0x61 ++ (0xf4 ∷ 0x8f ∷ 0xbf ∷ 0xbf ∷ [])) ∷
    row 136 (0x41 ∷ []) (replicate 134 0x61) (0 ∷ 133 ∷ 133 ∷ []) (replicate 133 0x61) ∷
    row 137 (0x80 ∷ []) (replicate 130 0x61 ++ (0xe9 ∷ 0xe9 ∷ 0xe9 ∷ [])) (0 ∷ 132 ∷ 134 ∷ [])
    (replicate 130 0x61 ++ (0xc3 ∷ 0xa9 ∷ 0xc3 ∷ 0xa9 ∷ 0 ∷ 0 ∷ 0 ∷ [])) ∷
    -- continuation bytes to the end, up to 7F, none before C0 and none before 41
    row 136 (0x80 ∷ []) (0xe9 ∷ []) (0 ∷ 1 ∷ 2 ∷ []) (0xc3 ∷ 0xa9 ∷ replicate 134 0) ∷
    row 136 (0x80 ∷ 0xbf ∷ 0x7f ∷ []) [] (0 ∷ 0 ∷ 0 ∷ []) (0 ∷ 0 ∷ []) ∷
    row 136 (0x80 ∷ 0xc0 ∷ []) (0x20ac ∷ []) (0 ∷ 1 ∷ 3 ∷ []) (0xe2 ∷ 0x82 ∷ 0xac ∷ []) ∷
    row 136 (0xbf ∷ 0x41 ∷ 0x80 ∷ []) (0x61 ∷ []) (0 ∷ 1 ∷ 1 ∷ []) (0x61 ∷ []) ∷
    []

-- "queue characters are encoded while at least 4 bytes are free; then continuation bytes (80..BF) from there on are zeroed up to the
-- first other byte."; "7 a byte buffer under 136."; "Order: 7, 1."
pub examples : map (λ (r : Row). fill_of r.queue (buffer r)) rows ≡ map expected rows
unfolding fill_of is_char encode_of continuation
examples = refl
