-- What the counts and digits are, in other words than their definitions: by every byte, computed, and by lists of bytes joined. So a
-- definition and a function that are wrong alike break them.
--     newline_bytes, start_bytes     which bytes count
--     digit-bytes, other_bytes       which bytes are digits, and their values
--     numbers_rows                   texts and their numbers, worked out by hand
--     tally_append                   the counts of joined bytes add up
--     since_append, since_all        bytes since the last 0A: those behind it; all, where there is none
use Prim.Native.Nat.{ℕ, zero, suc, ◌+◌, ◌-◌}
use mathlib.Core.Bool.{Bool, true, false, cond}
use mathlib.Core.List.{List, [], ◌∷◌, ◌++◌, map}
use mathlib.Core.Path.{◌≡◌, refl, ◌∙◌}
use native.Mathlib.Omega.{arith}
use lib.Dec.{eqb}
use lib.ListN.{length}
use Rattle.command_bytes.specs.Counts.{tally, is_newline, newlines, starts, since_newline}
use Rattle.command_bytes.specs.Digits.{digit_of}
use Rattle.command_bytes.specs.Words.{Read, read_in, read_from, begin_of, numbers_of}
use Rattle.std.specs.Prelude.{Ok, Err}
use Rattle.command_bytes.specs.declared.numbers.ParseError.TheVariants.{NoNumber, Many}

-- n bytes from b on
abbrev from : ℕ → ℕ → List ℕ
from b zero = []
from b (suc n) = b ∷ from (b + 1) n

-- ---- which bytes count: of all 256 one is a line end, 0A; and all begin a character but the 64 from 80 to BF
pub newline_bytes : (newlines (from 0 256) ≡ 1) × (newlines (0x0A ∷ []) ≡ 1)
unfolding tally
newline_bytes = (refl, refl)

pub start_bytes : (starts (from 0 0x80) ≡ 128) × (starts (from 0x80 64) ≡ 0) × (starts (from 0xC0 64) ≡ 64)
unfolding tally
start_bytes = (refl, refl, refl)

-- ---- which bytes are digits: 0 to 9, A to F and a to f, by their values; and no other of all 256
pub digit-bytes :
    (map digit_of (from 0x30 10) ≡ 0 ∷ 1 ∷ 2 ∷ 3 ∷ 4 ∷ 5 ∷ 6 ∷ 7 ∷ 8 ∷ 9 ∷ [])
    × (map digit_of (from 0x41 6) ≡ 10 ∷ 11 ∷ 12 ∷ 13 ∷ 14 ∷ 15 ∷ [])
    × (map digit_of (from 0x61 6) ≡ 10 ∷ 11 ∷ 12 ∷ 13 ∷ 14 ∷ 15 ∷ [])
unfolding digit_of
digit-bytes = (refl, refl, refl)

pub other_bytes : tally (λ b. eqb (digit_of b) 16) (from 0 256) ≡ 256 - 22
unfolding tally digit_of
other_bytes = refl

-- ---- texts and their numbers
pub record Row : Type 0 where
  pub bytes : List ℕ
  pub places : List ℕ
  pub expected : Read

abbrev row : List ℕ → List ℕ → Read → Row
row bytes places expected = record { bytes = bytes; places = places; expected = expected }

unfoldable pub rows : List Row
rows =
    -- P 0 1 0 377 and 0A: four numbers, and the places behind them as they were
    row (0x50 ∷ 0x20 ∷ 0x30 ∷ 0x20 ∷ 0x31 ∷ 0x20 ∷ 0x30 ∷ 0x20 ∷ 0x33 ∷ 0x37 ∷ 0x37 ∷ 0x0A ∷ []) (0xEE ∷ 0xEE ∷ 0xEE ∷ 0xEE ∷ 0xEE ∷ [])
    (read_in (Ok 4) (0 ∷ 1 ∷ 0 ∷ 0x377 ∷ 0xEE ∷ []))
    -- without P; small and capital digits; tab, 0D and 0A, one after the other, and at both ends
    ∷ row (0x09 ∷ 0x31 ∷ 0x66 ∷ 0x09 ∷ 0x31 ∷ 0x46 ∷ 0x0D ∷ 0x0A ∷ 0x41 ∷ 0x20 ∷ []) (0xEE ∷ 0xEE ∷ 0xEE ∷ [])
    (read_in (Ok 3) (0x1F ∷ 0x1F ∷ 0xA ∷ []))
    -- no number at all
    ∷ row [] (0xEE ∷ []) (read_in (Ok 0) (0xEE ∷ []))
    ∷ row (0x50 ∷ 0x20 ∷ []) [] (read_in (Ok 0) [])
    -- FFFFFFFF is a number, zeros before it or not; 100000000 is none
    ∷ row (0x30 ∷ 0x46 ∷ 0x46 ∷ 0x46 ∷ 0x46 ∷ 0x46 ∷ 0x46 ∷ 0x46 ∷ 0x46 ∷ []) (0xEE ∷ []) (read_in (Ok 1) (0xFFFFFFFF ∷ []))
    ∷ row (0x31 ∷ 0x30 ∷ 0x30 ∷ 0x30 ∷ 0x30 ∷ 0x30 ∷ 0x30 ∷ 0x30 ∷ 0x30 ∷ []) (0xEE ∷ []) (read_in (Err NoNumber) (0x10000000 ∷ []))
    -- P alone, P before a digit, P behind a number, and a g
    ∷ row (0x50 ∷ []) (0xEE ∷ []) (read_in (Err NoNumber) (0xEE ∷ []))
    ∷ row (0x50 ∷ 0x31 ∷ []) (0xEE ∷ []) (read_in (Err NoNumber) (0xEE ∷ []))
    ∷ row (0x31 ∷ 0x20 ∷ 0x50 ∷ 0x20 ∷ []) (0xEE ∷ []) (read_in (Err NoNumber) (1 ∷ []))
    ∷ row (0x31 ∷ 0x67 ∷ []) (0xEE ∷ []) (read_in (Err NoNumber) (1 ∷ []))
    -- two numbers, and one place
    ∷ row (0x31 ∷ 0x20 ∷ 0x32 ∷ []) (0xEE ∷ []) (read_in (Err Many) (1 ∷ []))
    ∷ []

pub numbers_rows : map (λ (r : Row). numbers_of r.bytes r.places) rows ≡ map (λ (r : Row). r.expected) rows
unfolding rows numbers_of read_from begin_of digit_of
numbers_rows = refl

-- ---- joined bytes
pub tally_append : (is : ℕ → Bool) (xs ys : List ℕ) → tally is (xs ++ ys) ≡ tally is xs + tally is ys
unfolding tally
tally_append is [] ys = omega arith
tally_append is (b ∷ xs) ys = omega (arith, tally_append is xs ys)

pub since_append : (n : ℕ) (xs ys : List ℕ) → since_newline n (xs ++ (0x0A ∷ ys)) ≡ since_newline 0 ys
unfolding since_newline
since_append n [] ys = refl
since_append n (b ∷ xs) ys = since_append (cond (is_newline b) 0 (n + 1)) xs ys

since_by : (n b : ℕ) (ys : List ℕ) (is : Bool) → cond is 1 0 + newlines ys ≡ 0 →
    ((m : ℕ) → newlines ys ≡ 0 → since_newline m ys ≡ m + length ys) → since_newline (cond is 0 (n + 1)) ys ≡ n + length (b ∷ ys)
since_by n b ys true h ih = absurd (omega (arith, h))
since_by n b ys false h ih = ih (n + 1) (omega (arith, h)) ∙ omega arith

pub since_all : (n : ℕ) (ys : List ℕ) → newlines ys ≡ 0 → since_newline n ys ≡ n + length ys
unfolding since_newline tally
since_all n [] h = omega arith
since_all n (b ∷ ys) h = since_by n b ys (is_newline b) h (λ m g. since_all m ys g)
