-- The bytes filled from a queue decode to the characters taken from it. Idea: these characters are the first of the queue, the bytes
-- filled are their encoding, and decoding an encoding gives it back (`decode_encode` of unicode).
--     taken_first       the characters taken are the queue's first
--     filled_decodes    where a fill answers how many it took and filled, so many of its bytes decode to so many of the queue
use Prim.Native.Nat.{ℕ, ◌-◌}
use mathlib.Core.Bool.{true}
use mathlib.Core.List.{List, [], ◌∷◌, ◌++◌}
use mathlib.Core.Path.{◌≡◌, refl, ap}
use native.Mathlib.Omega.{arith}
use lib.Dec.{ltb}
use lib.ListN.{length, take}
use lib.Seq.{take-append_seam}
use Rattle.scalars.specs.Chars.{is_char, are_chars}
use Rattle.scalars.specs.Utf8.{encode_of, encode_all, chars_of}
use Rattle.common.proofs.Kit.{split, both_true, both}
use Rattle.scalars.proofs.Texts.{decode_encode}
use Rattle.text_input_fill.specs.Fill.{taken_chars, FillOutcome, fill_refused, filled_bytes, fill_of}

pub taken_first : (free : ℕ) (queue : List ℕ) → taken_chars free queue ≡ take (length (taken_chars free queue)) queue
taken_first free [] = refl
taken_first free (c ∷ cs) =
    split (λ (l : List ℕ). l ≡ take (length l) (c ∷ cs)) (ltb free 4) (λ e. refl)
    (λ e. ap (λ (l : List ℕ). c ∷ l) (taken_first (free - length (encode_of c)) cs))

-- what is taken from characters is characters
taken_chars_lem : (free : ℕ) (queue : List ℕ) → are_chars queue ≡ true → are_chars (taken_chars free queue) ≡ true
taken_chars_lem free [] h = refl
taken_chars_lem free (c ∷ cs) h =
    let k = both_true (is_char c) (are_chars cs) h in
    split (λ (l : List ℕ). are_chars l ≡ true) (ltb free 4) (λ e. refl) (λ e. both k.0 (taken_chars_lem (free - length (encode_of c)) cs k.1))

-- of an answer and the bytes after: those filled decode to the characters taken
abbrev Decodes : List ℕ → FillOutcome → Type 0
Decodes queue o = (t n : ℕ) → o.numbers ≡ 0 ∷ t ∷ n ∷ [] → chars_of (take n o.bytes) ≡ take t queue

-- a refusal answers no counts
refused_decodes : (queue buf : List ℕ) (r : ℕ) → Decodes queue (fill_refused r buf)
refused_decodes queue buf r t n h = let z : ◌≡◌ {A = ℕ} 0 1 = cc in let e : ⊥ = omega arith in absurd e

-- the bytes filled, and any others behind them
accepted_decodes : (queue buf rest : List ℕ) → are_chars queue ≡ true →
    Decodes queue
    (record { numbers = 0 ∷ length (taken_chars (length buf) queue) ∷ length (filled_bytes queue buf) ∷ []; bytes = filled_bytes queue buf ++ rest })
accepted_decodes queue buf rest s t n h =
    let xs = taken_chars (length buf) queue in
    let a : t ≡ length xs = cc in
    let b : n ≡ length (encode_all xs) = cc in
    rw (a, b, take-append_seam (encode_all xs) rest, decode_encode xs (taken_chars_lem (length buf) queue s)) (taken_first (length buf) queue)

-- for every queue and buffer
pub filled_decodes : (queue buf : List ℕ) (t n : ℕ) → (fill_of queue buf).numbers ≡ 0 ∷ t ∷ n ∷ [] →
    chars_of (take n (fill_of queue buf).bytes) ≡ take t queue
unfolding fill_of
filled_decodes queue buf =
    split (Decodes queue) (ltb (length buf) 136) (λ e. refused_decodes queue buf 7)
    (λ e. split (Decodes queue) (are_chars queue) (λ s. accepted_decodes queue buf _ s) (λ s. refused_decodes queue buf 1))
