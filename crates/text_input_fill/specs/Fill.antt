-- Filling bytes: "queue characters are encoded while at least 4 bytes are free; then continuation bytes (80..BF) from there on are
-- zeroed up to the first other byte. The characters taken and the bytes filled are both returned. Order: 7, 1."
-- Document 01, "A stream finishes" and "Refused ..".
use Rattle.std.specs.Prelude.{ℕ, ◌-◌, cond, List, [], ◌∷◌, ◌++◌, ltb, length, drop, Result, Ok, Err}
use Rattle.common.specs.declared.Refusal.{Refusal}
use Rattle.common.specs.Answers.{refusal_number}
use Rattle.scalars.specs.Chars.{are_chars}
use Rattle.scalars.specs.Utf8.{encode_of, continuation, encode_all}
use Rattle.text_input_fill.specs.declared.Filled.{Filled}

-- the characters that are encoded, with so many bytes free
-- "Filling bytes: queue characters are encoded while at least 4 bytes are free"
abbrev pub taken_chars : ℕ → List ℕ → List ℕ
taken_chars free [] = []
taken_chars free (c ∷ cs) = cond (ltb free 4) [] (c ∷ taken_chars (free - length (encode_of c)) cs)

-- "continuation bytes (80..BF) from there on are zeroed up to the first other byte"
abbrev pub zeroed : List ℕ → List ℕ
zeroed [] = []
zeroed (b ∷ bs) = cond (continuation b) (0 ∷ zeroed bs) (b ∷ bs)

-- an answer by document 01's numbers: 0, the characters taken and the bytes filled; or the refusal's number
-- "The characters taken and the bytes filled are both returned."
abbrev pub filled_numbers : Result Filled Refusal → List ℕ
filled_numbers (Ok filled) = 0 ∷ filled.taken ∷ filled.bytes ∷ []
filled_numbers (Err e) = refusal_number e ∷ []

-- the answer's numbers, and the bytes as the call returns
pub record FillOutcome : Type 0 where
  pub numbers : List ℕ
  pub bytes : List ℕ

-- what a call returned and left
abbrev pub fill_outcome : Result Filled Refusal → List ℕ → FillOutcome
fill_outcome r bytes = record { numbers = filled_numbers r; bytes = bytes }

-- refused by a number: the bytes as they were
-- "1, 2, 7, 8, 9, 10 .. change nothing."
abbrev pub fill_refused : ℕ → List ℕ → FillOutcome
fill_refused n buf = record { numbers = n ∷ []; bytes = buf }

-- the bytes filled
abbrev pub filled_bytes : List ℕ → List ℕ → List ℕ
filled_bytes qs buf = encode_all (taken_chars (length buf) qs)

-- the queue qs into the buffer buf: "7 a byte buffer under 136", then 1
-- "then continuation bytes (80..BF) from there on are zeroed"; else the bytes past the filled ones "are unchanged, but for the zeroed
-- bytes of filling." "Order: 7, 1."
unfoldable pub fill_of : List ℕ → List ℕ → FillOutcome
fill_of qs buf =
    cond (ltb (length buf) 136) (fill_refused 7 buf)
    (cond (are_chars qs)
    (record {
      numbers = 0 ∷ length (taken_chars (length buf) qs) ∷ length (filled_bytes qs buf) ∷ [];
      bytes = filled_bytes qs buf ++ zeroed (drop (length (filled_bytes qs buf)) buf);
    })
    (fill_refused 1 buf))
