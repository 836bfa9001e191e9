-- The two entries: what reading and writing answer, and the places they leave. Document 02, A.3.
use Rattle.std.specs.Prelude.{ℕ, ◌*◌, ◌%◌, cond, not, List, [], ◌∷◌, eqb, ltb, length, Result, Ok, Err}
use Rattle.std.proofs.lemmas.List.Edits.{sets}
use Rattle.common.specs.Answers.{refusal_in, room_refusal}
use Rattle.scalars.specs.Chars.{are_chars}
use Rattle.utf16.specs.declared.ByteOrder.{ByteOrder}
use Rattle.utf16.specs.Utf16.{utf16_of}
use Rattle.utf16.specs.Reading.{units_in, unpaired_in, chars_in}
use Rattle.utf16.specs.declared.DecodeError.{DecodeError}
use Rattle.utf16.specs.declared.DecodeError.TheVariants.{OddBytes, Unpaired, NoRoom}

-- ---- reading
-- an answer by numbers: 0 and how many characters; 15 and the place of the unit; or another refusal's number
abbrev pub decoded_numbers : Result ℕ DecodeError → List ℕ
decoded_numbers (Ok n) = 0 ∷ n ∷ []
decoded_numbers (Err (Unpaired place)) = 15 ∷ place ∷ []
decoded_numbers (Err OddBytes) = 14 ∷ []
decoded_numbers (Err NoRoom) = 8 ∷ []

-- by the places of unpaired units, the characters decoded and the places lent: "then 15 for an unpaired surrogate, with the first such
-- unit's place counted from 0, then 8 for lack of room"
abbrev pub paired_answer : List ℕ → ℕ → ℕ → List ℕ
paired_answer (place ∷ later) n room = 15 ∷ place ∷ []
paired_answer [] n room = cond (ltb room n) (8 ∷ []) (0 ∷ n ∷ [])

-- "Answers: 14 for an odd number of bytes". "Reading needs one place for each character decoded."
unfoldable pub decode_answer : ByteOrder → List ℕ → List ℕ → List ℕ
decode_answer o bs out =
    cond (eqb (length bs % 2) 1) (14 ∷ [])
    (paired_answer (unpaired_in (units_in o bs)) (length (chars_in (units_in o bs))) (length out))

-- the places as reading leaves them: the characters from the first on, and the others as they were; "none of them writes anything"
unfoldable pub decode_places : ByteOrder → List ℕ → List ℕ → List ℕ
decode_places o bs out = cond (eqb (refusal_in (decode_answer o bs out)) 0) (sets out 0 (chars_in (units_in o bs))) out

-- ---- writing
-- the number of the refusal, and 0 for none: "Writing needs 4 bytes of room for each character and gives 1 and 8 as elsewhere."
abbrev pub encode_refusal : List ℕ → List ℕ → ℕ
encode_refusal cs out = cond (not (are_chars cs)) 1 (room_refusal (4 * length cs) (length out))

-- 0 and how many bytes, or the refusal's number
unfoldable pub encode_answer : ByteOrder → List ℕ → List ℕ → List ℕ
encode_answer o cs out = cond (eqb (encode_refusal cs out) 0) (0 ∷ length (utf16_of o cs) ∷ []) (encode_refusal cs out ∷ [])

-- the bytes as writing leaves them: those of the characters from the first on, and the others as they were; "none of them writes
-- anything"
unfoldable pub encode_places : ByteOrder → List ℕ → List ℕ → List ℕ
encode_places o cs out = cond (eqb (encode_refusal cs out) 0) (sets out 0 (utf16_of o cs)) out
