-- What the entries come to, in the request's words, for any order, bytes, characters and places. Document 02, A.3.
use Rattle.std.specs.Prelude.{ℕ, ◌*◌, ◌/◌, ◌%◌, ◌≤◌, ◌<◌, ◌≡◌, true, List, [], ◌∷◌, ◌↔◌, length, get_or, take}
use Rattle.std.proofs.lemmas.List.Edits.{sets}
use Rattle.common.specs.Answers.{refusal_in, wrote_in}
use Rattle.scalars.specs.Chars.{are_chars}
use Rattle.scalars.specs.Utf8.{encode_all, chars_of}
use Rattle.utf16.specs.declared.ByteOrder.{ByteOrder}
use Rattle.utf16.specs.Utf16.{utf16_of, Encodes}
use Rattle.utf16.specs.Reading.{units_in, FirstUnpaired}
use Rattle.utf16.specs.Entries.{decode_answer, decode_places, encode_answer, encode_places}

-- each number of a list is a byte, as in a slice of bytes
abbrev pub Bytes : List ℕ → Type 0
Bytes bs = (i : ℕ) → get_or bs i 0 < 256

-- the bytes encode characters up to the unit at place i, and no start that has that unit encodes any
pub record BreaksAt (o : ByteOrder) (bs : List ℕ) (i : ℕ) : Type 0 where
  pub inside : i < length bs / 2
  pub before : (cs : List ℕ) × Encodes o (take (2 * i) bs) cs
  pub none_longer : (j : ℕ) (cs : List ℕ) → i < j → j ≤ length bs / 2 → Encodes o (take (2 * j) bs) cs → ⊥

-- what reading answers and leaves, where bs are bytes
pub record Reads (o : ByteOrder) (bs out : List ℕ) : Type 0 where
  -- n characters are read exactly where the bytes encode n characters and there is a place for each: nothing well-formed is refused
  pub reads : (n : ℕ) →
      (decode_answer o bs out ≡ 0 ∷ n ∷ []) ↔ ((cs : List ℕ) × (Encodes o bs cs × ((length cs ≡ n) × (length cs ≤ length out))))
  -- they stand in the first places, and the others are as they were
  pub places : (cs : List ℕ) → Encodes o bs cs → length cs ≤ length out → decode_places o bs out ≡ sets out 0 cs
  -- "14 for an odd number of bytes"
  pub odd : (decode_answer o bs out ≡ 14 ∷ []) ↔ (length bs % 2 ≡ 1)
  -- "15 for an unpaired surrogate, with the first such unit's place counted from 0"
  pub unpaired : (i : ℕ) → (decode_answer o bs out ≡ 15 ∷ i ∷ []) ↔ ((length bs % 2 ≡ 0) × FirstUnpaired (units_in o bs) i)
  -- the same place by what stands before it
  pub breaks : (i : ℕ) → decode_answer o bs out ≡ 15 ∷ i ∷ [] → BreaksAt o bs i
  -- "8 for lack of room": "Reading needs one place for each character decoded."
  pub room : (decode_answer o bs out ≡ 8 ∷ []) ↔ ((cs : List ℕ) × (Encodes o bs cs × (length out < length cs)))
  -- "none of them writes anything"
  pub nothing_written : 0 < refusal_in (decode_answer o bs out) → decode_places o bs out ≡ out

-- what writing answers and leaves
pub record Writes (o : ByteOrder) (cs out : List ℕ) : Type 0 where
  -- "Writing needs 4 bytes of room for each character": n bytes are written exactly where all are characters, there is that room, and
  -- their encoding has n
  pub writes : (n : ℕ) →
      (encode_answer o cs out ≡ 0 ∷ n ∷ []) ↔ ((are_chars cs ≡ true) × ((4 * length cs ≤ length out) × (length (utf16_of o cs) ≡ n)))
  -- the encoding stands in the first places, and the others are as they were
  pub places : are_chars cs ≡ true → 4 * length cs ≤ length out → encode_places o cs out ≡ sets out 0 (utf16_of o cs)
  -- "none of them writes anything"
  pub nothing_written : 0 < refusal_in (encode_answer o cs out) → encode_places o cs out ≡ out

-- there and back, each call by its answer and the places it leaves. "The facts hold for both orders from one proof with the order as a
-- parameter."
pub record RoundTrips (o : ByteOrder) : Type 0 where
  -- "For accepted input with enough room, decoding then encoding returns the bytes"
  pub decode_encode : (bs out : List ℕ) → Bytes bs → refusal_in (decode_answer o bs out) ≡ 0 →
      let cs = wrote_in (decode_answer o bs out) (decode_places o bs out) in
      (buf : List ℕ) → 4 * length cs ≤ length buf →
      (refusal_in (encode_answer o cs buf) ≡ 0) × (wrote_in (encode_answer o cs buf) (encode_places o cs buf) ≡ bs)
  -- "and encoding then decoding returns the characters"
  pub encode_decode : (cs buf : List ℕ) → refusal_in (encode_answer o cs buf) ≡ 0 →
      let bs = wrote_in (encode_answer o cs buf) (encode_places o cs buf) in
      (out : List ℕ) → length cs ≤ length out →
      (refusal_in (decode_answer o bs out) ≡ 0) × (wrote_in (decode_answer o bs out) (decode_places o bs out) ≡ cs)

-- a text of characters is the same read from either kind of file: what reading its UTF-16 leaves is what decoding its UTF-8 gives
abbrev pub SameText : ByteOrder → List ℕ → Type 0
SameText o cs =
    (bs out : List ℕ) → Encodes o bs cs → length cs ≤ length out →
    wrote_in (decode_answer o bs out) (decode_places o bs out) ≡ chars_of (encode_all cs)
