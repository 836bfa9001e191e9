-- The order of refusals of reading and of writing; and an answer read back from its numbers.
--     decode_order     reading is refused by 14, then by 15, then by 8
--     encode_order     writing is refused by 1, then by 8
--     decoded_back     for every answer, that of its numbers is it: no two answers list alike
--     decoded_named    a refusal has the number of the variant of `Refusal` that is named for it
use Prim.Native.Nat.{ℕ, ◌*◌, ◌%◌}
use mathlib.Core.Path.{◌≡◌, refl}
use mathlib.Core.Bool.{Bool, true, false, not, cond}
use mathlib.Core.List.{List, [], ◌∷◌}
use lib.Dec.{eqb, ltb}
use lib.ListN.{length}
use Rattle.common.specs.Answers.{refusal_in, refusal_number}
use Rattle.common.specs.declared.Refusal.TheVariants as refusal
use Rattle.common.specs.Order.{◌when◌, first_of}
use Rattle.scalars.specs.Chars.{are_chars}
use Rattle.utf16.specs.declared.ByteOrder.{ByteOrder}
use Rattle.utf16.specs.Utf16.{utf16_of}
use Rattle.utf16.specs.Reading.{units_in, unpaired_at, unpaired_in, chars_in}
use Rattle.utf16.specs.Entries.{decoded_numbers, paired_answer, decode_answer, encode_answer}
use Rattle.utf16.proofs.Places.{some, any, some_listed}
use Rattle.utf16.specs.declared.DecodeError.{DecodeError}
use Rattle.utf16.specs.declared.DecodeError.TheVariants.{OddBytes, Unpaired, NoRoom}
use Rattle.std.specs.Prelude.{Result, Ok, Err}

-- by whether the bytes are odd in number (a), the unpaired units (l), and whether there are too few places (r)
decode_by : (a r : Bool) (l : List ℕ) (n room : ℕ) → ltb room n ≡ r →
    refusal_in (cond a (14 ∷ []) (paired_answer l n room)) ≡ first_of (14 when a ∷ 15 when any l ∷ 8 when r ∷ [])
decode_by true r l n room e = refl
decode_by false r (i ∷ later) n room e = refl
decode_by false true [] n room e = rw e refl
decode_by false false [] n room e = rw e refl

-- "14 for an odd number of bytes, then 15 for an unpaired surrogate, with the first such unit's place counted from 0, then 8 for lack of
-- room": refused by n exactly when its condition holds and none before it. "Demand 1 takes in these numbers and later ones.": it is that law
pub decode_order : (o : ByteOrder) (bs out : List ℕ) →
    let us = units_in o bs in
    refusal_in (decode_answer o bs out)
    ≡ first_of (14 when eqb (length bs % 2) 1 ∷ 15 when some (unpaired_at us) (length us) ∷ 8 when ltb (length out) (length (chars_in us)) ∷ [])
unfolding decode_answer
decode_order o bs out =
    let us = units_in o bs in
    rw (← (some_listed us)) (decode_by (eqb (length bs % 2) 1) (ltb (length out) (length (chars_in us))) (unpaired_in us) (length (chars_in us)) (length out) refl)

encode_by : (s r : Bool) (n : ℕ) →
    let k : ℕ = cond (not s) 1 (cond r 8 0) in
    refusal_in (cond (eqb k 0) (0 ∷ n ∷ []) (k ∷ [])) ≡ first_of (1 when not s ∷ 8 when r ∷ [])
encode_by false r n = refl
encode_by true false n = refl
encode_by true true n = refl

-- "Writing needs 4 bytes of room for each character and gives 1 and 8 as elsewhere."
pub encode_order : (o : ByteOrder) (cs out : List ℕ) →
    refusal_in (encode_answer o cs out) ≡ first_of (1 when not (are_chars cs) ∷ 8 when ltb (length out) (4 * length cs) ∷ [])
unfolding encode_answer
encode_order o cs out = encode_by (are_chars cs) (ltb (length out) (4 * length cs)) (length (utf16_of o cs))

-- ---- an answer read back
abbrev answer_of : List ℕ → Result ℕ DecodeError
answer_of [] = Err OddBytes
answer_of (n ∷ []) = Err (cond (eqb n 14) OddBytes NoRoom)
answer_of (n ∷ k ∷ ns) = cond (eqb n 0) (Ok k) (Err (Unpaired k))

pub decoded_back : (a : Result ℕ DecodeError) → answer_of (decoded_numbers a) ≡ a
decoded_back (Ok n) = refl
decoded_back (Err OddBytes) = refl
decoded_back (Err (Unpaired place)) = refl
decoded_back (Err NoRoom) = refl

-- "14 for an odd number of bytes, then 15 for an unpaired surrogate": by the refusals' names
pub decoded_named : (place : ℕ) →
    (decoded_numbers (Err OddBytes) ≡ refusal_number refusal.OddBytes ∷ [])
    × (decoded_numbers (Err (Unpaired place)) ≡ refusal_number refusal.UnpairedSurrogate ∷ place ∷ [])
    × (decoded_numbers (Err NoRoom) ≡ refusal_number refusal.NoRoom ∷ [])
decoded_named place = (refl, refl, refl)
