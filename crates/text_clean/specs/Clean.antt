-- The calls on bytes: what they answer, the record after and the lent places after, refused or not. What is written is the encoding of
-- what the decoded characters come to.
use Rattle.std.specs.Prelude.{ℕ, zero, suc, ◌+◌, ◌*◌, Bool, false, cond, not, List, [], ◌∷◌, eqb, length, Result, Ok, Err}
use Rattle.std.proofs.lemmas.List.Edits.{sets}
use Rattle.common.specs.Answers.{then_room}
use Rattle.scalars.specs.Utf8.{encode_all}
use Rattle.page.specs.Page.{accepted}
use Rattle.utf8_lossy.specs.Machine.{outs_of, rest_of, replaced_of}
use Rattle.utf8_lossy.specs.Decode.{pending_of}
use Rattle.utf8_lossy.specs.Machine as decoder
use Rattle.text_input.specs.declared.Options.{Options}
use Rattle.text_clean.specs.declared.text.Text.{Text}
use Rattle.text_clean.specs.declared.Cleaner.{Cleaner}
use Rattle.text_clean.specs.declared.Cleaned.{Cleaned}
use Rattle.text_clean.specs.Text.{Passed, joined, passed_of, closed_of}
use Rattle.common.specs.declared.Refusal.{Refusal}
use Rattle.common.specs.Answers.{refusal_number}
use Rattle.text_clean.specs.declared.Counts.{Counts}

-- an answer by numbers: 0, the bytes written, the characters read, the bytes that U+FFFD stands for, the characters dropped and the
-- line ends lost; or the refusal's number
abbrev pub clean_numbers : Result Counts Refusal → List ℕ
clean_numbers (Ok c) = 0 ∷ c.written ∷ c.read ∷ c.replaced ∷ c.dropped ∷ c.lost ∷ []
clean_numbers (Err e) = refusal_number e ∷ []

-- the answer's numbers, the record after the call, by the bytes of a character that is cut off and the text, and the places as the
-- call returns
pub record Outcome : Type 0 where
  pub numbers : List ℕ
  pub pending : List ℕ
  pub text : Text
  pub places : List ℕ

-- what a call returned and left
abbrev pub outcome : Cleaned → List ℕ → Outcome
outcome r places =
    record { numbers = clean_numbers r.answer; pending = pending_of r.next.pending; text = r.next.text; places = places }

-- refused by a number: record and places as they were
abbrev pub refused : Cleaner → ℕ → List ℕ → Outcome
refused r n places = record { numbers = n ∷ []; pending = pending_of r.pending; text = r.text; places = places }

-- accepted: so many characters were read, U+FFFD stands for so many bytes, and what they come to is encoded into the first places
abbrev pub done : ℕ → ℕ → List ℕ → Passed → List ℕ → Outcome
done read replaced pending x places =
    record {
      numbers = 0 ∷ length (encode_all x.out) ∷ read ∷ replaced ∷ x.dropped ∷ x.lost ∷ [];
      pending = pending;
      text = x.next;
      places = sets places 0 (encode_all x.out);
    }

-- a refusal's number, and 0 for none, by the page, the places that are needed and those that are lent: 2, then 8
abbrev pub refusal_of : List ℕ → ℕ → ℕ → ℕ
refusal_of p needed room = then_room (cond (not (accepted p)) 2 0) needed room

-- ---- bytes come in
-- three places for each byte, those of a character cut off included, and those for 34F before a text and after it; an empty chunk needs
-- none
abbrev pub places_for_bytes : ℕ → ℕ
places_for_bytes zero = 0
places_for_bytes (suc n) = 3 * suc n + 13

-- the characters of the chunk, from a record on, and what they come to
abbrev pub chars_in : Cleaner → List ℕ → List ℕ
chars_in r bs = outs_of (pending_of r.pending) bs

unfoldable pub clean_of : Cleaner → List ℕ → Options → Bool → List ℕ → List ℕ → Outcome
clean_of r p o lines bs places =
    cond (eqb (refusal_of p (places_for_bytes (length bs)) (length places)) 0)
    (done (length (chars_in r bs)) (replaced_of (pending_of r.pending) bs) (rest_of (pending_of r.pending) bs)
    (passed_of p o lines r.text (chars_in r bs)) places)
    (refused r (refusal_of p (places_for_bytes (length bs)) (length places)) places)

-- ---- the text ends, or is pushed
-- U+FFFD for the bytes of a character cut off; then the text's end
abbrev pub finish_passed : Cleaner → List ℕ → Options → Bool → Passed
finish_passed r p o eof =
    let x : Passed = passed_of p o false r.text (decoder.finish_of (pending_of r.pending)) in joined x (closed_of x.next eof)

unfoldable pub finish_of : Cleaner → List ℕ → Options → Bool → List ℕ → Outcome
finish_of r p o eof places =
    cond (eqb (refusal_of p 8 (length places)) 0)
    (done (length (decoder.finish_of (pending_of r.pending))) (length (pending_of r.pending)) [] (finish_passed r p o eof) places)
    (refused r (refusal_of p 8 (length places)) places)
