-- The entries: what a record holds, what a step and a chunk answer, and what a chunk leaves in the lent places. Calls on chunks, one after
-- the other.
use Rattle.std.specs.Prelude.{ℕ, zero, suc, ◌+◌, ◌≤◌, ◌<◌, cond, List, [], ◌∷◌, ◌++◌, ◌≡◌, eqb, length, get_or, drop, Result, Ok, Err}
use Rattle.std.proofs.lemmas.List.Edits.{sets}
use Rattle.common.specs.Answers.{refusal_number, room_refusal, refusal_in, written_in, wrote_in}
use Rattle.utf8_lossy.specs.declared.Pending.{Pending}
use Rattle.utf8_lossy.specs.declared.Pending.TheVariants.{Nothing, One, Two, Three}
use Rattle.utf8_lossy.specs.declared.Out.{Out}
use Rattle.utf8_lossy.specs.declared.Out.TheVariants.{Nothing as NoChar, One as OneChar, Two as TwoChars}
use Rattle.utf8_lossy.specs.declared.Stepped.{Stepped}
use Rattle.utf8_lossy.specs.declared.Decoded.{Decoded}
use Rattle.utf8_lossy.specs.Machine.{Turn, outs_of, rest_of, replaced_of}
use Rattle.common.specs.declared.Refusal.{Refusal}
use Rattle.utf8_lossy.specs.declared.Counted.{Counted}

-- the bytes that a record holds; no two records hold the same (`pending_back`)
abbrev pub pending_of : Pending → List ℕ
pending_of Nothing = []
pending_of (One a) = a ∷ []
pending_of (Two a b) = a ∷ b ∷ []
pending_of (Three a b c) = a ∷ b ∷ c ∷ []

-- ---- a step
-- the characters that are put out
abbrev pub chars_out : Out → List ℕ
chars_out NoChar = []
chars_out (OneChar c) = c ∷ []
chars_out (TwoChars c d) = c ∷ d ∷ []

-- what a step answers, as the machine has it
abbrev pub turn_in : Stepped → Turn
turn_in r = record { pending = pending_of r.next; out = chars_out r.out; replaced = r.replaced }

-- ---- a chunk
-- the answer by numbers: 0, how many characters were written and how many bytes are replaced in them; or the refusal's number
-- "Where an answer is an enum, a definition lists this paper's number and values for each case."
abbrev pub counted_numbers : Result Counted Refusal → List ℕ
counted_numbers (Ok counted) = 0 ∷ counted.written ∷ counted.replaced ∷ []
counted_numbers (Err e) = refusal_number e ∷ []

-- the answer by its numbers, the pending bytes after the call, and the lent places as it returns
pub record Outcome : Type 0 where
  pub numbers : List ℕ
  pub next : List ℕ
  pub places : List ℕ

-- what a call returned and left
abbrev pub outcome : Decoded → List ℕ → Outcome
outcome r places = record { numbers = counted_numbers r.answer; next = pending_of r.next; places = places }

-- a chunk of n bytes needs n + 1 places, an empty one none: each byte can put out a character, and the first one U+FFFD before it
abbrev pub places_for_bytes : ℕ → ℕ
places_for_bytes zero = 0
places_for_bytes (suc n) = suc n + 1

-- the number of the refusal, and 0 for none: "8 too few free places."
abbrev pub decode_refusal : List ℕ → List ℕ → ℕ
decode_refusal bs out = room_refusal (places_for_bytes (length bs)) (length out)

-- the chunk bs, where p is pending, into the places out: the characters from the first place on, and the others as they were; a refusal
-- changes nothing
unfoldable pub decode_of : List ℕ → List ℕ → List ℕ → Outcome
decode_of p bs out =
    cond (eqb (decode_refusal bs out) 0)
    (record {
      numbers = 0 ∷ length (outs_of p bs) ∷ replaced_of p bs ∷ [];
      next = rest_of p bs;
      places = sets out 0 (outs_of p bs);
    })
    (record { numbers = decode_refusal bs out ∷ []; next = p; places = out })

-- what a call leaves, without the definition's own words: of what was pending, the chunk and the places at entry, and what the call
-- returned and left
pub record DecodeLeaves (p bs out : List ℕ) (left : Outcome) : Type 0 where
  -- n + 1 places for n bytes, an empty chunk needs none
  pub refuses : 0 < length bs → length out ≤ length bs → left.numbers ≡ 8 ∷ []
  pub takes : length bs < length out → refusal_in left.numbers ≡ 0
  pub empty : length bs ≡ 0 → refusal_in left.numbers ≡ 0
  -- "1, 2, 7, 8, 9, 10 .. change nothing."
  pub nothing : 0 < refusal_in left.numbers → (left.next ≡ p) × (left.places ≡ out)
  -- the number written is at most that of the places
  pub fits : written_in left.numbers ≤ length out
  -- "Places past the filled .. ones are unchanged"
  pub past : drop (written_in left.numbers) left.places ≡ drop (written_in left.numbers) out

-- by an answer's numbers, how many bytes are replaced in what was written
abbrev pub replaced_in : List ℕ → ℕ
replaced_in ns = get_or ns 2 0

-- ---- chunks
-- the chunks joined
abbrev pub joined : List (List ℕ) → List ℕ
joined [] = []
joined (bs ∷ chunks) = bs ++ joined chunks

-- accepted calls on these chunks, one after the other, each over the record that the one before it left and any places: from the record
-- s on they write these characters in all, in which so many bytes are replaced, and leave the record u
pub data Calls : Pending → List (List ℕ) → List ℕ → ℕ → Pending → Type 0 where
  none : {s : Pending} → Calls s [] [] 0 s
  call : (s : Pending) {u : Pending} (bs out places : List ℕ) (r : Decoded) {chunks : List (List ℕ)} {cs : List ℕ} {n : ℕ}
      → outcome r places ≡ decode_of (pending_of s) bs out → refusal_in (counted_numbers r.answer) ≡ 0
      → Calls r.next chunks cs n u
      → Calls s (bs ∷ chunks) (wrote_in (counted_numbers r.answer) places ++ cs) (replaced_in (counted_numbers r.answer) + n) u
