-- A list of calls on a cleaner's record, refused ones included, and what a caller sees of it.
use Rattle.std.specs.Prelude.{ℕ, ◌+◌, ◌*◌, Bool, true, cond, ◌&&◌, ◌||◌, List, [], ◌∷◌, ◌++◌, ◌≡◌, eqb, leb, length, get_or}
use Rattle.common.specs.Answers.{written_in, wrote_in}
use Rattle.page.specs.Page.{accepted}
use Rattle.utf8_lossy.specs.Decode.{pending_of}
use Rattle.text_input.specs.declared.Options.{Options}
use Rattle.text_clean.specs.declared.Cleaner.{Cleaner}
use Rattle.text_clean.specs.declared.Cleaned.{Cleaned}
use Rattle.text_clean.specs.Text.{fresh_text}
use Rattle.text_clean.specs.Clean.{clean_numbers, Outcome, outcome, clean_of, finish_of}

-- ---- the calls
-- a clean brings a page, options, whether each line is a text of its own, a chunk of bytes and lent places; a finish a page, options,
-- whether it is end of file, and lent places
pub data Call : Type 0 where
  clean : (page : List ℕ) → Options → (lines : Bool) → (bytes places : List ℕ) → Call
  finish : (page : List ℕ) → Options → (eof : Bool) → (places : List ℕ) → Call

-- what a call on a record returns and leaves: the contracts of `clean` and `finish`
abbrev pub call_of : Cleaner → Call → Outcome
call_of r (clean page options lines bytes places) = clean_of r page options lines bytes places
call_of r (finish page options eof places) = finish_of r page options eof places

-- a record as first made, by what `new` ensures: no bytes are pending, and the text is before its first character
pub record Fresh (r : Cleaner) : Type 0 where
  pub pending : pending_of r.pending ≡ []
  pub text : r.text ≡ fresh_text

-- ---- what a caller sees
-- what a call returned, and the places after it
pub record Answered : Type 0 where
  pub returned : Cleaned
  pub places : List ℕ

-- for each call what it returned and left; each call gets the record that the call before it returned, refused or not, and nobody else
-- writes that record in between
abbrev pub Seen : Cleaner → List Call → List Answered → Type 0
Seen r [] [] = Unit {0}
Seen r [] (s ∷ seen) = ⊥
Seen r (c ∷ calls) [] = ⊥
Seen r (c ∷ calls) (s ∷ seen) =
    (outcome s.returned s.places ≡ call_of r c) × Seen s.returned.next calls seen

-- its answer by numbers
abbrev pub numbers_of : Answered → List ℕ
numbers_of s = clean_numbers s.returned.answer

-- the output joins what each accepted call had written when it returned: a refused one wrote nothing
unfoldable pub output_of : List Answered → List ℕ
output_of [] = []
output_of (s ∷ seen) = wrote_in (numbers_of s) s.places ++ output_of seen

-- ---- what the answers count, by their numbers: a refused call counts nothing
abbrev pub read_in : List ℕ → ℕ
read_in ns = get_or ns 2 0

abbrev pub replaced_in : List ℕ → ℕ
replaced_in ns = get_or ns 3 0

abbrev pub dropped_in : List ℕ → ℕ
dropped_in ns = get_or ns 4 0

abbrev pub lost_in : List ℕ → ℕ
lost_in ns = get_or ns 5 0

-- the sum of one count over all answers
unfoldable pub total_of : (List ℕ → ℕ) → List Answered → ℕ
total_of count [] = 0
total_of count (s ∷ seen) = count (numbers_of s) + total_of count seen

-- all of them: bytes written, characters read, bytes that U+FFFD stands for, characters dropped, line ends lost
pub record Totals : Type 0 where
  pub written : ℕ
  pub read : ℕ
  pub replaced : ℕ
  pub dropped : ℕ
  pub lost : ℕ

abbrev pub totals_of : List Answered → Totals
totals_of seen =
    record {
      written = total_of written_in seen;
      read = total_of read_in seen;
      replaced = total_of replaced_in seen;
      dropped = total_of dropped_in seen;
      lost = total_of lost_in seen;
    }

-- ---- which calls are accepted
-- The refusal conditions alone decide it. They are written out, and not asked of the calls; `accepts_told` (proofs/Listed.antt) says
-- that the calls go by them. The page is accepted, and the places are 3 × n + 13 for n bytes, any for an empty chunk; 8 for a finish.
abbrev pub accepts : Call → Bool
accepts (clean page options lines bytes places) =
    accepted page && (eqb (length bytes) 0 || leb (3 * length bytes + 13) (length places))
accepts (finish page options eof places) = accepted page && leb 8 (length places)

-- the accepted calls. A refused one may bring anything; it adds nothing to text, output or counts.
unfoldable pub accepted_of : List Call → List Call
accepted_of [] = []
accepted_of (c ∷ calls) = cond (accepts c) (c ∷ accepted_of calls) (accepted_of calls)

-- ---- the bytes
-- the chunks of calls, joined
unfoldable pub chunks_of : List Call → List ℕ
chunks_of [] = []
chunks_of (clean page options lines bytes places ∷ calls) = bytes ++ chunks_of calls
chunks_of (finish page options eof places ∷ calls) = chunks_of calls

-- those of the accepted calls
abbrev pub bytes_of : List Call → List ℕ
bytes_of calls = chunks_of (accepted_of calls)

-- ---- the lists of calls that the promise is about
-- accepted calls that all use this page, these options and this `lines`, and whose one finish, as end of file, comes last
abbrev pub FinishedOnce : List ℕ → Options → Bool → List Call → Type 0
FinishedOnce page options lines [] = ⊥
FinishedOnce page options lines (clean p o l bytes places ∷ calls) =
    (p ≡ page) × (o ≡ options) × (l ≡ lines) × FinishedOnce page options lines calls
FinishedOnce page options lines (finish p o eof places ∷ calls) =
    (p ≡ page) × (o ≡ options) × (eof ≡ true) × (calls ≡ [])
