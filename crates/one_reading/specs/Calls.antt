-- A list of calls on a scanner's record, and what a caller sees of it. Document 01, "Agreed between us": "Demand 3 is one statement
-- about the whole list of calls, and not a statement for each call."; commits are of document 02, A.4.
use Rattle.std.specs.Prelude.{ℕ, ◌+◌, ◌*◌, Bool, true, cond, ◌&&◌, ◌||◌, ◌≡◌, eqb, leb, length}
use mathlib.Core.List.{List, [], ◌∷◌, ◌++◌, flatten}
use Rattle.text_input.specs.declared.Options.{Options}
use Rattle.text_input.specs.declared.TextInput.{TextInput}
use Rattle.common.specs.Answers.{wrote_in}
use Rattle.scalars.specs.Chars.{are_chars}
use Rattle.page.specs.Page.{accepted}
use Rattle.text_input.specs.Scan.{Outcome, fresh, scan_chars, scan_next, scan_of, finish_next, finish_of}
use Rattle.text_input.specs.Streams.{without_bom_first}
use Rattle.text_input_price.specs.Price.{commit_of}

-- ---- the calls
-- how a chunk is taken: "in demand 3 a commit stands as a scan"
pub data Taking : Type 0 where
  scan commit : Taking

-- a scan and a commit bring a page, options, a chunk and lent places; a finish says whether it is end of file, and brings lent places
pub data Call : Type 0 where
  chunk_by : Taking → (page : List ℕ) → Options → (chunk places : List ℕ) → Call
  finish : (eof : Bool) → (places : List ℕ) → Call

-- what a call on a record returns and leaves: the contracts of `scan`, `commit` and `finish`
abbrev pub call_of : TextInput → Call → Outcome
call_of r (chunk_by scan page options chunk places) = scan_of r page options chunk places
call_of r (chunk_by commit page options chunk places) = commit_of r page options chunk places
call_of r (finish eof places) = finish_of r eof places

-- ---- what a caller sees
-- for each call what it returned and left. "Each call gets the scanner record that the call before it returned, refused or not, and
-- nobody else writes that record in between."
abbrev pub Seen : TextInput → List Call → List Outcome → Type 0
Seen r [] [] = Unit {0}
Seen r [] (s ∷ seen) = ⊥
Seen r (c ∷ calls) [] = ⊥
Seen r (c ∷ calls) (s ∷ seen) = (s ≡ call_of r c) × Seen s.next calls seen

-- "The queue joins what each accepted call had written when it returned.": a refused one wrote nothing
unfoldable pub queue_of : List Outcome → List ℕ
queue_of [] = []
queue_of (s ∷ seen) = wrote_in s.numbers s.places ++ queue_of seen

-- the record that the last call returned
unfoldable pub record_after : TextInput → List Outcome → TextInput
record_after r [] = r
record_after r (s ∷ seen) = record_after s.next seen

-- ---- which calls are accepted
-- whether so many places are enough for a chunk: for a scan 3 × n + 1 of n characters, any for an empty chunk; for a commit "the true
-- number", that of the characters which a scan would write from the record r
abbrev pub enough : Taking → List ℕ → Options → TextInput → List ℕ → ℕ → Bool
enough scan page options r chunk room = eqb (length chunk) 0 || leb (3 * length chunk + 1) room
enough commit page options r chunk room = leb (length (scan_chars page options r chunk)) room

-- "The refusal conditions alone decide which calls are accepted, with the number of characters in the chunks accepted so far as the
-- count." They are written out, and not asked of the calls; `accepts_told` (proofs/Accepts.antt) says that the calls go by them. The
-- record is the one that the accepted calls lead to.
-- A chunk: the page is accepted, every value is a character, the count does not pass 4,294,967,295, and the places are enough. A finish:
-- "Free places needed: 2."
abbrev pub accepts : ℕ → TextInput → Call → Bool
accepts count r (chunk_by how page options chunk places) =
    accepted page && (are_chars chunk && (leb (count + length chunk) 4294967295 && enough how page options r chunk (length places)))
accepts count r (finish eof places) = leb 2 (length places)

-- the count with an accepted call's characters
abbrev pub count_with : ℕ → Call → ℕ
count_with count (chunk_by how page options chunk places) = count + length chunk
count_with count (finish eof places) = count

-- the record that an accepted call leads to, by the definitions of a scan and a finish: no answer and no lent place is asked
abbrev pub leads_to : TextInput → Call → TextInput
leads_to r (chunk_by how page options chunk places) = scan_next page options r chunk
leads_to r (finish eof places) = finish_next r eof

-- the accepted calls, where so many characters are accepted before them and this record is led to. "A refused call may bring any page,
-- options, chunk and room; it adds nothing to text, queue or count and does not pass for the first call."
unfoldable pub accepted_from : ℕ → TextInput → List Call → List Call
accepted_from count r [] = []
accepted_from count r (c ∷ calls) =
    cond (accepts count r c) (c ∷ accepted_from (count_with count c) (leads_to r c) calls) (accepted_from count r calls)

-- .. from the first on: "A fresh record is one as first made"
abbrev pub accepted_calls : List Call → List Call
accepted_calls calls = accepted_from 0 fresh calls

-- ---- the text
abbrev pub chunks_of : List Call → List (List ℕ)
chunks_of [] = []
chunks_of (chunk_by how page options chunk places ∷ calls) = chunk ∷ chunks_of calls
chunks_of (finish eof places ∷ calls) = chunks_of calls

-- the accepted chunks
unfoldable pub accepted_chunks : List Call → List (List ℕ)
accepted_chunks calls = chunks_of (accepted_calls calls)

-- they joined, without a U+FEFF that begins the first of them
-- "A text, which doesn't include a dropped U+FEFF"
unfoldable pub text_of : List Call → List ℕ
text_of calls = flatten (without_bom_first (accepted_chunks calls))

-- ---- the streams of demand 3
-- accepted calls that all use this page and these options, and whose one finish, as end of file, comes last
abbrev pub FinishedOnce : List ℕ → Options → List Call → Type 0
FinishedOnce page options [] = ⊥
FinishedOnce page options (chunk_by how p o chunk places ∷ calls) = (p ≡ page) × (o ≡ options) × FinishedOnce page options calls
FinishedOnce page options (finish eof places ∷ calls) = (eof ≡ true) × (calls ≡ [])
