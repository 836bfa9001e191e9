-- DEMAND 3: what a list of calls that is finished once, as end of file, comes to. Document 01, "Agreed between us", with "Pieces of a
-- text". Then what the words of the statement come to; last, beyond it, that its queue passes the writers of the other modes too.
use Rattle.std.specs.Prelude.{ℕ, Bool, true, cond, not, ◌||◌, ◌≡◌, eqb, length}
use mathlib.Core.List.{List, [], ◌∷◌, flatten}
use Rattle.common.specs.Answers.{refusal_in}
use Rattle.common.specs.Only.{ExactlyOne}
use Rattle.page.specs.Page.{accepted}
use Rattle.replace.specs.Table.{in_spans}
use Rattle.check_char.specs.Check.{reason_of, excepted, clean, all}
use Rattle.check_char.specs.Excepted.{excepted_by_unicode}
use Rattle.isolate_unassigned.specs.Meaning.{isolated}
use Rattle.text_input.specs.declared.Options.{Options}
use Rattle.text_input.specs.declared.TextInput.{TextInput}
use Rattle.text_input.specs.Scan.{Outcome, fresh, scan_of, finish_of}
use Rattle.text_input.specs.Pieces.{Piece, Reading, cleaned}
use Rattle.text_input_price.specs.Price.{commit_of}
use Rattle.text_output.specs.declared.Mode.TheVariants.{Plain, Crlf, Color}
use Rattle.text_output.specs.Passing.{PassesIn, crlf_of}
use Rattle.one_reading.specs.Calls.{Taking, scan, commit, Call, chunk_by, finish, call_of, Seen, queue_of, record_after, accepted_calls, accepted_chunks, text_of, FinishedOnce}

-- a queue holds none of the ideographs and, with the option for units off, none of 2126, 212A and 212B: "The ideographs excepted are
-- those that `check_basic_text_char` lists."
abbrev pub NoneExcepted : Options → List ℕ → Type 0
NoneExcepted options queue = all (λ (c : ℕ). not (in_spans (excepted options.units_compatibility) c)) queue ≡ true

-- what is promised of a page, options, calls, the queue and the record after the calls
pub record Promise (page : List ℕ) (options : Options) (calls : List Call) (queue : List ℕ) (last : TextInput) : Type 0 where
  -- "A reading of a text is a list of pieces that joined give it, each the longest these rules allow at its place.": every text has
  -- exactly one
  pub reading : (text : List ℕ) → ExactlyOne (List Piece) (λ (xs : List Piece). Reading options text xs)
  -- "Demand 3 compares the queue with the image after these additions.": the queue is the cleaned text of the reading
  pub image : (xs : List Piece) → Reading options (text_of calls) xs → queue ≡ cleaned page options xs
  -- "The record holds a 32-bit count of characters taken, dropped ones included.": those of the accepted chunks
  -- so "a count that is made up" does not pass
  pub count : last.count ≡ length (flatten (accepted_chunks calls))
  -- the queue holds no ESC, and nothing that the check refuses but the excepted ones
  pub holds : all (clean options.units_compatibility) queue ≡ true
  -- holding none of these, it passes a plain writer: "The write and the close are on a writer record of their own, the close on the
  -- one that the write returned." It hands out "the queue isolated as one run with the page."
  pub passes : NoneExcepted options queue → PassesIn Plain page queue (isolated page queue)

-- for every accepted page, options, list of calls and what a caller sees of it, from a fresh record: "A fresh record is one as first
-- made, with no call on it yet."
-- "Demand 3 is one statement about the whole list of calls, and not a statement for each call." "Once scan, finish, plain write and
-- close run, demand 3 is owed, all of it, in that delivery."
abbrev pub Demand3 : Type 0
Demand3 =
    (page : List ℕ) → accepted page ≡ true → (options : Options) →
    (calls : List Call) → FinishedOnce page options (accepted_calls calls) →
    (seen : List Outcome) → Seen fresh calls seen →
    Promise page options calls (queue_of seen) (record_after fresh seen)

-- what its exceptions come to, by Unicode's data: those are left and no others, and a queue with none of them holds none
-- "With it on, a cleaned text's only remaining exceptions are the CJK compatibility ideographs."
pub record Exceptions (options : Options) (queue : List ℕ) : Type 0 where
  pub only : all (λ (c : ℕ). eqb (reason_of c) 0 || excepted_by_unicode options.units_compatibility c) queue ≡ true
  pub none : all (λ (c : ℕ). not (excepted_by_unicode options.units_compatibility c)) queue ≡ true → NoneExcepted options queue

abbrev pub ExceptedByUnicode : Type 0
ExceptedByUnicode =
    (page : List ℕ) → accepted page ≡ true → (options : Options) →
    (calls : List Call) → FinishedOnce page options (accepted_calls calls) →
    (seen : List Outcome) → Seen fresh calls seen →
    Exceptions options (queue_of seen)

-- ---- what the statement's words come to, on every list of calls
-- the calls that answered 0
unfoldable pub answered : List Call → List Outcome → List Call
answered [] seen = []
answered (c ∷ calls) [] = []
answered (c ∷ calls) (s ∷ seen) = cond (eqb (refusal_in s.numbers) 0) (c ∷ answered calls seen) (answered calls seen)

pub record Words : Type 0 where
  -- "in demand 3 a commit stands as a scan": a call is what the contract of its entry says
  pub scanned : (r : TextInput) (page : List ℕ) (options : Options) (chunk places : List ℕ) →
      call_of r (chunk_by scan page options chunk places) ≡ scan_of r page options chunk places
  pub committed : (r : TextInput) (page : List ℕ) (options : Options) (chunk places : List ℕ) →
      call_of r (chunk_by commit page options chunk places) ≡ commit_of r page options chunk places
  pub finished : (r : TextInput) (eof : Bool) (places : List ℕ) → call_of r (finish eof places) ≡ finish_of r eof places
  -- "The refusal conditions alone decide which calls are accepted": these are the ones that answer so, and a refused one is left out,
  -- whatever it brings
  pub accepted_are : (calls : List Call) (seen : List Outcome) → Seen fresh calls seen → accepted_calls calls ≡ answered calls seen
  -- the streams of demand 3 end with a finish as end of file, and begin with any number of scans and commits, in any order
  pub last : (page : List ℕ) (options : Options) (places : List ℕ) → FinishedOnce page options (finish true places ∷ [])
  pub before : (page : List ℕ) (options : Options) (how : Taking) (chunk places : List ℕ) (calls : List Call) →
      FinishedOnce page options calls → FinishedOnce page options (chunk_by how page options chunk places ∷ calls)

-- ---- beyond demand 3: the writers of the other modes
-- a queue passes them too
pub record Others (page queue : List ℕ) : Type 0 where
  -- isolated as one run, as it passes a plain writer
  pub color : PassesIn Color page queue (isolated page queue)
  -- "In CRLF mode each part between 0A is isolated alone and 0A gives 0D 0A."
  pub crlf : PassesIn Crlf page queue (crlf_of page queue)

-- for the same pages, options and lists of calls, where the queue holds none of the excepted ones
abbrev pub PassesOthers : Type 0
PassesOthers =
    (page : List ℕ) → accepted page ≡ true → (options : Options) →
    (calls : List Call) → FinishedOnce page options (accepted_calls calls) →
    (seen : List Outcome) → Seen fresh calls seen →
    NoneExcepted options (queue_of seen) → Others page (queue_of seen)
