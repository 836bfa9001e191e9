-- DEMAND 3. A list of calls comes to scans of the accepted chunks and a finish (proofs/Listed.antt), these to the cleaned text of the
-- one reading (`whole`, `one_reading` of text_input), and that is what the writers let through and close on (proofs/Holds.antt;
-- `passes_plain`, `passes_color`, `passes_crlf` of text_output).
--     demand3          the theorem
--     excepted_by_unicode_lem, passes_by_unicode    what it excepts, and that a queue without these passes
--     words            what its words come to
--     passes_others    the queue passes the color and the CRLF writer too
--     queue_chars, queue_starts, queue_ends, queue_writable    what the queue is
use Prim.Native.Nat.{ℕ, ◌<◌}
use native.Mathlib.Nat.{zero-add}
use mathlib.Core.Bool.{Bool, true, not, ◌||◌}
use mathlib.Core.List.{List, [], ◌∷◌, flatten}
use mathlib.Core.Path.{◌≡◌, refl, sym, ap, ◌∙◌}
use lib.Dec.{eqb}
use lib.ListN.{length}
use Rattle.scalars.specs.Chars.{is_char, are_chars}
use Rattle.scalars.proofs.Rows.{char_lt}
use Rattle.common.proofs.Kit.{both_true, both}
use Rattle.page.specs.Page.{accepted}
use Rattle.replace.specs.Table.{in_spans}
use Rattle.check_char.specs.Check.{excepted, reason_of, clean, all}
use Rattle.check_char.specs.Excepted.{excepted_by_unicode}
use Rattle.check_char.proofs.Sources.{excepted_are, clean_are}
use Rattle.isolate_unassigned.specs.Meaning.{isolated}
use Rattle.text_input.specs.declared.Options.{Options}
use Rattle.text_input.specs.Scan.{Outcome, fresh}
use Rattle.text_input.specs.Pieces.{Piece, Reading, cleaned}
use Rattle.text_input.proofs.Unique.{exists, one_reading}
use Rattle.text_input.proofs.Streams.{whole}
use Rattle.text_output.specs.declared.Mode.TheVariants.{Plain}
use Rattle.text_output.specs.Passing.{PassesIn}
use Rattle.text_output.proofs.Writable.{writable, writable_of}
use Rattle.text_output.proofs.Passing.{starts_well, ends_well, passes_plain}
use Rattle.text_output.proofs.Modes.{passes_color, passes_crlf}
use Rattle.one_reading.specs.Calls.{Call, Seen, queue_of, record_after, accepted_calls, accepted_chunks, text_of, FinishedOnce}
use Rattle.one_reading.specs.Demand.{NoneExcepted, Promise, Demand3, ExceptedByUnicode, Words, Others, PassesOthers}
use Rattle.one_reading.proofs.Holds.{cleaned_starts, cleaned_ends, whole_clean, whole_chars}
use Rattle.one_reading.proofs.Listed.{queue_listed, count_listed, chars_listed, answered_listed}

module _ (page : List ℕ) (good : accepted page ≡ true) (options : Options) (calls : List Call)
    (once : FinishedOnce page options (accepted_calls calls)) (seen : List Outcome) (saw : Seen fresh calls seen) where
  abbrev queue : List ℕ
  queue = queue_of seen

  image_is : (xs : List Piece) → Reading options (text_of calls) xs → queue ≡ cleaned page options xs
  unfolding text_of accepted_chunks
  image_is xs read = queue_listed page options calls seen fresh saw once ∙ whole page good options (accepted_chunks calls) xs read

  count_is : (record_after fresh seen).count ≡ length (flatten (accepted_chunks calls))
  unfolding accepted_chunks
  count_is = count_listed calls fresh seen saw ∙ zero-add _

  queue_clean : all (clean options.units_compatibility) queue ≡ true
  queue_clean =
      rw (queue_listed page options calls seen fresh saw once) (whole_clean page options fresh _ (chars_listed calls 0 fresh))

  pub queue_chars : are_chars queue ≡ true
  queue_chars =
      rw (queue_listed page options calls seen fresh saw once) (whole_chars page options fresh _ (chars_listed calls 0 fresh))

  -- the reading of the text
  abbrev pieces : List Piece
  pieces = (exists options (text_of calls)).0

  queue_is : queue ≡ cleaned page options pieces
  queue_is = image_is pieces (exists options (text_of calls)).1

  pub queue_starts : starts_well page queue ≡ true
  queue_starts = rw queue_is (cleaned_starts page options good pieces)

  pub queue_ends : ends_well true queue ≡ true
  queue_ends = rw queue_is (cleaned_ends page options pieces)

  module _ (none : NoneExcepted options queue) where
    pub queue_writable : all writable queue ≡ true
    queue_writable = writable_of options.units_compatibility queue queue_clean none

    passes_is : PassesIn Plain page queue (isolated page queue)
    passes_is = passes_plain page good queue queue_chars queue_writable queue_starts queue_ends

    others : Others page queue
    others =
        record {
          color = passes_color page good queue queue_chars queue_writable queue_starts queue_ends;
          crlf = passes_crlf page good queue queue_chars queue_writable queue_starts queue_ends;
        }

  theorem : Promise page options calls queue (record_after fresh seen)
  theorem =
      record { reading = one_reading options; image = image_is; count = count_is; holds = queue_clean; passes = passes_is }

-- THE THEOREM
pub demand3 : Demand3
demand3 page good options calls once seen saw = theorem page good options calls once seen saw

-- ITS EXCEPTIONS, by Unicode's data
-- a test that holds of each character of a list carries over to another
carry : (f g : ℕ → Bool) → ((x : ℕ) → x < 0x110000 → f x ≡ true → g x ≡ true) →
    (w : List ℕ) → are_chars w ≡ true → all f w ≡ true → all g w ≡ true
carry f g to [] char h = refl
carry f g to (x ∷ w) char h =
    let c = both_true (is_char x) (are_chars w) char in
    let k = both_true (f x) (all f w) h in
    both (to x (char_lt x c.0) k.0) (carry f g to w c.1 k.1)

pub excepted_by_unicode_lem : ExceptedByUnicode
excepted_by_unicode_lem page good options calls once seen saw =
    let u = options.units_compatibility in
    let char = queue_chars page good options calls once seen saw in
    record {
      only =
          carry (clean u) (λ (c : ℕ). eqb (reason_of c) 0 || excepted_by_unicode u c)
          (λ x l h. (both_true (eqb (reason_of x) 0 || excepted_by_unicode u x) (not (eqb x 0x1B)) (sym (clean_are u x l) ∙ h)).0)
          (queue_of seen) char (demand3 page good options calls once seen saw).holds;
      none = λ h.
          carry (λ (c : ℕ). not (excepted_by_unicode u c)) (λ (c : ℕ). not (in_spans (excepted u) c))
          (λ x l k. ap not (excepted_are u x l) ∙ k)
          (queue_of seen) char h;
    }

-- so a queue with none of these passes a plain writer
pub passes_by_unicode : (page : List ℕ) → accepted page ≡ true → (options : Options) →
    (calls : List Call) → FinishedOnce page options (accepted_calls calls) →
    (seen : List Outcome) → Seen fresh calls seen →
    all (λ (c : ℕ). not (excepted_by_unicode options.units_compatibility c)) (queue_of seen) ≡ true →
    PassesIn Plain page (queue_of seen) (isolated page (queue_of seen))
passes_by_unicode page good options calls once seen saw h =
    (demand3 page good options calls once seen saw).passes ((excepted_by_unicode_lem page good options calls once seen saw).none h)

-- ITS WORDS
pub words : Words
words =
    record {
      scanned = λ r page options chunk places. refl;
      committed = λ r page options chunk places. refl;
      finished = λ r eof places. refl;
      accepted_are = λ calls seen saw. answered_listed calls fresh seen saw;
      last = λ page options places. (refl, refl);
      before = λ page options how chunk places calls once. (refl, refl, once);
    }

-- BEYOND IT
pub passes_others : PassesOthers
passes_others page good options calls once seen saw none = others page good options calls once seen saw none
