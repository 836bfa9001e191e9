-- Calls with any number of finishes, as end of file or as a push, and more bytes behind them: what comes out, section by section, in the
-- words of the scanner's streams (`text_input`, specs/Streams.antt). All on one page, with the same options, and without `lines`.
use Rattle.std.specs.Prelude.{ℕ, ◌+◌, Bool, true, false, List, [], ◌∷◌, ◌++◌, ◌≡◌, length}
use Rattle.scalars.specs.Utf8.{encode_all}
use Rattle.page.specs.Page.{accepted}
use Rattle.utf8_lossy.specs.Lossy.{Lossy}
use Rattle.text_input.specs.declared.Options.{Options}
use Rattle.text_input.specs.Pieces.{Piece}
use Rattle.text_input.specs.Streams.{Section, stream_text, without_bom_stream, Readings, stream_of}
use Rattle.text_clean.specs.declared.Cleaner.{Cleaner}
use Rattle.text_clean.specs.Calls.{Call, clean, finish, Fresh, Answered, Seen, output_of, Totals, totals_of, accepted_of}
use Rattle.text_clean.specs.Promise.{escaped, swallowed}

-- ---- the calls
-- accepted calls that all use this page and these options, and of which a finish is the last: one is owed where a chunk came since
abbrev pub Finished : List ℕ → Options → (owes : Bool) → List Call → Type 0
Finished page options owes [] = owes ≡ false
Finished page options owes (clean p o lines bytes places ∷ calls) =
    (p ≡ page) × (o ≡ options) × (lines ≡ false) × Finished page options true calls
Finished page options owes (finish p o eof places ∷ calls) = (p ≡ page) × (o ≡ options) × Finished page options false calls

-- ---- the bytes
-- those up to a finish, and whether it is as end of file or as a push
pub record Part : Type 0 where
  pub bytes : List ℕ
  pub eof : Bool

abbrev pub in_front : List ℕ → List Part → List Part
in_front bytes [] = []
in_front bytes (s ∷ parts) = record { bytes = bytes ++ s.bytes; eof = s.eof } ∷ parts

unfoldable pub parts_of : List Call → List Part
parts_of [] = []
parts_of (clean page options lines bytes places ∷ calls) = in_front bytes (parts_of calls)
parts_of (finish page options eof places ∷ calls) = record { bytes = []; eof = eof } ∷ parts_of calls

-- ---- the characters
-- without a character there is no chunk for the scanner, and the chance to drop U+FEFF stays
abbrev pub chunk_of : List ℕ → List (List ℕ)
chunk_of [] = []
chunk_of (c ∷ cs) = (c ∷ cs) ∷ []

-- each part is read by itself, so that a finish ends a character that is cut off, as the end of all bytes does; and so many of the bytes
-- U+FFFD stands for
pub data Decoded : List Part → List Section → ℕ → Type 0 where
  none : Decoded [] [] 0
  more : {bytes cs : List ℕ} {eof : Bool} {parts : List Part} {sections : List Section} {n m : ℕ} →
      Lossy bytes cs n → Decoded parts sections m →
      Decoded (record { bytes = bytes; eof = eof } ∷ parts) (record { chunks = chunk_of cs; eof = eof } ∷ sections) (n + m)

-- ---- what is counted, by the pieces of all sections
unfoldable pub escaped_in : List (List Piece) → ℕ
escaped_in [] = 0
escaped_in (xs ∷ xss) = escaped xs + escaped_in xss

unfoldable pub swallowed_in : Options → List (List Piece) → ℕ
swallowed_in o [] = 0
swallowed_in o (xs ∷ xss) = swallowed o false xs + swallowed_in o xss

-- ---- what the calls come to, of the parts, the output and what the answers count. The sections and their readings are the only ones
-- (`decoding` and `reading` of the promise).
pub record Streamed (page : List ℕ) (options : Options) (parts : List Part) (output : List ℕ) (totals : Totals) : Type 0 where
  pub sections : List Section
  pub decoded : Decoded parts sections totals.replaced
  pub readings : List (List Piece)
  pub read_as : Readings options (without_bom_stream sections) readings
  -- U+FEFF is dropped as the first character of all, and nowhere else; a push ends what is pending and adds no 0A; a 0A that is owed goes
  -- over it; a start is expected behind each finish
  pub output_is : output ≡ encode_all (stream_of page options 0x0A false (without_bom_stream sections) readings)
  -- the counts: all characters; those of escapes and U+FEFF; the line ends that escapes take, where a finish ends the escape
  pub read : totals.read ≡ length (stream_text sections)
  pub dropped : totals.dropped + length (stream_text (without_bom_stream sections)) ≡ length (stream_text sections) + escaped_in readings
  pub lost : totals.lost ≡ swallowed_in options readings

-- for every accepted page, options, list of calls, refused ones included, and what a caller sees of it, from a fresh record
abbrev pub AllStreamed : Type 0
AllStreamed =
    (page : List ℕ) → accepted page ≡ true → (options : Options) →
    (calls : List Call) → Finished page options false (accepted_of calls) →
    (r : Cleaner) → Fresh r → (seen : List Answered) → Seen r calls seen →
    Streamed page options (parts_of (accepted_of calls)) (output_of seen) (totals_of seen)
