-- What inner functions answer, that take a run of bytes, a character or the end of a text. No entry's contract cites this file.
use Rattle.std.specs.Prelude.{ℕ, ◌+◌, ◌≤◌, ◌<◌, Bool, true, false, cond, not, ◌&&◌, ◌||◌, List, [], ◌∷◌, ◌≡◌, eqb, leb, ltb, length, get_or, set}
use Rattle.std.proofs.lemmas.List.Edits.{sets}
use Rattle.scalars.specs.Chars.{is_char}
use Rattle.scalars.specs.Utf8.{encode_all}
use Rattle.ranges.specs.declared.Range.{Range}
use Rattle.stretch.specs.Stretch.{part}
use Rattle.stretch.specs.Plain.{Plain, Gap}
use Rattle.utf8_lossy.specs.declared.Pending.TheVariants.{Nothing as NoBytes}
use Rattle.utf8_lossy.specs.Machine.{outs_of, rest_of, replaced_of}
use Rattle.utf8_lossy.specs.Decode.{pending_of}
use Rattle.text_input.specs.declared.State.TheVariants.{Ground}
use Rattle.text_input.specs.declared.Options.{Options}
use Rattle.text_input.specs.Inner.{grounded}
use Rattle.text_input_parts.specs.Appended.{last_of}
use Rattle.text_clean.specs.declared.text.Text.{Text}
use Rattle.text_clean.specs.declared.text.Tally.{Tally}
use Rattle.text_clean.specs.declared.text.Taken.{Taken}
use Rattle.text_clean.specs.declared.plain.PlainEnd.{PlainEnd}
use Rattle.text_clean.specs.declared.Cleaner.{Cleaner}
use Rattle.text_clean.specs.declared.Counts.{Counts}
use Rattle.text_clean.specs.declared.Moved.{Moved}
use Rattle.text_clean.specs.declared.Ran.{Ran}
use Rattle.text_clean.specs.Text.{Passed, fresh_text, passed_of}
use Rattle.text_clean.specs.Clean.{places_for_bytes}

-- ---- what is counted
abbrev pub no_tally : Tally
no_tally = record { read = 0; replaced = 0; dropped = 0; lost = 0 }

-- with so many characters read, dropped, and line ends lost
abbrev pub tallied : Tally → ℕ → ℕ → ℕ → Tally
tallied t read dropped lost =
    record { read = t.read + read; replaced = t.replaced; dropped = t.dropped + dropped; lost = t.lost + lost }

-- with so many bytes more that U+FFFD stands for
abbrev pub replaced_more : Tally → ℕ → Tally
replaced_more t n = record { read = t.read; replaced = t.replaced + n; dropped = t.dropped; lost = t.lost }

-- each count is a number of 64 bits
pub record Fits (t : Tally) : Type 0 where
  pub read : t.read < 18446744073709551616
  pub replaced : t.replaced < 18446744073709551616
  pub dropped : t.dropped < 18446744073709551616
  pub lost : t.lost < 18446744073709551616

abbrev pub counts_of : ℕ → Tally → Counts
counts_of written t =
    record { written = written; read = t.read; replaced = t.replaced; dropped = t.dropped; lost = t.lost }

-- ---- characters
-- how far the places are written, the text and the counts, where n characters come to x and their output is stored from place k on
abbrev pub taken_by : ℕ → Tally → ℕ → Passed → Taken
taken_by k t n x =
    record { at = k + length (encode_all x.out); text = x.next; tally = tallied t n x.dropped x.lost }

-- a plain character that begins with the byte b comes out as it goes in
abbrev pub ready_for : Text → ℕ → Bool
ready_for t b = (grounded t.input.state && not t.cr) && (ltb b 0x80 || (not t.input.expect_starter && not t.input.at_start))

-- the text after plain characters, the last of them c
abbrev pub passed_text : Text → ℕ → Text
passed_text t c =
    record {
      input = record { state = Ground false; expect_starter = false; at_start = false; last = c; count = t.input.count };
      cr = false;
    }

-- the text after a line end where nothing was pending before it
abbrev pub ended_text : Text → Bool → Text
ended_text t lines =
    cond lines fresh_text
    (record {
      input = record { state = Ground true; expect_starter = false; at_start = false; last = 0x0A; count = t.input.count };
      cr = false;
    })

-- ---- plain bytes
-- tab, and 20..7E
unfoldable pub plain_byte : ℕ → Bool
plain_byte b = (leb 0x20 b && leb b 0x7E) || eqb b 9

-- all bytes from place f up to place t are plain
abbrev pub PlainBytes : List ℕ → ℕ → ℕ → Type 0
PlainBytes bs f t = (x : ℕ) → f ≤ x → x < t → plain_byte (get_or bs x 0) ≡ true

-- the same, where t is a place of the bytes from f on
pub record PlainTo (bs : List ℕ) (f t : ℕ) : Type 0 where
  pub on : f ≤ t
  pub low : t ≤ length bs
  pub each : PlainBytes bs f t

-- the bytes from place f up to where the run ends are the encoding of so many plain characters, the last of them its last
pub record PlainRun (bs : List ℕ) (f : ℕ) (e : PlainEnd) : Type 0 where
  pub on : f ≤ e.at
  pub low : e.at ≤ length bs
  pub chars : List ℕ
  pub bytes : part f e.at bs ≡ encode_all chars
  pub each : (x : ℕ) → x < length chars → (is_char (get_or chars x 0) ≡ true) × Plain (get_or chars x 0)
  pub count : e.chars ≡ length chars
  pub last : e.last ≡ last_of 0 chars

-- how many bytes the line end at i has: 0A or 0D 0A
abbrev pub line_end_at : List ℕ → ℕ → ℕ
line_end_at bs i =
    cond (eqb (get_or bs i 0) 0x0A) 1 (cond (eqb (get_or bs i 0) 0x0D && eqb (get_or bs (i + 1) 0) 0x0A) 2 0)

-- ---- a line end behind a run of plain characters: w bytes at a place, none where w is 0
-- what it asks of the bytes, of the places from k on, and of the counts
pub record LineAsks (w : ℕ) (bytes : List ℕ) (at : ℕ) (out : List ℕ) (k : ℕ) (tally : Tally) : Type 0 where
  pub low : 0 < w → at + w ≤ length bytes
  pub room : 0 < w → k < length out
  pub fits : 0 < w → Fits (tallied tally w 0 0)

-- how far bytes and places are taken with it, the text behind it, and what is counted
abbrev pub line_moved : ℕ → Text → Bool → ℕ → Range → ℕ → Tally → Moved
line_moved w t lines at gap k tally =
    cond (ltb 0 w)
    (record { at = at + w; written = k + 1; next = record { pending = NoBytes; text = ended_text t lines }; tally = tallied tally w 0 0; gap = gap })
    (record { at = at; written = k; next = record { pending = NoBytes; text = t }; tally = tally; gap = gap })

-- and the places after it
abbrev pub line_stored : ℕ → List ℕ → ℕ → List ℕ
line_stored w out k = cond (ltb 0 w) (set out k 0x0A) out

-- ---- bytes
abbrev pub is_nothing : List ℕ → Bool
is_nothing [] = true
is_nothing (b ∷ bs) = false

abbrev pub is_short : ℕ → ℕ → Bool
is_short n room = ltb room (places_for_bytes n)

-- where a run of bytes stands: the bytes of a character that is cut off, the text, and what is counted
pub record Course : Type 0 where
  pub pending : List ℕ
  pub text : Text
  pub tally : Tally

abbrev pub course_of : Cleaner → Tally → Course
course_of r t = record { pending = pending_of r.pending; text = r.text; tally = t }

-- what bytes come to
abbrev pub passes : List ℕ → Options → Bool → Course → List ℕ → Passed
passes p o lines s bs = passed_of p o lines s.text (outs_of s.pending bs)

-- the bytes that they give
abbrev pub gives : List ℕ → Options → Bool → Course → List ℕ → List ℕ
gives p o lines s bs = encode_all (passes p o lines s bs).out

-- and where they lead
abbrev pub leads : List ℕ → Options → Bool → Course → List ℕ → Course
leads p o lines s bs =
    record {
      pending = rest_of s.pending bs;
      text = (passes p o lines s bs).next;
      tally =
          replaced_more
          (tallied s.tally (length (outs_of s.pending bs)) (passes p o lines s bs).dropped (passes p o lines s bs).lost)
          (replaced_of s.pending bs);
    }

-- how far the places are written, and where the bytes led
pub record Reached : Type 0 where
  pub written : ℕ
  pub course : Course

abbrev pub ran_in : Ran → Reached
ran_in r = record { written = r.written; course = course_of r.next r.tally }

abbrev pub ran_by : List ℕ → Options → Bool → ℕ → Course → List ℕ → Reached
ran_by p o lines k s bs = record { written = k + length (gives p o lines s bs); course = leads p o lines s bs }

-- the bytes are taken from place i up to a later one, and what they give is stored from place k on
pub record Moves (p : List ℕ) (o : Options) (lines : Bool) (s : Course) (bytes : List ℕ) (i : ℕ) (out : List ℕ) (k : ℕ) (m : Moved) (after : List ℕ) : Type 0 where
  pub on : i < m.at
  pub low : m.at ≤ length bytes
  pub written : m.written ≡ k + length (gives p o lines s (part i m.at bytes))
  pub course : course_of m.next m.tally ≡ leads p o lines s (part i m.at bytes)
  pub places : after ≡ sets out k (gives p o lines s (part i m.at bytes))
  pub gap : Gap m.gap
