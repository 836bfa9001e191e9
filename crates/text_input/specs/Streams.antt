-- Streams of accepted calls: chunks and finishes, and what they come to in terms of the pieces. Document 01, "A stream finishes".
-- A stream here has any number of finishes, pushes among them, and the definitions say what each adds to the queue. Demand 3 is about
-- one finish with refused calls in between, for which `one_reading`, specs/Calls.antt, has a list of calls of its own.
use Rattle.std.specs.Prelude.{ℕ, Bool, true, false, cond, not, ◌&&◌, eqb}
use mathlib.Core.List.{List, [], ◌∷◌, ◌++◌, flatten}
use Rattle.text_input.specs.declared.Options.{Options}
use Rattle.text_input.specs.declared.TextInput.{TextInput}
use Rattle.text_utils.specs.Classes.{basic_text_end}
use Rattle.text_input_parts.specs.Appended.{last_of}
use Rattle.text_input.specs.Scan.{scan_chars, scan_next, finish_chars, finish_next}
use Rattle.text_input.specs.Pieces.{Piece, Reading, image, start_mark, is_line}

-- ---- the calls
-- the chunks up to a finish, and whether it is as end of file or as a push
pub record Section : Type 0 where
  pub chunks : List (List ℕ)
  pub eof : Bool

-- "the queue is what successive calls wrote, joined": scans of these chunks, each on the record that the one before returned
-- so "one that cleans the first chunk and drops later ones (demand 3)" does not pass
unfoldable pub scans_chars : List ℕ → Options → TextInput → List (List ℕ) → List ℕ
scans_chars p o r [] = []
scans_chars p o r (c ∷ cs) = scan_chars p o r c ++ scans_chars p o (scan_next p o r c) cs

-- the record after them
unfoldable pub scans_next : List ℕ → Options → TextInput → List (List ℕ) → TextInput
scans_next p o r [] = r
scans_next p o r (c ∷ cs) = scans_next p o (scan_next p o r c) cs

-- sections one after the other
unfoldable pub stream_chars : List ℕ → Options → TextInput → List Section → List ℕ
stream_chars p o r [] = []
stream_chars p o r (s ∷ ss) =
    scans_chars p o r s.chunks
    ++ (finish_chars (scans_next p o r s.chunks) s.eof ++ stream_chars p o (finish_next (scans_next p o r s.chunks) s.eof) ss)

unfoldable pub stream_next : List ℕ → Options → TextInput → List Section → TextInput
stream_next p o r [] = r
stream_next p o r (s ∷ ss) = stream_next p o (finish_next (scans_next p o r s.chunks) s.eof) ss

-- ---- the text
-- the characters of all chunks
unfoldable pub stream_text : List Section → List ℕ
stream_text [] = []
stream_text (s ∷ ss) = flatten s.chunks ++ stream_text ss

-- the chunk without a U+FEFF that begins it
abbrev pub without_bom : List ℕ → List ℕ
without_bom [] = []
without_bom (c ∷ cs) = cond (eqb c 0xFEFF) cs (c ∷ cs)

-- "U+FEFF is dropped only as the first character of the first call": the first chunk loses it, and no other, so that "dropping any
-- leading FEFF of a later chunk" does not pass
abbrev pub without_bom_first : List (List ℕ) → List (List ℕ)
without_bom_first [] = []
without_bom_first (c ∷ cs) = without_bom c ∷ cs

-- whether a section brings no chunk
abbrev pub no_chunk : List (List ℕ) → Bool
no_chunk [] = true
no_chunk (c ∷ cs) = false

-- the same in a stream, whose first chunk may come after a finish: "A finish spends no chance to drop U+FEFF", so a section with no
-- chunk leaves the chance to the next
abbrev pub without_bom_stream : List Section → List Section
without_bom_stream [] = []
without_bom_stream (s ∷ ss) =
    record { chunks = without_bom_first s.chunks; eof = s.eof } ∷ cond (no_chunk s.chunks) (without_bom_stream ss) ss

-- ---- what it comes to
-- a reading for each section's text
abbrev pub Readings : Options → List Section → List (List Piece) → Type 0
Readings o [] [] = Unit {0}
Readings o [] (xs ∷ xss) = ⊥
Readings o (s ∷ ss) [] = ⊥
Readings o (s ∷ ss) (xs ∷ xss) = Reading o (flatten s.chunks) xs × Readings o ss xss

-- 0A is owed: a piece came since the last 0A that a finish added, and the last one is no line end
unfoldable pub owed_after : Bool → List Piece → Bool
owed_after owed [] = owed
owed_after owed (x ∷ xs) = owed_after (not (is_line x.kind)) xs

-- a section's part of the queue: its image with 34F before a first character that is no start; then what the finish adds: "If the
-- last character ever appended is no end, 34F follows.", and 0A where it is owed, "As end of file": "A push adds no 0A."
unfoldable pub section_of : List ℕ → Options → ℕ → Bool → List Piece → Bool → List ℕ
section_of p o last owed xs eof =
    start_mark p (image o xs)
    ++ (image o xs ++ (cond (basic_text_end (last_of last (image o xs))) [] (0x34F ∷ []) ++ cond (eof && owed_after owed xs) (0x0A ∷ []) []))

-- the queue, section by section: the last character and an owed 0A go over a push, and an end of file leaves none owed
unfoldable pub stream_of : List ℕ → Options → ℕ → Bool → List Section → List (List Piece) → List ℕ
stream_of p o last owed [] xss = []
stream_of p o last owed (s ∷ ss) [] = []
stream_of p o last owed (s ∷ ss) (xs ∷ xss) =
    section_of p o last owed xs s.eof
    ++ stream_of p o (last_of last (section_of p o last owed xs s.eof)) (not s.eof && owed_after owed xs) ss xss
