-- Asking how many places a chunk fills, and committing it: what they answer, and what a commit leaves, refused or not. Document 02, A.4:
-- price the chunk, then take it.
use Rattle.std.specs.Prelude.{ℕ, cond, List, [], ◌∷◌, eqb, length}
use Rattle.scalars.specs.Chars.{are_chars}
use Rattle.page.specs.Page.{accepted}
use Rattle.text_input_parts.specs.Refusals.{chunk_refusal, refusal_of}
use Rattle.text_input.specs.declared.Options.{Options}
use Rattle.text_input.specs.declared.TextInput.{TextInput}
use Rattle.text_input.specs.Scan.{Outcome, refused, written, scan_chars, scan_next}

-- "how many places a chunk will fill from a given scanner record": as many as a scan writes characters. "the true number"
abbrev pub places_filled : List ℕ → Options → TextInput → List ℕ → ℕ
places_filled p o r chunk = length (scan_chars p o r chunk)

-- ---- asking: an answer by the documents' numbers is 0 and how many places, or the refusal's number
-- the number of its refusal, and 0 for none: "is refused by 2, 1 and 10 as a scan is"
abbrev pub ask_refusal : ℕ → List ℕ → List ℕ → ℕ
ask_refusal count p chunk = chunk_refusal count (accepted p) (are_chars chunk) (length chunk)

-- "Asking changes nothing": page and chunk are lent to be read, and no record is answered
unfoldable pub ask_of : TextInput → List ℕ → Options → List ℕ → List ℕ
ask_of r p o chunk =
    cond (eqb (ask_refusal r.count p chunk) 0) (0 ∷ places_filled p o r chunk ∷ []) (ask_refusal r.count p chunk ∷ [])

-- ---- committing
-- "A commit is refused as a scan is and in that order, but 8 stands there for fewer places than the true number."
abbrev pub commit_refusal : TextInput → List ℕ → Options → List ℕ → ℕ → ℕ
commit_refusal r p o chunk room =
    refusal_of r.count (accepted p) (are_chars chunk) (length chunk) (places_filled p o r chunk) room

-- what it answers and leaves: as a scan, which it is but for the places that it needs
unfoldable pub commit_of : TextInput → List ℕ → Options → List ℕ → List ℕ → Outcome
commit_of r p o chunk queue =
    cond (eqb (commit_refusal r p o chunk (length queue)) 0) (written (scan_next p o r chunk) (scan_chars p o r chunk) queue)
    (refused r (commit_refusal r p o chunk (length queue)) queue)
