-- What it is for a queue to pass a fresh writer in one write, and the writer then to close. Document 01, "Agreed between us" and
-- "Characters go out". Characters are hexadecimal.
use Rattle.std.specs.Prelude.{ℕ, ◌*◌, ◌≤◌, false, ◌≡◌, List, [], ◌∷◌, ◌++◌, map, length, take}
use Rattle.isolate_unassigned.specs.Meaning.{isolated}
use Rattle.text_output.specs.declared.Mode.{Mode}
use Rattle.text_output.specs.Writer.{Given, Outcome, fresh}
use Rattle.text_output.specs.Write.{parts, write_str_of}
use Rattle.text_output.specs.Close.{close_of}

-- of the characters that go out, what the one write returned and left, and what the close returned
-- "The number handed out and the characters in those places are the queue isolated as one run with the page."
pub record Passes (out : List ℕ) (wrote : Outcome) (closed : Given) : Type 0 where
  -- "The number handed out": how many these are
  pub number : wrote.given.numbers ≡ 0 ∷ length out ∷ []
  -- "the characters in those places": these; of a plain writer "the queue isolated as one run with the page"
  pub characters : take (length out) wrote.places ≡ out
  -- "the close on the one that the write returned": it succeeds
  pub closes : closed.numbers ≡ []
  -- neither tells the caller to abandon
  pub write_stays : wrote.given.abandon ≡ false
  pub close_stays : closed.abandon ≡ false

-- a queue passes a fresh writer in a mode: "Enough room is at least what a write of that length needs.", which is 3 × n places for n
-- characters, where nothing is kept or held
abbrev pub PassesIn : Mode → (page queue out : List ℕ) → Type 0
PassesIn mode page queue out =
    (places : List ℕ) → 3 * length queue ≤ length places →
    (wrote : Outcome) → wrote ≡ write_str_of (fresh mode) page queue places →
    (closed : Given) → closed ≡ close_of wrote.given.next → Passes out wrote closed

-- ---- what goes out in CRLF mode
-- "0A gives 0D 0A": parts joined with these between one and the next
abbrev pub joined_by_crlf : List (List ℕ) → List ℕ
joined_by_crlf [] = []
joined_by_crlf (part ∷ []) = part
joined_by_crlf (part ∷ next ∷ rest) = part ++ 0x0D ∷ 0x0A ∷ joined_by_crlf (next ∷ rest)

-- "In CRLF mode each part between 0A is isolated alone"
abbrev pub crlf_of : List ℕ → List ℕ → List ℕ
crlf_of page queue = joined_by_crlf (map (isolated page) (parts queue))
