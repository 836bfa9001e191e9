-- Asking and committing against the plain scan, in document 02's words (A.4). The numbers of rooms and refusals are written out.
use Rattle.std.specs.Prelude.{ℕ, ◌+◌, ◌*◌, ◌≤◌, ◌<◌, not, List, [], ◌∷◌, ◌≡◌, ltb, length}
use Rattle.common.specs.Answers.{refusal_in, written_in, wrote_in}
use Rattle.common.specs.Order.{◌when◌, first_of}
use Rattle.scalars.specs.Chars.{are_chars}
use Rattle.page.specs.Page.{accepted}
use Rattle.text_input.specs.declared.Options.{Options}
use Rattle.text_input.specs.declared.TextInput.{TextInput}
use Rattle.text_input.specs.Scan.{Outcome, refused, scan_chars, scan_of}
use Rattle.text_input.specs.Refusals.{ScanLeaves}
use Rattle.text_input_price.specs.Price.{ask_of, commit_of}

-- enough places for an ordinary scan: "The plain scan keeps its 3 × n + 1 rule.", and an empty chunk needs none
abbrev pub Enough : List ℕ → List ℕ → Type 0
Enough [] places = Unit {0}
Enough (c ∷ cs) places = 3 * length (c ∷ cs) + 1 ≤ length places

-- Asking: of the record, page, options and chunk asked about, and the answer. "Let it ask how many places a chunk will fill from a given
-- scanner record, without writing"
pub record Asks (r : TextInput) (p : List ℕ) (o : Options) (chunk answer : List ℕ) : Type 0 where
  -- "how many places a chunk will fill": an ordinary scan with enough room answers the same, and is refused by the same number
  pub as_scan : (places : List ℕ) → Enough chunk places → answer ≡ (scan_of r p o chunk places).numbers
  -- "Asking changes nothing and is refused by 2, 1 and 10 as a scan is.": in that order, and by no other number
  pub order : refusal_in answer
      ≡ first_of (2 when not (accepted p) ∷ 1 when not (are_chars chunk) ∷ 10 when ltb 4294967295 (r.count + length chunk) ∷ [])
  -- never more than a plain scan asks for, and none for an empty chunk
  pub most : written_in answer ≤ 3 * length chunk + 1
  pub none : length chunk ≡ 0 → written_in answer ≡ 0

-- two outcomes with the same answer, record and characters written, whatever places each was lent
pub record SameResult (a b : Outcome) : Type 0 where
  pub answer : a.numbers ≡ b.numbers
  pub next : a.next ≡ b.next
  pub wrote : wrote_in a.numbers a.places ≡ wrote_in b.numbers b.places

-- Committing: of these and of what asking answered, the places lent to the commit, and what it returned and left. ".. and afterwards commit
-- the same chunk into exactly that many."
pub record Commits (r : TextInput) (p : List ℕ) (o : Options) (chunk answer queue : List ℕ) (left : Outcome) : Type 0 where
  -- "Committing on the record, page, options and chunk asked about gives the result of an ordinary scan with enough room, and in demand 3 a
  -- commit stands as a scan.": with exactly as many places as asking answered, or more
  pub as_scan : (n : ℕ) → answer ≡ 0 ∷ n ∷ [] → n ≤ length queue →
      (places : List ℕ) → Enough chunk places → SameResult left (scan_of r p o chunk places)
  -- "8 stands there for fewer places than the true number.": nothing is changed
  pub fewer : (n : ℕ) → answer ≡ 0 ∷ n ∷ [] → length queue < n → left ≡ refused r 8 queue
  -- refused where asking is, by the same number: nothing is changed
  pub as_asked : (n : ℕ) → answer ≡ n ∷ [] → left ≡ refused r n queue
  -- "A commit is refused as a scan is and in that order": "Order: 2, 1, 10, 8." of document 01, with 8 for too few
  pub order : refusal_in left.numbers
      ≡ first_of (
      2 when not (accepted p) ∷ 1 when not (are_chars chunk) ∷ 10 when ltb 4294967295 (r.count + length chunk)
      ∷ 8 when ltb (length queue) (length (scan_chars p o r chunk)) ∷ []
      )
  -- what each refusal and each success leaves is what a scan's leaves: the places past those filled are unchanged, and an accepted
  -- commit, of an empty chunk too, spends the chance to drop U+FEFF
  pub leaves : ScanLeaves r chunk queue left
  -- lent the places that an ordinary scan asks for, it is that scan
  pub is_scan : Enough chunk queue → left ≡ scan_of r p o chunk queue

-- for every record, page, options and chunk
abbrev pub AskLaw : Type 0
AskLaw = (r : TextInput) (p : List ℕ) (o : Options) (chunk : List ℕ) → Asks r p o chunk (ask_of r p o chunk)

-- .. and all places
abbrev pub CommitLaw : Type 0
CommitLaw =
    (r : TextInput) (p : List ℕ) (o : Options) (chunk queue : List ℕ) →
    Commits r p o chunk (ask_of r p o chunk) queue (commit_of r p o chunk queue)
