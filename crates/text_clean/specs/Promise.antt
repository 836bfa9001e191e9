-- THE PROMISE: what a list of calls on a cleaner that is finished once, as end of file, comes to, from the bytes that come in to the bytes
-- that go out. The definitions that it rests on are those of bytes (`Lossy`, crate `utf8_lossy`, after the Unicode Standard), of pieces
-- (`Reading` and `cleaned`, crate `text_input`) and of UTF-8 (`encode_all`, crate `unicode`), and not the cleaner's own.
use Rattle.std.specs.Prelude.{ℕ, ◌+◌, Bool, true, false, cond, not, ◌&&◌, ◌||◌, List, [], ◌∷◌, ◌++◌, ◌≡◌, eqb, length}
use Rattle.common.specs.Only.{ExactlyOne}
use Rattle.scalars.specs.Chars.{are_chars}
use Rattle.scalars.specs.Utf8.{encode_all}
use Rattle.page.specs.Page.{accepted}
use Rattle.utf8_lossy.specs.Lossy.{Lossy}
use Rattle.text_input.specs.declared.Options.{Options}
use Rattle.text_input.specs.Scan.{leading_bom}
use Rattle.text_input.specs.Pieces.{Kind, line_end, pageRun, escape, other, option_char, Piece, join, Reading, cleaned}
use Rattle.text_input.specs.Streams.{without_bom}
use Rattle.text_clean.specs.declared.Cleaner.{Cleaner}
use Rattle.text_clean.specs.Text.{bit}
use Rattle.text_clean.specs.Calls.{Call, Fresh, Answered, Seen, output_of, Totals, totals_of, accepted_of, bytes_of, FinishedOnce}

-- ---- one text
-- what bytes are read as: characters, and how many of the bytes U+FFFD stands for in them
pub record Decoding : Type 0 where
  pub chars : List ℕ
  pub replaced : ℕ

-- the bytes of a text, and these bytes for them: its characters, without a leading U+FEFF, are read as pieces, and these are cleaned
-- The first character alone decides on U+FEFF: it is no matter in which chunk it stands, so an empty chunk, or a cut inside EF BB BF,
-- spends nothing. That differs from the scanner's `scan`, where an empty first chunk spends the chance.
pub data CleanedText (page : List ℕ) (options : Options) : List ℕ → List ℕ → Type 0 where
  text : {bytes cs : List ℕ} {n : ℕ} {xs : List Piece} → Lossy bytes cs n → Reading options (without_bom cs) xs →
      CleanedText page options bytes (encode_all (cleaned page options xs))

-- texts one after the other, each cleaned by itself
pub data CleanedTexts (page : List ℕ) (options : Options) : List (List ℕ) → List ℕ → Type 0 where
  none : CleanedTexts page options [] []
  more : {bytes out outs : List ℕ} {texts : List (List ℕ)} → CleanedText page options bytes out →
      CleanedTexts page options texts outs → CleanedTexts page options (bytes ∷ texts) (out ++ outs)

-- ---- what is counted of a text, by its pieces
abbrev pub is_escape : Kind → Bool
is_escape line_end = false
is_escape pageRun = false
is_escape escape = true
is_escape other = false

-- the characters of its escapes
unfoldable pub escaped : List Piece → ℕ
escaped [] = 0
escaped (x ∷ xs) = cond (is_escape x.kind) (length x.text) 0 + escaped xs

-- whether 0A comes next
abbrev pub newline_next : List ℕ → Bool
newline_next [] = false
newline_next (c ∷ rest) = eqb c 0x0A

-- c is the last character of a line end, where rest follows: 0A, or 0D unless 0A follows, or by its option 85, or 2028 and 2029. Where each
-- line is a text of its own, a 0A ends its line wherever it stands: none of those can be lost.
unfoldable pub ends_line : Options → Bool → ℕ → List ℕ → Bool
ends_line o lines c rest = (eqb c 0x0A && not lines) || ((eqb c 0x0D && not (newline_next rest)) || option_char o c)

-- how many line ends have their last character in w, where rest follows
unfoldable pub line_ends : Options → Bool → List ℕ → List ℕ → ℕ
line_ends o lines [] rest = 0
line_ends o lines (c ∷ w) rest = bit (ends_line o lines c (w ++ rest)) + line_ends o lines w rest

-- the line ends that escapes take
unfoldable pub swallowed : Options → Bool → List Piece → ℕ
swallowed o lines [] = 0
swallowed o lines (x ∷ xs) = cond (is_escape x.kind) (line_ends o lines x.text (join xs)) 0 + swallowed o lines xs

-- texts one after the other, of which so many characters are dropped, those of escapes and a leading U+FEFF, and so many line ends lost
pub data CountedTexts (options : Options) (lines : Bool) : List (List ℕ) → ℕ → ℕ → Type 0 where
  none : CountedTexts options lines [] 0 0
  more : {bytes cs : List ℕ} {n : ℕ} {xs : List Piece} {texts : List (List ℕ)} {dropped lost : ℕ} →
      Lossy bytes cs n → Reading options (without_bom cs) xs → CountedTexts options lines texts dropped lost →
      CountedTexts options lines (bytes ∷ texts) (leading_bom cs + escaped xs + dropped) (swallowed options lines xs + lost)

-- ---- the texts of the bytes
-- a byte in front of the first line; where there is none, it is one
abbrev pub into_first : ℕ → List (List ℕ) → List (List ℕ)
into_first b [] = (b ∷ []) ∷ []
into_first b (l ∷ ls) = (b ∷ l) ∷ ls

-- the lines: cut after each 0A, and nowhere else. What follows the last 0A is a line too, unless it is empty.
unfoldable pub lines_of : List ℕ → List (List ℕ)
lines_of [] = []
lines_of (b ∷ bs) = cond (eqb b 0x0A) ((b ∷ []) ∷ lines_of bs) (into_first b (lines_of bs))

-- all bytes are one text; with `lines` each line is a text of its own
abbrev pub texts_of : Bool → List ℕ → List (List ℕ)
texts_of false bytes = bytes ∷ []
texts_of true bytes = lines_of bytes

-- ---- the promise, of a page, options, lines or not, the accepted bytes, the output and what the answers count
pub record Promise (page : List ℕ) (options : Options) (lines : Bool) (bytes output : List ℕ) (totals : Totals) : Type 0 where
  -- every list of bytes is read as exactly one list of characters, and every text has exactly one reading
  pub decoding : (l : List ℕ) → ExactlyOne Decoding (λ (d : Decoding). Lossy l d.chars d.replaced)
  pub reading : (t : List ℕ) → ExactlyOne (List Piece) (λ (xs : List Piece). Reading options t xs)
  -- so these are one list of bytes for each list of texts; the output is that one
  pub image : CleanedTexts page options (texts_of lines bytes) output
  pub only : (other : List ℕ) → CleanedTexts page options (texts_of lines bytes) other → other ≡ output
  -- where all is one text, the same in one line
  pub whole : lines ≡ false → (cs : List ℕ) (n : ℕ) → Lossy bytes cs n → (xs : List Piece) → Reading options (without_bom cs) xs →
      output ≡ encode_all (cleaned page options xs)
  -- the output is UTF-8
  pub valid : (ds : List ℕ) × (are_chars ds ≡ true) × (output ≡ encode_all ds)
  -- what is counted: all that was written, the characters of the bytes, and those of the bytes that are no text, lines or not
  pub written : totals.written ≡ length output
  pub counts : (cs : List ℕ) (n : ℕ) → Lossy bytes cs n → (totals.read ≡ length cs) × (totals.replaced ≡ n)
  -- the characters that are dropped and the line ends that are lost, for which there are no other numbers
  pub losses : CountedTexts options lines (texts_of lines bytes) totals.dropped totals.lost
  pub sole : (dropped lost : ℕ) → CountedTexts options lines (texts_of lines bytes) dropped lost →
      (dropped ≡ totals.dropped) × (lost ≡ totals.lost)

-- for every accepted page, options, lines or not, list of calls and what a caller sees of it, from a fresh record. Nothing else is asked:
-- `FinishedOnce` is of the accepted calls, which the refusal conditions alone decide.
abbrev pub Promised : Type 0
Promised =
    (page : List ℕ) → accepted page ≡ true → (options : Options) (lines : Bool) →
    (calls : List Call) → FinishedOnce page options lines (accepted_of calls) →
    (r : Cleaner) → Fresh r → (seen : List Answered) → Seen r calls seen →
    Promise page options lines (bytes_of calls) (output_of seen) (totals_of seen)

-- ---- so how the bytes are cut into chunks, and which calls are refused, changes nothing: two such lists of calls with equal accepted
-- bytes have equal outputs, and count the same, dropped characters and lost line ends included
abbrev pub CutFree : Type 0
CutFree =
    (page : List ℕ) → accepted page ≡ true → (options : Options) (lines : Bool) →
    (calls others : List Call) → FinishedOnce page options lines (accepted_of calls) → FinishedOnce page options lines (accepted_of others) →
    bytes_of calls ≡ bytes_of others →
    (r s : Cleaner) → Fresh r → Fresh s → (seen also : List Answered) → Seen r calls seen → Seen s others also →
    (output_of seen ≡ output_of also) × (totals_of seen ≡ totals_of also)
