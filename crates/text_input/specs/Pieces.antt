-- The pieces of a text, its reading and its image: document 01, "Pieces of a text". Characters are hexadecimal.
use Rattle.std.specs.Prelude.{ℕ, ◌≤◌, Bool, true, false, cond, not, ◌&&◌, ◌||◌, List, [], ◌∷◌, ◌++◌, ◌≡◌, eqb, length}
use Rattle.replace.specs.Replace.{chars, replace_of}
use Rattle.text_utils.specs.Classes.{basic_text_start, basic_text_end}
use Rattle.text_input.specs.declared.Options.{Options}
use Rattle.text_input_parts.specs.PieceSets.{parameter_char, final_char, string_last, low_char, cr_or_lf}

pub data Kind : Type 0 where
  line_end pageRun escape other : Kind

-- ---- the pieces that the rules allow
-- The sets of characters are those of `text_input_parts`, specs/PieceSets.antt, and the one that follows; the steps have sets of their
-- own, and each pair is proved equal for every number.
-- "with its option 85, or 2028 and 2029"
unfoldable pub option_char : Options → ℕ → Bool
option_char o c = (eqb c 0x85 && o.nel_compatibility) || ((eqb c 0x2028 || eqb c 0x2029) && o.lsps_compatibility)

-- a line end of one character: "0D, 0A; with its option 85, or 2028 and 2029"
unfoldable pub line_char : Options → ℕ → Bool
line_char o c = cr_or_lf c || option_char o c

-- "Line end: 0D 0A, 0D, 0A; with its option 85, or 2028 and 2029."
pub data LineEnd (o : Options) : List ℕ → Type 0 where
  both : LineEnd o (0x0D ∷ 0x0A ∷ [])
  one : {c : ℕ} → line_char o c ≡ true → LineEnd o (c ∷ [])

-- "Page run: one or more 0C."
pub data PageRun : List ℕ → Type 0 where
  one : PageRun (0x0C ∷ [])
  more : {q : List ℕ} → PageRun q → PageRun (0x0C ∷ q)

-- any number of p, then at most one f
pub data Run (p f : ℕ → Bool) : List ℕ → Type 0 where
  done : Run p f []
  last : {c : ℕ} → f c ≡ true → Run p f (c ∷ [])
  more : {c : ℕ} {q : List ℕ} → p c ≡ true → Run p f q → Run p f (c ∷ q)

-- none of 07, 18 and 1B
unfoldable pub string_char : ℕ → Bool
string_char c = not (string_last c) && not (eqb c 0x1B)

-- q does not begin with `[`
abbrev pub no_bracket : List ℕ → Bool
no_bracket [] = true
no_bracket (c ∷ q) = not (eqb c 0x5B)

-- "Escape, image empty: 1B, then one of:
--     `[` `[` and at most one character up to 7F;                                                      linux, linux_char
--     or `[` not followed by `[`, any number of 20..3F, then one of 40..7E or 18 if it stands there;   control
--     or `]` and all up to the first of 07, 18 and 1B, with it if it is 07 or 18,                      string
--     without it if it is 1B, or to the end if none of the three comes;
--     or one of 40..7E other than `[` and `]`, or 18;                                                  two
--     or, none of these fitting, nothing."                                                             alone
-- "if it stands there", "all up to the first", "to the end if none of the three comes" and "none of these fitting" say that the
-- longest is taken; `LongestPiece` says it for every piece, so these are the lengths among which it chooses. A string's characters
-- leave out 1B, so that it ends before one.
pub data Escape : List ℕ → Type 0 where
  linux : Escape (0x1B ∷ 0x5B ∷ 0x5B ∷ [])
  linux_char : {c : ℕ} → low_char c ≡ true → Escape (0x1B ∷ 0x5B ∷ 0x5B ∷ c ∷ [])
  control : {q : List ℕ} → no_bracket q ≡ true → Run parameter_char final_char q → Escape (0x1B ∷ 0x5B ∷ q)
  string : {q : List ℕ} → Run string_char string_last q → Escape (0x1B ∷ 0x5D ∷ q)
  two : {c : ℕ} → final_char c ≡ true → eqb c 0x5B ≡ false → eqb c 0x5D ≡ false → Escape (0x1B ∷ c ∷ [])
  alone : Escape (0x1B ∷ [])

-- "Any other character": one that begins none of these
pub data Other (o : Options) : List ℕ → Type 0 where
  one : {c : ℕ} → line_char o c ≡ false → eqb c 0x0C ≡ false → eqb c 0x1B ≡ false → Other o (c ∷ [])

abbrev pub Allowed : Options → Kind → List ℕ → Type 0
Allowed o line_end w = LineEnd o w
Allowed o pageRun w = PageRun w
Allowed o escape w = Escape w
Allowed o other w = Other o w

-- ---- a reading: "a list of pieces that joined give it, each the longest these rules allow at its place"
pub record Piece : Type 0 where
  pub kind : Kind
  pub text : List ℕ

unfoldable pub join : List Piece → List ℕ
join [] = []
join (x ∷ xs) = x.text ++ join xs

-- the piece x, which `rest` follows, is allowed, and no piece that is allowed at its place is longer
pub record LongestPiece (o : Options) (x : Piece) (rest : List ℕ) : Type 0 where
  pub fits : Allowed o x.kind x.text
  pub most : (k : Kind) (w r : List ℕ) → Allowed o k w → w ++ r ≡ x.text ++ rest → length w ≤ length x.text

abbrev pub EachLongest : Options → List Piece → Type 0
EachLongest o [] = Unit {0}
EachLongest o (x ∷ xs) = LongestPiece o x (join xs) × EachLongest o xs

-- "A text, which doesn't include a dropped U+FEFF, is read from the left, longest piece first:"
pub record Reading (o : Options) (text : List ℕ) (xs : List Piece) : Type 0 where
  pub joined : join xs ≡ text
  pub longest : EachLongest o xs

-- ---- images
-- a page run's: "Image empty before 0D or 0A, else 20, also at the end."
-- so "giving a page run its space before 0D" does not pass
unfoldable pub page_image : List ℕ → List ℕ
page_image [] = 0x20 ∷ []
page_image (d ∷ rest) = cond (cr_or_lf d) [] (0x20 ∷ [])

-- a piece's, by the options, its kind, its characters and what follows: a line end's is 0A, an escape's empty, any other character's "its
-- replacement"
-- "Image 0A." "Escape, image empty" "Any other character: its replacement."
-- "Everything that uses replacement takes the option."
unfoldable pub piece_image : Options → Kind → List ℕ → List ℕ → List ℕ
piece_image o line_end w rest = 0x0A ∷ []
piece_image o pageRun w rest = page_image rest
piece_image o escape w rest = []
piece_image o other [] rest = []
piece_image o other (c ∷ q) rest = chars (replace_of o.units_compatibility c)

-- "The text's image joins theirs in order."
unfoldable pub image : Options → List Piece → List ℕ
image o [] = []
image o (x ∷ xs) = piece_image o x.kind x.text (join xs) ++ image o xs

-- ---- the additions, "for a whole text finished once, as end of file"
-- "If the first image character is no start, 34F goes before it." "An empty image gets no 34F."
unfoldable pub start_mark : List ℕ → List ℕ → List ℕ
start_mark p [] = []
start_mark p (x ∷ w) = cond (basic_text_start p x) [] (0x34F ∷ [])

-- "if the last image character is no end, 34F follows"
-- "The end rules follow; for a whole text finished once, as end of file, they come to this:"
unfoldable pub end_mark : List ℕ → List ℕ
end_mark [] = []
end_mark (x ∷ []) = cond (basic_text_end x) [] (0x34F ∷ [])
end_mark (x ∷ y ∷ w) = end_mark (y ∷ w)

abbrev pub is_line : Kind → Bool
is_line line_end = true
is_line pageRun = false
is_line escape = false
is_line other = false

-- "then 0A follows, unless there is no piece or the last one is a line end"
unfoldable pub last_newline : List Piece → List ℕ
last_newline [] = []
last_newline (x ∷ []) = cond (is_line x.kind) [] (0x0A ∷ [])
last_newline (x ∷ y ∷ xs) = last_newline (y ∷ xs)

-- the cleaned text of a reading, by the page p and the options o: its image "after these additions"
-- "These must not pass: a scan that passes the chunk through uncleaned (demand 3)"
unfoldable pub cleaned : List ℕ → Options → List Piece → List ℕ
cleaned p o xs = start_mark p (image o xs) ++ (image o xs ++ (end_mark (image o xs) ++ last_newline xs))
