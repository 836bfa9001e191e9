-- Characters. Document 01, "Refused because of the input".
use Rattle.std.specs.Prelude.{Bool, true, not, ◌&&◌, ◌||◌, List, [], ◌∷◌, ℕ, leb, ltb}

-- a number is a character unless refusal 1 has it: "1 a value in D800..DFFF or above 10FFFF"
unfoldable pub is_char : ℕ → Bool
is_char c = not ((leb 0xD800 c && leb c 0xDFFF) || ltb 0x10FFFF c)

-- every number of a list is a character. "Characters are lent as 32-bit numbers.": a lent number need not be one
abbrev pub are_chars : List ℕ → Bool
are_chars [] = true
are_chars (c ∷ cs) = is_char c && are_chars cs
