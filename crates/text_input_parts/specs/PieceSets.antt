-- The sets of characters that the pieces of a text are made of (`text_input`, specs/Pieces.antt), from document 01's words, "Pieces of
-- a text". The steps have theirs (specs/Sets.antt); proofs/PieceSets.antt proves each pair equal for every number, so that a wrong
-- set of the steps is refused though code and definition follow it.
use Rattle.std.specs.Prelude.{ℕ, Bool, ◌&&◌, ◌||◌, eqb, leb}

-- one of first..last
abbrev pub within : ℕ → ℕ → ℕ → Bool
within first last c = leb first c && leb c last

-- "any number of 20..3F"
unfoldable pub parameter_char : ℕ → Bool
parameter_char c = within 0x20 0x3F c

-- "one of 40..7E or 18"
unfoldable pub final_char : ℕ → Bool
final_char c = within 0x40 0x7E c || eqb c 0x18

-- "with it if it is 07 or 18"; so "letting a newline end an OSC (`ESC ]`) string" does not pass
unfoldable pub string_last : ℕ → Bool
string_last c = eqb c 0x07 || eqb c 0x18

-- "one character up to 7F"
unfoldable pub low_char : ℕ → Bool
low_char c = within 0x00 0x7F c

-- "0D or 0A"
unfoldable pub cr_or_lf : ℕ → Bool
cr_or_lf c = eqb c 0x0D || eqb c 0x0A
