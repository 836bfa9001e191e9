-- The sets of characters that the steps tell apart (`text_input`, specs/Step.antt). Document 01, "Pieces of a text". The pieces have
-- sets of their own, which proofs/PieceSets.antt proves equal.
use Rattle.std.specs.Prelude.{ℕ, Bool, ◌&&◌, ◌||◌, eqb, leb}

-- "20..3F"
unfoldable pub parameter : ℕ → Bool
parameter c = leb 0x20 c && leb c 0x3F

-- "one of 40..7E or 18"
unfoldable pub final : ℕ → Bool
final c = (leb 0x40 c && leb c 0x7E) || eqb c 0x18

-- "07 or 18"
-- so "letting a newline end an OSC (`ESC ]`) string" does not pass
unfoldable pub string_end : ℕ → Bool
string_end c = eqb c 0x07 || eqb c 0x18

-- "up to 7F"
unfoldable pub up_to7_f : ℕ → Bool
up_to7_f c = leb c 0x7F

-- "0D or 0A"
unfoldable pub newline_char : ℕ → Bool
newline_char c = eqb c 0x0A || eqb c 0x0D
