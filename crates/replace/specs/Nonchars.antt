-- The noncharacters by rule, a second source beside the list of the rows: The Unicode Standard 15.0, section 23.7. Assumes nothing.
-- `nonchars_are` (proofs/Nonchars.antt) says that the list has exactly these.
use Rattle.std.specs.Prelude.{ℕ, ◌%◌, Bool, ◌&&◌, ◌||◌, leb}

-- the last two code points of each plane, and FDD0..FDEF
abbrev pub non_character : ℕ → Bool
non_character c = leb 0xfffe (c % 0x10000) || (leb 0xfdd0 c && leb c 0xfdef)
