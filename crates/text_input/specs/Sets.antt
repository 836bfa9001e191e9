-- The line ends that an option adds, by which the steps go (specs/Step.antt). The pieces have theirs (`option_char`, specs/Pieces.antt),
-- which proofs/Sets.antt proves equal. The other sets of the steps are those of `text_input_parts`.
use Rattle.std.specs.Prelude.{ℕ, Bool, ◌&&◌, ◌||◌, eqb}
use Rattle.text_input.specs.declared.Options.{Options}

-- "with its option 85, or 2028 and 2029"
-- "Options are `nel_compatibility` and `lsps_compatibility`."
unfoldable pub optional_line : Options → ℕ → Bool
optional_line o c = (eqb c 0x85 && o.nel_compatibility) || ((eqb c 0x2028 || eqb c 0x2029) && o.lsps_compatibility)
