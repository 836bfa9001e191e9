-- The line ends that an option adds are for the steps (specs/Sets.antt) what they are for the pieces (specs/Pieces.antt), with every
-- options and for every number. The other pairs of sets are those of `text_input_parts`, proofs/PieceSets.antt.
--     option_is    the pair
--     each_alone   which characters end a line and what replaces one, by each option alone, whatever the others are
use Prim.Native.Nat.{ℕ}
use mathlib.Core.Path.{◌≡◌, refl}
use mathlib.Core.Bool.{Bool, true, false}
use mathlib.Core.List.{List, [], ◌∷◌}
use Rattle.replace.specs.Replace.{chars, replace_of}
use Rattle.text_input.specs.declared.Options.{Options}
use Rattle.text_input.specs.Sets.{optional_line}
use Rattle.text_input.specs.Pieces.{option_char, other, piece_image}

-- "with its option 85, or 2028 and 2029"
pub option_is : (o : Options) (c : ℕ) → optional_line o c ≡ option_char o c
unfolding optional_line option_char
option_is o c = refl

-- "with its option 85, or 2028 and 2029"; "Everything that uses replacement takes the option."
pub each_alone : (nel lsps units : Bool) →
    let o : Options = record { nel_compatibility = nel; lsps_compatibility = lsps; units_compatibility = units } in
    (option_char o 0x85 ≡ nel) × (option_char o 0x2028 ≡ lsps) × (option_char o 0x2029 ≡ lsps)
    × ((c : ℕ) (rest : List ℕ) → piece_image o other (c ∷ []) rest ≡ chars (replace_of units c))
unfolding option_char piece_image
each_alone true true units = (refl, refl, refl, λ c rest. refl)
each_alone true false units = (refl, refl, refl, λ c rest. refl)
each_alone false true units = (refl, refl, refl, λ c rest. refl)
each_alone false false units = (refl, refl, refl, λ c rest. refl)
