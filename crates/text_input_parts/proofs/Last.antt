-- The last character appended.
--     last_chars                the last of a replacement's characters is the same after any other
--     last_append, last_three   the last character after two parts, after three
use Prim.Native.Nat.{ℕ}
use mathlib.Core.Path.{◌≡◌, refl, ◌∙◌}
use mathlib.Core.List.{List, [], ◌∷◌, ◌++◌}
use Rattle.replace.specs.declared.Replaced.{Replaced}
use Rattle.replace.specs.declared.Replaced.TheVariants.{One, Two, Three}
use Rattle.replace.specs.Replace.{chars}
use Rattle.text_input_parts.specs.Appended.{last_of}

pub last_chars : (l : ℕ) (r : Replaced) → last_of 0 (chars r) ≡ last_of l (chars r)
last_chars l (One a) = refl
last_chars l (Two a b) = refl
last_chars l (Three a b c) = refl

pub last_append : (l : ℕ) (v w : List ℕ) → last_of (last_of l v) w ≡ last_of l (v ++ w)
last_append l [] w = refl
last_append l (x ∷ v) w = last_append x v w

pub last_three : (l : ℕ) (u v w : List ℕ) → last_of (last_of (last_of l u) v) w ≡ last_of l (u ++ (v ++ w))
last_three l u v w = last_append (last_of l u) v w ∙ last_append l u (v ++ w)
