-- Places as they were, by which an answer says `clean`.
use Rattle.std.specs.Prelude.{ℕ, Bool, true, false, ◌&&◌, List, [], ◌∷◌, eqb}

-- a list begins with these numbers
unfoldable pub begins : List ℕ → List ℕ → Bool
begins list [] = true
begins [] (x ∷ xs) = false
begins (y ∷ ys) (x ∷ xs) = eqb x y && begins ys xs
