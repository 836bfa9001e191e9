-- `replay_writer::places::is_same`: a list begins with another as the library's word says, element by element.
use Rattle.std.proofs.Common.{◌≡◌, ℕ, List, [], ◌∷◌, refl, ap, ◌∙◌}
use Rattle.std.specs.Prelude.{◌&&◌}
use Rattle.std.specs.List.{starts_with}
use lib.Dec.{eqb}
use Rattle.replay_writer.specs.Places.{begins}
use Rattle.replay_writer.proofs.places.is_same.Goals as goal

starts_with-begins : (list xs : List ℕ) → starts_with eqb list xs ≡ begins list xs
unfolding begins
starts_with-begins list [] = refl
starts_with-begins [] (x ∷ xs) = refl
starts_with-begins (y ∷ ys) (x ∷ xs) = ap (λ b. eqb x y && b) (starts_with-begins ys xs)

pub returns : goal.returns
returns c =
    c.starts_with.ensures.value
    ∙ (λ i. starts_with eqb (c.rest.ensures i) (c.rest-2.ensures i))
    ∙ starts_with-begins _ _
