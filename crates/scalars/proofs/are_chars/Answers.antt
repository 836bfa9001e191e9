-- `scalars::are_chars` meets its contract: its fold says whether all values are characters.
use Rattle.std.proofs.Common.{◌≡◌, ℕ, List, [], ◌∷◌, refl, ap, ◌&&◌, ◌∙◌, rules}
use Rattle.std.specs.List.{list_all}
use Rattle.common.proofs.Flags.{flags}
use Rattle.scalars.specs.Chars.{is_char, are_chars}
use Rattle.scalars.proofs.are_chars.Goals as goal

all : (cs : List ℕ) → list_all is_char cs ≡ are_chars cs
all [] = refl
all (c ∷ cs) = ap (λ b. is_char c && b) (all cs)

pub returns : goal.returns
returns c =
    let chars = c.args.chars.now in
    let folded : c.fold.result ≡ list_all is_char chars = flags is_char _ _ chars c.fold.ensures.ran (cc) (λ a x b q k. search rules) in
    folded ∙ all chars
