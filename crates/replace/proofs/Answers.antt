-- An answer of `replacement` can be read back from its numbers, so that no two answers list alike and a contract on these is one on
-- the answer itself.
--     replacement_back    each answer is read back
use Prim.Native.Nat.{ℕ}
use mathlib.Core.Path.{◌≡◌, refl}
use mathlib.Core.List.{List, [], ◌∷◌}
use Rattle.replace.specs.declared.Replaced.TheVariants.{One, Two, Three}
use Rattle.common.specs.declared.Refusal.TheVariants.{NotAChar}
use Rattle.common.proofs.Answers.{refusal_by, refusal_back}
use Rattle.replace.specs.declared.Replaced.{Replaced}
use Rattle.replace.specs.Replace.{replacement_numbers}
use Rattle.common.specs.declared.Refusal.{Refusal}
use Rattle.std.specs.Prelude.{Result, Ok, Err}

-- the answer of these numbers
abbrev pub answer_of : List ℕ → Result Replaced Refusal
answer_of [] = Err NotAChar
answer_of (n ∷ []) = Err (refusal_by n)
answer_of (n ∷ a ∷ []) = Ok (One a)
answer_of (n ∷ a ∷ b ∷ []) = Ok (Two a b)
answer_of (n ∷ a ∷ b ∷ c ∷ ns) = Ok (Three a b c)

pub replacement_back : (a : Result Replaced Refusal) → answer_of (replacement_numbers a) ≡ a
replacement_back (Ok (One a)) = refl
replacement_back (Ok (Two a b)) = refl
replacement_back (Ok (Three a b c)) = refl
replacement_back (Err e) = rw (refusal_back e)
