-- An answer of a fill can be read back from its numbers, so that no two answers list alike and a contract on the numbers is one on the
-- answer itself. Each variant by itself, by computing.
use Prim.Native.Nat.{ℕ}
use mathlib.Core.List.{List, [], ◌∷◌}
use mathlib.Core.Path.{◌≡◌, refl}
use Rattle.text_input_fill.specs.declared.Filled.{Filled}
use Rattle.std.specs.Prelude.{Result, Ok, Err}
use Rattle.common.specs.declared.Refusal.{Refusal}
use Rattle.common.specs.declared.Refusal.TheVariants.{NotAChar}
use Rattle.common.proofs.Answers.{refusal_by, refusal_back}
use Rattle.text_input_fill.specs.Fill.{filled_numbers}

-- the answer of these numbers
abbrev pub fill_answer_of : List ℕ → Result Filled Refusal
fill_answer_of [] = Err NotAChar
fill_answer_of (n ∷ []) = Err (refusal_by n)
fill_answer_of (n ∷ k ∷ []) = Err (refusal_by n)
fill_answer_of (n ∷ t ∷ k ∷ ns) = Ok (record { taken = t; bytes = k })

pub filled_back : (a : Result Filled Refusal) → fill_answer_of (filled_numbers a) ≡ a
filled_back (Ok filled) = refl
filled_back (Err e) = rw (refusal_back e)
