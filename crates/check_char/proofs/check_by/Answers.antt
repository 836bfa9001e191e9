-- `check_char::check_by` meets its contract: the reason's number is one of those listed, and each has its arm.
-- the numbers that have an arm, from the last arm to the first
use Prim.Native.Nat.{ℕ}
use mathlib.Core.Path.{◌≡◌, ap, ◌∙◌}
use mathlib.Core.List.{List, [], ◌∷◌}
use native.Mathlib.Omega.{arith}
use types.Run.{hit}
use Rattle.replace.proofs.Rows.{points, points_at, free_at, at_point}
use Rattle.check_char.specs.declared.Replacements.{Replacements}
use Rattle.check_char.specs.Check.{list_numbers, three_and_count}
use Rattle.check_char.proofs.Answers.{reasons, reason_listed, says}
use Rattle.check_char.proofs.check_by.Goals as goal
use Rattle.check_char.proofs.check_by.Goals.{In_default}

abbrev keys : List (List ℕ)
keys = (14 ∷ []) ∷ (13 ∷ []) ∷ (12 ∷ []) ∷ (11 ∷ []) ∷ (10 ∷ []) ∷ (9 ∷ []) ∷ (8 ∷ []) ∷ (7 ∷ []) ∷ (6 ∷ []) ∷ (5 ∷ []) ∷ (3 ∷ []) ∷ (2 ∷ []) ∷ (0 ∷ []) ∷ []

-- the number that is left
last : (c : In_default) → c.reason-number.result ≡ 16
last c =
    at_point
    (free_at keys (points reasons) c.in_default.in_default-own.rest
    (points_at reasons (hit reasons c.reason-number.result (rw c.reason-number.ensures (reason_listed _)))))
    (omega arith)

pub returns-in_default : goal.returns-in_default
returns-in_default c =
    let e = c.listed-yes.ensures ∙ ap three_and_count c.replace_by.ensures in
    ap (λ (l : Replacements). 16 ∷ c.args.c ∷ list_numbers l) e ∙ says c.args.units _ 16 _ c.reason-number.ensures (last c.before.before)
