-- The order of refusals of the check of a run; and its answer read back from its numbers.
--     check_run_order    it is refused by 2, then by 1
--     verdict_back       for every answer, that of its numbers is it: no two answers list alike
use Prim.Native.Nat.{ℕ}
use mathlib.Core.Path.{◌≡◌, refl, ap}
use mathlib.Core.Bool.{Bool, true, false, not, cond}
use mathlib.Core.List.{List, [], ◌∷◌}
use Rattle.common.specs.Answers.{refusal_in}
use Rattle.common.specs.Order.{◌when◌, first_of}
use Rattle.scalars.specs.Chars.{are_chars}
use Rattle.page.specs.Page.{accepted}
use Rattle.check_run.specs.Check.{Found, fault, faults, first_numbers, verdict_numbers, check_run_of}
use Rattle.check_run.proofs.Laws.{kind_of, kind_back}
use Rattle.common.specs.declared.Refusal.{Refusal}
use Rattle.check_run.specs.declared.Fault.{Fault}
use Rattle.std.specs.Prelude.{Option, Result, Some, None, Ok, Err}
use Rattle.common.proofs.Answers.{refusal_by, refusal_back}

not_refused : (l : List Found) → refusal_in (first_numbers l) ≡ 0
not_refused [] = refl
not_refused (fault place kind ∷ l) = refl

-- by whether the page is right (a) and the values are characters (c)
by_tests : (a c : Bool) (l : List Found) →
    refusal_in (cond (not a) (2 ∷ []) (cond (not c) (1 ∷ []) (first_numbers l))) ≡ first_of (2 when not a ∷ 1 when not c ∷ [])
by_tests false c l = refl
by_tests true false l = refl
by_tests true true l = not_refused l

-- "2 then 1"
pub check_run_order : (p cs : List ℕ) →
    refusal_in (check_run_of p cs) ≡ first_of (2 when not (accepted p) ∷ 1 when not (are_chars cs) ∷ [])
unfolding check_run_of
check_run_order p cs = by_tests (accepted p) (are_chars cs) (faults p cs)

-- the answer of these numbers
abbrev verdict_of : List ℕ → Result (Option Fault) Refusal
verdict_of [] = Ok None
verdict_of (n ∷ []) = Err (refusal_by n)
verdict_of (n ∷ m ∷ []) = Ok None
verdict_of (n ∷ m ∷ place ∷ []) = Ok None
verdict_of (n ∷ m ∷ place ∷ kind ∷ ns) = Ok (Some (record { place = place; kind = kind_of kind }))

pub verdict_back : (v : Result (Option Fault) Refusal) → verdict_of (verdict_numbers v) ≡ v
verdict_back (Ok None) = refl
verdict_back (Ok (Some f)) = rw (kind_back f.kind)
verdict_back (Err e) = rw (refusal_back e)
