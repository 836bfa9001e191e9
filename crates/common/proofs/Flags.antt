-- A test of each number of a run that goes on to the end, as a fold of flags without an early exit.
--     flags    such a fold says whether all numbers pass
--     each     and where it says so, the number at each place does
use Rattle.std.proofs.Common.{◌≡◌, ℕ, ◌<◌, Bool, true, ◌&&◌, List, [], ◌∷◌, length, get_or, zero, suc, sym, ◌∙◌, fold, Bor, arith}
use mathlib.Core.Bool.{and_assoc, and-true}
use denote.Param.Members.{Mut}
use Rattle.std.specs.Fn.{Called}
use Rattle.std.specs.Iterator.{FoldsItems}
use Rattle.std.specs.List.{list_all}
use Rattle.std.specs.Slice.Iter.{iter_rest}
use Rattle.std.specs.declared.slice.Iter.{Iter}
use Rattle.std.proofs.iter.Yields.{fronts}
use Rattle.std.proofs.lemmas.Iterator.{YieldsList-from_slice}
use Rattle.std.proofs.lemmas.Iterator.Consumers.{fold_from_yields_List}
use Rattle.common.proofs.Kit.{both_true}

module _ (p : ℕ → Bool) where
  from : (good : Bool) (xs : List ℕ) → fold (λ g x. g && p x) good xs ≡ good && list_all p xs
  from good [] = sym (and-true good)
  from good (x ∷ xs) = from (good && p x) xs ∙ and_assoc good (p x) (list_all p xs)

  pub flags : {F : Type 0} {s : Iter ℕ} (g : Mut F (Bool × (Bor ℕ × Unit {0})) Bool) {f : F} (r : Bool) (xs : List ℕ) → FoldsItems fronts g s f true r → iter_rest s ≡ xs
      → ((a : Bool) (x : Bor ℕ) (b : Bool) (q : F) → Called g f (a, (x, tt)) b q → (q ≡ f) × (b ≡ (a && p x.now)))
      → r ≡ list_all p xs
  flags g r xs ran rest test = fold_from_yields_List g (λ a x. a && p x) true r ran (YieldsList-from_slice xs rest) test ∙ from true xs

  pub each : (xs : List ℕ) → list_all p xs ≡ true → (k : ℕ) → k < length xs → p (get_or xs k 0) ≡ true
  each [] h k l = absurd (omega arith)
  each (x ∷ xs) h zero l = (both_true (p x) (list_all p xs) h).0
  each (x ∷ xs) h (suc k) l = each xs (both_true (p x) (list_all p xs) h).1 k (omega arith)
