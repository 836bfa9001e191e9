-- One range, and what a search finds.
--     in_range_lem       what a range has lies from its first to its last
--     empty          the empty range has nothing
--     found_at       the first range that does not end before c
--     found_none     none, where each ends before c
use mathlib.Core.Path.{◌≡◌, refl, sym, ◌∙◌}
use mathlib.Core.Bool.{true, false, false≢true, and-eq-true_iff, and-true, and-false}
use mathlib.Core.List.{List}
use Prim.Native.Nat.{ℕ, zero, suc, ◌≤◌, ◌<◌}
use lib.Dec.{leb}
use lib.ListN.{length, get_or}
use native.Mathlib.Omega.{arith}
use borrow.Author.Tests.{le-leb, lt-leb, leb-true}
use Rattle.ranges.specs.declared.Range.{Range}
use Rattle.ranges.specs.Ranges.{rises}
use Rattle.ranges.specs.Inner.{no_range, in_range, Found}
use Rattle.ranges.proofs.Laws.{same_length, member_of_place, member_past, member_at}

pub in_range_lem : (r : Range) (c : ℕ) → in_range r c ≡ true → (r.first ≤ c) × (c ≤ r.last)
unfolding in_range
in_range_lem r c h = let b = (and-eq-true_iff (leb r.first c) (leb c r.last)).0 h in (leb-true _ _ b.0, leb-true _ _ b.1)

pub empty : (c : ℕ) → in_range no_range c ≡ false
unfolding in_range
empty zero = refl
empty (suc c) = rw (lt-leb (suc c) 0 (omega arith), and-false)

module _ (fs ls : List ℕ) (r : rises 0 fs ls ≡ true) (c : ℕ) where
  pub found_at : (k : ℕ) → k < length fs → ((i : ℕ) → i < k → get_or ls i 0 < c) → c ≤ get_or ls k 0
      → Found fs ls c (record { first = get_or fs k 0; last = get_or ls k 0 })
  unfolding in_range
  found_at k h past to =
      record {
        members = λ x e.
            let b = in_range_lem (record { first = get_or fs k 0; last = get_or ls k 0 }) x e in
            member_of_place fs ls x k h (rw (same_length 0 fs ls r) at h) b.0 b.1;
        has = rw (le-leb c (get_or ls k 0) to, and-true) (sym (member_at 0 fs ls r c k h past to));
      }

  pub found_none : ((i : ℕ) → i < length ls → get_or ls i 0 < c) → Found fs ls c no_range
  found_none past =
      record {
        members = λ x e. absurd (false≢true (sym (empty x) ∙ e));
        has = empty c ∙ sym (member_past fs ls c past);
      }
