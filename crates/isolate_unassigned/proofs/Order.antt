-- What refuses an isolation, and in which order; and what it leaves.
--     isolate_order     the refusals, each with its condition written out
--     isolate_leaves    the places after it, refused or not
use Prim.Native.Nat.{ℕ, zero, suc, ◌+◌, ◌*◌, ◌≤◌}
use mathlib.Core.Path.{◌≡◌, refl, sym, ◌∙◌}
use mathlib.Core.Bool.{Bool, true, false, not, cond, ◌&&◌}
use mathlib.Core.List.{List, [], ◌∷◌}
use native.Mathlib.Omega.{arith}
use lib.Dec.{ltb, eqb}
use lib.ListN.{length}
use borrow.Author.Tests.{eqb-true, lt-ltb, le-ltb, ltb-false}
use Rattle.common.specs.Answers.{refusal_in, then_room}
use Rattle.common.specs.Order.{◌when◌, first_of}
use Rattle.common.proofs.Kit.{by, never}
use Rattle.common.proofs.Lists.{take_first, drop_sets}
use Rattle.scalars.specs.Chars.{are_chars}
use Rattle.page.specs.Page.{accepted}
use Rattle.isolate_unassigned.specs.Meaning.{isolated}
use Rattle.isolate_unassigned.specs.Isolate.{places_for_run, isolate_refusal, isolate_answer, isolate_places, IsolateLeaves}
use Rattle.isolate_unassigned.proofs.Laws.{length_isolate}

-- by whether the page is right (a), the values are characters (c), and the sizes
by_sizes : (a c : Bool) (n room : ℕ) → then_room (cond (not a) 2 (cond (not c) 1 0)) (places_for_run n) room
    ≡ first_of (2 when not a ∷ 1 when not c ∷ 8 when (ltb 0 n && ltb room (2 * n + 1)) ∷ [])
by_sizes false c n room = refl
by_sizes true false n room = refl
by_sizes true true zero room = rw (le-ltb room 0 (omega arith)) refl
by_sizes true true (suc n) room = rw (lt-ltb 0 (suc n) (omega arith)) refl

-- the answer's first number is the refusal
first_number : (n k : ℕ) → refusal_in (cond (eqb n 0) (0 ∷ k ∷ []) (n ∷ [])) ≡ n
first_number n k = by (eqb n 0) (λ e. rw (eqb-true n 0 e) refl) (λ e. rw e refl)

-- "Isolating a run of n characters needs 2 × n + 1 places, an empty one none; order 2, 1, 8."
pub isolate_order : (p cs out : List ℕ) →
    refusal_in (isolate_answer p cs out)
    ≡ first_of (
    2 when not (accepted p) ∷
    1 when not (are_chars cs) ∷
    8 when (ltb 0 (length cs) && ltb (length out) (2 * length cs + 1)) ∷ [])
isolate_order p cs out = first_number (isolate_refusal p cs out) _ ∙ by_sizes (accepted p) (are_chars cs) (length cs) (length out)

-- ---- what it leaves
room_passed : (b n r : ℕ) → eqb (then_room b n r) 0 ≡ true → n ≤ r
room_passed b n r h = by (eqb b 0) (λ e. by (ltb r n) (λ f. never (rw (e, f) at h)) (λ f. ltb-false r n f)) (λ e. never (sym e ∙ (rw e at h)))

pub isolate_leaves : (p cs out : List ℕ) → IsolateLeaves p cs out (isolate_answer p cs out) (isolate_places p cs out)
isolate_leaves p cs out =
    by (eqb (isolate_refusal p cs out) 0)
    (λ e.
    let fits : length (isolated p cs) ≤ length out = omega (arith, room_passed (cond (not (accepted p)) 2 (cond (not (are_chars cs)) 1 0)) (places_for_run (length cs)) (length out) e, length_isolate p cs) in
    rw e
    (record {
      nothing = λ h. never h;
      number = λ h. refl;
      wrote = λ h. take_first (isolated p cs) out (length (isolated p cs)) refl fits;
      past = drop_sets (length (isolated p cs)) out 0 (isolated p cs) (omega arith);
    }))
    (λ e.
    rw e
    (record {
      nothing = λ h. refl;
      number = λ h. never (rw e at h);
      wrote = λ h. never (rw e at h);
      past = refl;
    }))
