-- What a refusal that is none shows.
--     chunk_passed, room_passed   of each half
--     passed                      and both together
--     with_room                   and where the places are enough, the first half is the whole
use mathlib.Core.Path.{◌≡◌, refl, sym}
use mathlib.Core.Bool.{Bool, true, false, cond, not}
use Prim.Native.Nat.{ℕ, ◌+◌, ◌≤◌}
use native.Mathlib.Omega.{arith}
use borrow.Author.Tests.{le-ltb, ltb-false, eqb-true, eqb-false}
use lib.Dec.{eqb, ltb}
use Rattle.common.proofs.Kit.{by}
use Rattle.common.specs.Answers.{room_refusal}
use Rattle.text_input_parts.specs.Refusals.{max_count, chunk_refusal, refusal_of}

tests_passed : (a b d : Bool) → ◌≡◌ {A = ℕ} (cond (not a) 2 (cond (not b) 1 (cond d 10 0))) 0 → (a ≡ true) × (b ≡ true) × (d ≡ false)
tests_passed true true false h = (refl, refl, refl)
tests_passed true true true h = absurd (omega arith)
tests_passed true false d h = absurd (omega arith)
tests_passed false b d h = absurd (omega arith)

both_none : (a b : ℕ) → cond (eqb a 0) b a ≡ 0 → (a ≡ 0) × (b ≡ 0)
both_none a b h =
    by (eqb a 0) (λ e. (eqb-true a 0 e, rw e at h))
    (λ e. let z : a ≡ 0 = rw e at h in absurd (eqb-false a 0 e z))

pub record ChunkPassed (count : ℕ) (page chars : Bool) (n : ℕ) : Type 0 where
  pub right_page : page ≡ true
  pub are_chars_lem : chars ≡ true
  pub counts : count + n ≤ max_count

pub chunk_passed : (count : ℕ) (page chars : Bool) (n : ℕ) → chunk_refusal count page chars n ≡ 0 → ChunkPassed count page chars n
unfolding chunk_refusal
chunk_passed count page chars n h =
    let t = tests_passed page chars (ltb max_count (count + n)) h in
    record { right_page = t.0; are_chars_lem = t.1; counts = ltb-false max_count (count + n) t.2 }

pub room_passed : (needed room : ℕ) → room_refusal needed room ≡ 0 → needed ≤ room
room_passed needed room h =
    by (ltb room needed) (λ e. let z : ⊥ = omega (arith, rw e at h) in absurd z) (λ e. ltb-false room needed e)

pub passed : (count : ℕ) (page chars : Bool) (n needed room : ℕ) → refusal_of count page chars n needed room ≡ 0 →
    ChunkPassed count page chars n × (needed ≤ room)
unfolding refusal_of
passed count page chars n needed room h =
    let b = both_none (chunk_refusal count page chars n) (room_refusal needed room) h in
    (chunk_passed count page chars n b.0, room_passed needed room b.1)

pub with_room : (count : ℕ) (page chars : Bool) (n needed room : ℕ) → needed ≤ room →
    refusal_of count page chars n needed room ≡ chunk_refusal count page chars n
unfolding refusal_of
with_room count page chars n needed room h = rw (le-ltb room needed h) (same (chunk_refusal count page chars n))
  where
    same : (a : ℕ) → cond (eqb a 0) 0 a ≡ a
    same a = by (eqb a 0) (λ e. rw e (sym (eqb-true a 0 e))) (λ e. rw e)
