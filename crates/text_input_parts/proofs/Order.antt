-- The order of a scan's refusals, with document 01's numbers written out. Idea: by cases of the four conditions.
--     places_are       what a chunk asks for, as a test of its places
--     order_of         the number of a refusal is the first of 2, 1, 10, 8 whose condition holds, whatever the places needed
--     refusal_order    the number of a scan's refusal is the first of 2, 1, 10, 8 whose condition holds
--     limits           the count's limit is reached by an accepted scan, and passed by none
use Prim.Native.Nat.{ℕ, zero, suc, ◌+◌, ◌*◌}
use mathlib.Core.Path.{◌≡◌, refl, ap, ◌∙◌}
use mathlib.Core.Bool.{Bool, true, false, cond, not, ◌&&◌}
use mathlib.Core.List.{[], ◌∷◌}
use native.Mathlib.Omega.{arith}
use borrow.Author.Tests.{lt-ltb, le-ltb}
use lib.Dec.{eqb, ltb}
use Rattle.common.specs.Order.{◌when◌, first_of}
use Rattle.text_input_parts.specs.Refusals.{places_for_chunk, chunk_refusal, refusal_of}

-- "A chunk of n characters needs 3 × n + 1 free places, an empty one none."
pub places_are : (n room : ℕ) → ltb room (places_for_chunk n) ≡ ltb 0 n && ltb room (3 * n + 1)
places_are zero room = le-ltb room 0 (omega arith)
places_are (suc n) room = rw (lt-ltb 0 (suc n) (omega arith))

order_by : (a b d e : Bool) →
    ◌≡◌ {A = ℕ} (cond (eqb (cond (not a) 2 (cond (not b) 1 (cond d 10 0))) 0) (cond e 8 0) (cond (not a) 2 (cond (not b) 1 (cond d 10 0))))
    (cond (not a) 2 (cond (not b) 1 (cond d 10 (cond e 8 0))))
order_by false b d e = refl
order_by true false d e = refl
order_by true true true e = refl
order_by true true false e = refl

-- "Order: 2, 1, 10, 8." By the record's count, whether the page is accepted, whether every value is a character, how many these are, and
-- the places needed: "2 a wrong page", "1 a value in D800..DFFF or above 10FFFF", "10 the count would pass 4,294,967,295", "8 too few free
-- places"
pub order_of : (count : ℕ) (page chars : Bool) (n needed room : ℕ) →
    refusal_of count page chars n needed room
    ≡ first_of (2 when not page ∷ 1 when not chars ∷ 10 when ltb 4294967295 (count + n) ∷ 8 when ltb room needed ∷ [])
unfolding refusal_of chunk_refusal
order_of count page chars n needed room = order_by page chars (ltb 4294967295 (count + n)) (ltb room needed)

pub refusal_order : (count : ℕ) (page chars : Bool) (n room : ℕ) →
    refusal_of count page chars n (places_for_chunk n) room
    ≡ first_of (
    2 when not page ∷ 1 when not chars ∷ 10 when ltb 4294967295 (count + n) ∷ 8 when (ltb 0 n && ltb room (3 * n + 1)) ∷ []
    )
refusal_order count page chars n room =
    order_of count page chars n (places_for_chunk n) room
    ∙ ap (λ e. cond (not page) 2 (cond (not chars) 1 (cond (ltb 4294967295 (count + n)) 10 (cond e 8 0)))) (places_are n room)

-- the limit, with room and without a fault: one character more makes the count 4,294,967,295, then one more is refused and none more is
-- not. The answers are those of the comparison's oracle.
pub limits : (refusal_of 4294967294 true true 1 4 4 ≡ 0) × (refusal_of 4294967295 true true 1 4 4 ≡ 10) × (refusal_of 4294967295 true true 0 0 0 ≡ 0)
unfolding refusal_of chunk_refusal
limits = (refl, refl, refl)
