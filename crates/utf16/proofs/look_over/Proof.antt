-- `utf16::look_over` meets its contract. The loop's invariant: what is left, read behind no unit, leads to the unpaired units and the
-- pairs of the whole. A stretch is one unit after the other; the inner loop keeps the same.
use Prim.Native.Nat.{ℕ, zero, suc, ◌+◌, ◌-◌, ◌/◌, ◌≤◌, ◌<◌}
use mathlib.Core.Bool.{true, false, ◌&&◌, ◌||◌}
use mathlib.Core.List.{List, [], ◌∷◌}
use mathlib.Core.Path.{◌≡◌, refl, sym, ap, ◌∙◌}
use native.Mathlib.Nat.{zero-add, add-zero}
use native.Mathlib.Numerals.{add-one}
use native.Mathlib.Omega.{arith}
use borrow.Author.Rules.{rules}
use lib.ListN.{length, get_or, drop, get_or-eq_default}
use lib.Seq.{drop-cons, drop-length, get_or-drop}
use Rattle.common.proofs.Kit.{by_lt, both_true}
use Rattle.utf16.specs.declared.ByteOrder.{ByteOrder}
use Rattle.utf16.specs.Reading.{units_in, is_high, is_low, next, unpaired_from, unpaired_in}
use Rattle.utf16.specs.Inner.{lows, found_in, PlainTo}
use Rattle.utf16.proofs.Units.{length_units, units_inside, units_past}
use Rattle.utf16.proofs.Pairs.{neither, plain_turn, pair_turn, unpaired_turn, low_bounds}
use Rattle.utf16.proofs.look_over.Statement.{statement}
use Rattle.utf16.proofs.look_over.Tie as tie
use Rattle.utf16.specs.declared.DecodeError.TheVariants.{Unpaired}
use Rattle.std.specs.Prelude.{Ok, Err}

record Looking (us : List ℕ) (pairs i : ℕ) : Type 0 where
  low : i ≤ length us
  few : pairs ≤ i
  left : unpaired_from i 0 (drop i us) ≡ unpaired_in us
  count : pairs + lows (drop i us) ≡ lows us

begin : (us : List ℕ) → Looking us 0 0
unfolding unpaired_in
begin us = record { low = omega arith; few = omega arith; left = refl; count = zero-add (lows us) }

module _ (us : List ℕ) (pairs i : ℕ) (g : Looking us pairs i) where
  module _ (h : i < length us) where
    abbrev u : ℕ
    u = get_or us i 0

    abbrev v : ℕ
    v = get_or us (i + 1) 0

    left_is : drop i us ≡ u ∷ drop (i + 1) us
    left_is = rw add-one (drop-cons us i 0 h)

    next_is : next (drop (i + 1) us) ≡ v
    next_is = rw add-zero at (get_or-drop (i + 1) us 0 0)

    plain : is_high u || is_low u ≡ false → Looking us pairs (i + 1)
    plain p =
        let n = neither (is_high u) (is_low u) p in
        let t = plain_turn i u (drop (i + 1) us) n.0 n.1 in
        record {
          low = omega arith;
          few = omega (arith, g.few);
          left = ap (λ (n : ℕ). unpaired_from n 0 (drop (i + 1) us)) (add-one i) ∙ sym t.0 ∙ (rw left_is at g.left);
          count = omega (arith, t.1, simp left_is at g.count);
        }

    found : is_high u || is_low u ≡ true → is_high u && is_low v ≡ false → Err (Unpaired i) ≡ found_in us
    found p q =
        let t = unpaired_turn i u (drop (i + 1) us) p (rw next_is q) in
        rw (← g.left, left_is, t)

    -- a pair has its second unit inside
    inside : is_low v ≡ true → i + 1 < length us
    inside l = by_lt (i + 1) (length us) (λ k. k) (λ k. omega (arith, low_bounds v l, get_or-eq_default us 0 k))

    pair : is_high u && is_low v ≡ true → Looking us (pairs + 1) (i + 2)
    pair p =
        let b = both_true (is_high u) (is_low v) p in
        let k = inside b.1 in
        let m : i + 2 ≡ suc (i + 1) = omega arith in
        let e : drop (i + 1) us ≡ v ∷ drop (i + 2) us = rw m (drop-cons us (i + 1) 0 k) in
        let t = pair_turn i u v (drop (i + 2) us) b.0 b.1 in
        let n : i + 2 ≡ suc (suc i) = omega arith in
        record {
          low = omega arith;
          few = omega (arith, g.few);
          left = ap (λ (m : ℕ). unpaired_from m 0 (drop (i + 2) us)) n ∙ sym t.0 ∙ (rw (left_is, e) at g.left);
          count = omega (arith, t.1, simp (left_is, e) at g.count);
        }

  ended : length us ≤ i → Ok pairs ≡ found_in us
  ended h =
      let e : i ≡ length us = omega (arith, g.low) in
      let l : unpaired_in us ≡ [] = sym (rw (e, drop-length) at g.left) in
      let c : pairs ≡ lows us = omega (arith, rw (e, drop-length) at g.count) in
      rw (l, c)

-- a stretch
passed : (us : List ℕ) (pairs i m : ℕ) → Looking us pairs i → i + m ≤ length us →
    ((x : ℕ) → i ≤ x → x < i + m → is_high (get_or us x 0) || is_low (get_or us x 0) ≡ false) → Looking us pairs (i + m)
passed us pairs i zero g h p = rw add-zero g
passed us pairs i (suc m) g h p =
    let e : i + suc m ≡ i + m + 1 = omega arith in
    rw e
    (plain us pairs (i + m) (passed us pairs i m g (omega arith) (λ x l k. p x l (omega arith))) (omega arith) (p (i + m) (omega arith) (omega arith)))

stretch : (o : ByteOrder) (bs : List ℕ) (pairs i t : ℕ) → Looking (units_in o bs) pairs i → PlainTo bs i t → Looking (units_in o bs) pairs t
stretch o bs pairs i t g p =
    let e : i + (t - i) ≡ t = omega (arith, p.begun) in
    rw e at
    (passed (units_in o bs) pairs i (t - i) g (omega (arith, e, p.inside, length_units o bs)) (λ x l k. p.each o x l (omega (arith, e))))

abbrev invariant-loop2 : tie.invariant-loop-i-2
invariant-loop2 order bytes n pairs₀ i₀ stop pairs i = Looking (units_in order bytes) pairs i × (i₀ ≤ i)

abbrev decreases-loop2 : tie.decreases-loop-i-2
decreases-loop2 order bytes n pairs₀ i₀ stop pairs i = stop - i

abbrev invariant-loop : tie.invariant-loop-i
invariant-loop order bytes n pairs₀ i₀ pairs i = Looking (units_in order bytes) pairs i

abbrev decreases-loop : tie.decreases-loop-i
decreases-loop order bytes n pairs₀ i₀ pairs i = n - i

loop2-holds : tie.Need-loop-i-2-init invariant-loop2 decreases-loop2 invariant-loop decreases-loop
loop2-holds c =
    (stretch _ _ _ _ _ c.loop-i.invariant c.plain_end-i.ensures, omega arith)

loop-less : tie.Need-loop-i-smaller invariant-loop2 decreases-loop2 invariant-loop decreases-loop
loop-less c =
    let a = c.args in
    let end = c.plain_end-i in
    by_lt end.result (length a.bytes.now / 2)
    (λ h. omega (arith, end.ensures.begun, c.loop-i-2-test.false))
    (λ h. omega (arith, c.loop-i-2.invariant.1, c.loop-i-test.true))

loop-again : tie.Need-loop-i-preserved invariant-loop2 decreases-loop2 invariant-loop decreases-loop
loop-again c = c.loop-i-2.invariant.0

unit-at-requires : tie.Need-unit_at-u-requires invariant-loop2 decreases-loop2 invariant-loop decreases-loop
unit-at-requires c κs = omega (arith, c.loop-i-2-test.true)

returns : tie.Need-returns-then-not-is_high-is_low invariant-loop2 decreases-loop2 invariant-loop decreases-loop
returns c =
    let a = c.args in
    found _ _ _ c.loop-i-2.invariant.0 (units_inside a.order a.bytes.now _ (omega (arith, c.loop-i-2-test.true)))
    (rw (← c.unit_at-u.ensures.0, ← c.is_surrogate.ensures) c.if-is_surrogate.true)
    (rw (← c.unit_at-u.ensures.0, ← c.unit_or_zero.ensures.0, ← c.is_high.ensures, ← c.is_low.ensures) c.if-not-is_high-is_low.true)

add-pairs : tie.Need-overflow_add-pairs invariant-loop2 decreases-loop2 invariant-loop decreases-loop
add-pairs c =
    omega (arith, c.loop-i-2.invariant.0.few, c.loop-i-2-test.true)

loop2-again : tie.Need-loop-i-2-preserved-then-is_surrogate invariant-loop2 decreases-loop2 invariant-loop decreases-loop
loop2-again c =
    let a = c.args in (
      pair _ _ _ c.loop-i-2.invariant.0
          (units_inside a.order a.bytes.now _ (omega (arith, c.loop-i-2-test.true)))
          (rw (← c.unit_at-u.ensures.0, ← c.unit_or_zero.ensures.0, ← c.is_high.ensures, ← c.is_low.ensures) c.if-not-is_high-is_low.false),
      omega (arith, c.loop-i-2.invariant.1),
    )

loop2-again-2 : tie.Need-loop-i-2-preserved invariant-loop2 decreases-loop2 invariant-loop decreases-loop
loop2-again-2 c =
    let a = c.args in (
      plain _ _ _ c.loop-i-2.invariant.0
          (units_inside a.order a.bytes.now _ (omega (arith, c.loop-i-2-test.true)))
          (rw c.unit_at-u.ensures.0 at (sym c.is_surrogate.ensures ∙ c.if-is_surrogate.false)),
      omega (arith, c.loop-i-2.invariant.1),
    )

returns-2 : tie.Need-returns invariant-loop2 decreases-loop2 invariant-loop decreases-loop
returns-2 c =
    let a = c.args in
    ended _ _ _ c.loop-i.invariant (units_past a.order a.bytes.now _ c.loop-i-test.false)

pub look_over_spec : {M : Type 1} → statement M
look_over_spec =
    tie.close
    (tie.spec
    invariant-loop2
    decreases-loop2
    invariant-loop
    decreases-loop
    (λ c. begin _)
    (λ c κs. search rules)
    (λ c. omega (arith, c.plain_end-i.ensures.inside))
    (λ c κs. search rules)
    loop2-holds
    loop-less
    loop-again
    unit-at-requires
    (λ c κs. search rules)
    (λ c κs. search rules)
    (λ c. search rules)
    (λ c κs. search rules)
    (λ c κs. search rules)
    returns
    add-pairs
    (λ c. search rules)
    (λ c. search rules)
    loop2-again
    (λ c. search rules)
    (λ c. search rules)
    loop2-again-2
    returns-2)
