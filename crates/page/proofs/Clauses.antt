-- A page is accepted exactly when the clauses of document 01 hold. Idea: each group's lists have the group's ranges at the same places
-- (`Layout`), and a list rises exactly when its ranges keep the three rules (ranges, Laws).
--     nonstarter_of, of_nonstarter                 a nonstarter lies in a range of the first group; both ways
--     assigned_of, of_assigned                     an assigned character lies in one of the second; both ways
--     clauses_of_accepted, accepted_of_clauses     acceptance, clause by clause; both ways
use mathlib.Core.Path.{◌≡◌, sym, ◌∙◌}
use mathlib.Core.Bool.{Bool, true, false, ◌&&◌, false≢true}
use mathlib.Mathlib.Data.Bool.Basic.{eq-false_of_not-eq-true}
use mathlib.Core.List.{List}
use Prim.Native.Nat.{ℕ, suc, ◌+◌, ◌*◌, ◌<◌, zero-le}
use native.Mathlib.Omega.{arith}
use lib.ListN.{length, get_or, length-take, length-drop}
use lib.Seq.{get_or-take, get_or-drop}
use borrow.Author.Tests.{le-leb, eq-eqb}
use Rattle.ranges.specs.Ranges.{member, rises}
use Rattle.ranges.proofs.Laws.{rises_of, range_at, apart, place_of_member, member_of_place}
use Rattle.page.specs.Page.{nonstarter_firsts, nonstarter_lasts, assigned_firsts, assigned_lasts, sized, rising, nonstarter, assigned, marks, accepted}
use Rattle.page.specs.Clauses.{count_n, count_a, nonstarter_first, nonstarter_last, assigned_first, assigned_last, Group, InGroup, IsNonstarter, IsAssigned, Clauses}
use Rattle.page.proofs.PageLaws.{facts_of_accepted}

-- ---- a group, as two lists
-- the two lists have the group's n ranges, in order
record Layout (n : ℕ) (first last : ℕ → ℕ) (fs ls : List ℕ) : Type 0 where
  firsts_long : length fs ≡ n
  lasts_long : length ls ≡ n
  first_at : (i : ℕ) → i < n → get_or fs i 0 ≡ first i
  last_at : (i : ℕ) → i < n → get_or ls i 0 ≡ last i

module _ {n : ℕ} {first last : ℕ → ℕ} {fs ls : List ℕ} (k : Layout n first last fs ls) where
  group_of : rises 0 fs ls ≡ true → Group n first last
  group_of r =
      record {
        ordered = λ i h. omega (arith, k.first_at i h, k.last_at i h, (range_at 0 fs ls r i (omega arith)).ends);
        exceeds = λ i h.
            omega (arith, k.first_at (suc i) h, k.last_at i (omega arith), apart 0 fs ls r i (suc i) (omega arith) (omega arith));
        top = λ i h. omega (arith, k.last_at i h, (range_at 0 fs ls r i (omega arith)).top);
      }

  rises_of_group : Group n first last → rises 0 fs ls ≡ true
  rises_of_group g =
      rises_of 0 fs ls (k.firsts_long ∙ sym k.lasts_long) (λ h. zero-le)
      (λ i h. let l : i < n = omega arith in omega (arith, k.first_at i l, k.last_at i l, g.ordered i l))
      (λ i h.
      let l : suc i < n = omega arith in
      omega (arith, k.first_at (suc i) l, k.last_at i (omega arith), g.exceeds i l))
      (λ i h. let l : i < n = omega arith in omega (arith, k.last_at i l, g.top i l))

  in_group : (c : ℕ) → member fs ls c ≡ true → InGroup n first last c
  in_group c e =
      let q = place_of_member fs ls c e in
      let l : q.at < n = omega arith in
      record {
        at = q.at;
        there = l;
        from = omega (arith, k.first_at q.at l);
        to = omega (arith, k.last_at q.at l);
      }

  of_group : (c : ℕ) → InGroup n first last c → member fs ls c ≡ true
  of_group c q =
      member_of_place fs ls c q.at (omega arith) (omega arith)
      (omega (arith, k.first_at q.at q.there))
      (omega (arith, k.last_at q.at q.there))

-- ---- the page's groups
module _ (p : List ℕ) (l : length p ≡ 2 + 2 * (count_n p + count_a p)) where
  nonstarter_layout : Layout (count_n p) (nonstarter_first p) (nonstarter_last p) (nonstarter_firsts p) (nonstarter_lasts p)
  nonstarter_layout =
      record {
        firsts_long = simp (length-take, length-drop) (omega arith);
        lasts_long = simp (length-take, length-drop) (omega arith);
        first_at = λ i h.
            get_or-take (count_n p) _ i 0 h ∙ get_or-take (count_n p + count_a p) _ i 0 (omega arith) ∙ get_or-drop 2 p i 0;
        last_at = λ i h.
            get_or-take (count_n p) _ i 0 h ∙ get_or-drop (count_n p + count_a p) _ i 0 ∙ get_or-drop 2 p (count_n p + count_a p + i) 0;
      }

  assigned_layout : Layout (count_a p) (assigned_first p) (assigned_last p) (assigned_firsts p) (assigned_lasts p)
  assigned_layout =
      record {
        firsts_long = simp (length-take, length-drop) (omega arith);
        lasts_long = simp length-drop (omega arith);
        first_at = λ i h.
            get_or-drop (count_n p) _ i 0
            ∙ get_or-take (count_n p + count_a p) _ (count_n p + i) 0 (omega arith)
            ∙ get_or-drop 2 p (count_n p + i) 0;
        last_at = λ i h.
            get_or-drop (count_n p) _ i 0
            ∙ get_or-drop (count_n p + count_a p) _ (count_n p + i) 0
            ∙ get_or-drop 2 p (count_n p + count_a p + (count_n p + i)) 0;
      }

  pub nonstarter_of : (c : ℕ) → nonstarter p c ≡ true → IsNonstarter p c
  unfolding nonstarter
  nonstarter_of c e = in_group nonstarter_layout c e

  pub of_nonstarter : (c : ℕ) → IsNonstarter p c → nonstarter p c ≡ true
  unfolding nonstarter
  of_nonstarter c q = of_group nonstarter_layout c q

  pub assigned_of : (c : ℕ) → assigned p c ≡ true → IsAssigned p c
  unfolding assigned
  assigned_of c e = in_group assigned_layout c e

  pub of_assigned : (c : ℕ) → IsAssigned p c → assigned p c ≡ true
  unfolding assigned
  of_assigned c q = of_group assigned_layout c q

-- ---- acceptance
pub clauses_of_accepted : (p : List ℕ) → accepted p ≡ true → Clauses p
clauses_of_accepted p e =
    let a = facts_of_accepted p e in
    let s = a.sizes in
    let no : (c : ℕ) → nonstarter p c ≡ false → IsNonstarter p c → ⊥ =
    λ c f q. false≢true (sym f ∙ of_nonstarter p s.long c q) in
    record {
      sizes = s.two;
      nonstarter_ranges = s.nonstarters;
      assigned_ranges = s.assigneds;
      exactly = s.long;
      nonstarters = group_of (nonstarter_layout p s.long) a.nonstarters_rise;
      assigneds = group_of (assigned_layout p s.long) a.assigned_rise;
      assigned_000a = assigned_of p s.long 0xa a.assigned_0a;
      assigned_034f = assigned_of p s.long 0x34f a.assigned_34f;
      starter_000a = no 0xa a.nonstarter_0a;
      starter_0020 = no 0x20 a.nonstarter_20;
      starter_034f = no 0x34f a.nonstarter_34f;
    }

both : {b c : Bool} → b ≡ true → c ≡ true → b && c ≡ true
both p q = rw (p, q)

pub accepted_of_clauses : (p : List ℕ) → Clauses p → accepted p ≡ true
unfolding accepted sized rising
accepted_of_clauses p k =
    let l = k.exactly in
    let no : (c : ℕ) → (IsNonstarter p c → ⊥) → nonstarter p c ≡ false =
    λ c f. eq-false_of_not-eq-true (λ e. f (nonstarter_of p l c e)) in
    let sizes : sized p ≡ true =
    both (le-leb _ _ k.sizes)
    (both (both (le-leb _ _ k.nonstarter_ranges) (le-leb _ _ k.assigned_ranges)) (eq-eqb _ _ l)) in
    let groups : rising p ≡ true =
    both (rises_of_group (nonstarter_layout p l) k.nonstarters) (rises_of_group (assigned_layout p l) k.assigneds) in
    let marked : marks p ≡ true =
    simp (
      of_assigned p l 0xa k.assigned_000a,
      of_assigned p l 0x34f k.assigned_034f,
      no 0xa k.starter_000a,
      no 0x20 k.starter_0020,
      no 0x34f k.starter_034f,
    ) in
    both sizes (both groups marked)
