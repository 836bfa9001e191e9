-- The loop of `fill`: at its head the state is the one after as many steps as places are filled, and what is left of the picks, stored from
-- the place at hand on, leads to the places that all of them lead to.
--     Filling        at the head of the loop
--     begun          no place is filled
--     filled_more    a step, and its pick stored
--     all_filled     the picks take every place
use Rattle.std.proofs.Common.{◌≡◌, ℕ, suc, ◌+◌, ◌<◌, ◌≤◌, List, length, set, sym, refl, ap, ◌∙◌, append-nil, zero-add, add-one, arith}
use lib.Seq.{drop-length}
use Rattle.common.proofs.Storing.{Storing, begin, again, ended}
use Rattle.common.proofs.Lists.{sets_first}
use Rattle.generator.specs.Generator.{next_of, after, pick_of, picks, fill_places, fill_state}
use Rattle.generator.proofs.Laws.{after_suc, picks_length, picks_at}

pub record Filling (s : ℕ) (out₀ out : List ℕ) (at i : ℕ) : Type 0 where
  pub state : at ≡ after i s
  pub stored : Storing (picks (length out₀) s) out₀ 0 out i

pub begun : (s : ℕ) (out : List ℕ) → Filling s out out s 0
begun s out = record { state = refl; stored = begin (picks (length out) s) out 0 (omega (arith, picks_length (length out) s)) }

module _ (s : ℕ) (out₀ out : List ℕ) (at i : ℕ) (g : Filling s out₀ out at i) where
  pub filled_more : (new c : ℕ) → i < length out → new ≡ next_of at → c ≡ pick_of new → Filling s out₀ (set out i c) new (i + 1)
  filled_more new c h n p =
      let within : i < length out₀ = omega (arith, g.stored.same) in
      let state : new ≡ after (suc i) s = n ∙ ap next_of g.state ∙ sym (after_suc i s) in
      record {
        state = rw add-one state;
        stored =
            rw zero-add at
            (again (picks (length out₀) s) out₀ 0 out i g.stored c (omega (arith, picks_length (length out₀) s))
            (p ∙ ap pick_of state ∙ sym (picks_at (length out₀) s i within)));
      }

  pub all_filled : length out ≤ i → (at ≡ fill_state s out₀) × (out ≡ fill_places s out₀)
  unfolding fill_state fill_places
  all_filled h =
      let n = picks_length (length out₀) s in
      let e : i ≡ length out₀ = omega (arith, n, g.stored.low, g.stored.same) in (
        g.state ∙ ap (λ (k : ℕ). after k s) e,
        ended (picks (length out₀) s) out₀ 0 out i g.stored (omega (arith, n))
            ∙ sets_first (picks (length out₀) s) out₀ (omega (arith, n))
            ∙ simp (n, drop-length, append-nil),
      )
