-- A loop that takes a list part by part and stores what each part gives behind what is stored. At its head what is left of the list,
-- from the state at hand and stored from place k on, leads to the same end as the whole stored from the first place on.
--     Store        a way to store numbers; in_places: a number to a place
--     Way          what such a loop goes by
--     Going        what holds at its head
--     begin        at the start
--     again        after a part; size: what is left gives what the part gives, and the rest
--     ended        after the last part
use Prim.Native.Nat.{ℕ, ◌+◌, ◌≤◌}
use mathlib.Core.List.{List, [], ◌++◌}
use mathlib.Core.Path.{◌≡◌, refl, sym, ap, ◌∙◌}
use native.Mathlib.Nat.{zero-add}
use native.Mathlib.Omega.{arith}
use lib.ListN.{length, drop, length-append}
use lib.Seq.{sets, length-sets, drop-length}
use Rattle.common.proofs.Lists.{sets_append}

pub record Store : Type 0 where
  -- places with numbers stored from place k on
  pub put : List ℕ → ℕ → List ℕ → List ℕ
  pub put_length : (places : List ℕ) (k : ℕ) (xs : List ℕ) → length (put places k xs) ≡ length places
  pub put_append : (xs ys places : List ℕ) (k : ℕ) → put places k (xs ++ ys) ≡ put (put places k xs) (k + length xs) ys

abbrev pub in_places : Store
in_places = record { put = sets; put_length = length-sets; put_append = sets_append }

pub record Way (S : Type 0) : Type 0 where
  pub store : Store
  -- from a state on: what a part gives, the state after it, and what is given to the end where this is all that is left
  pub gives : S → List ℕ → List ℕ
  pub leads : S → List ℕ → S
  pub whole : S → List ℕ → List ℕ
  pub whole_append : (s : S) (t u : List ℕ) → whole s (t ++ u) ≡ gives s t ++ whole (leads s t) u
  pub leads_append : (s : S) (t u : List ℕ) → leads s (t ++ u) ≡ leads (leads s t) u

-- the list cs from place `from` on, the places as they were, and the first state
module _ {S : Type 0} (w : Way S) (cs : List ℕ) (from : ℕ) (places₀ : List ℕ) (s₀ : S) where
  pub record Going (places : List ℕ) (s : S) (k i : ℕ) : Type 0 where
    pub low : i ≤ length cs
    pub same : length places ≡ length places₀
    pub count : k + length (w.whole s (drop i cs)) ≡ length (w.whole s₀ (drop from cs))
    pub next : w.leads s (drop i cs) ≡ w.leads s₀ (drop from cs)
    pub stored : w.store.put places k (w.whole s (drop i cs)) ≡ w.store.put places₀ 0 (w.whole s₀ (drop from cs))

  pub begin : from ≤ length cs → Going places₀ s₀ 0 from
  begin low = record { low = low; same = refl; count = zero-add _; next = refl; stored = refl }

  module _ (places : List ℕ) (s : S) (k i : ℕ) (g : Going places s k i) where
    pub ended : length cs ≤ i →
        (k + length (w.whole s []) ≡ length (w.whole s₀ (drop from cs)))
        × ((w.leads s [] ≡ w.leads s₀ (drop from cs)) × (w.store.put places k (w.whole s []) ≡ w.store.put places₀ 0 (w.whole s₀ (drop from cs))))
    ended past =
        let e : i ≡ length cs = omega (arith, g.low) in
        let n : drop i cs ≡ [] = rw (e, drop-length) in
        (rw n at g.count, (rw n at g.next, rw n at g.stored))

    -- the part ns, from place i up to place j
    module _ (ns : List ℕ) (j : ℕ) (split : drop i cs ≡ ns ++ drop j cs) where
      both : w.whole s (drop i cs) ≡ w.gives s ns ++ w.whole (w.leads s ns) (drop j cs)
      both = ap (w.whole s) split ∙ w.whole_append s ns (drop j cs)

      pub size : length (w.whole s (drop i cs)) ≡ length (w.gives s ns) + length (w.whole (w.leads s ns) (drop j cs))
      size = ap length both ∙ length-append (w.gives s ns) (w.whole (w.leads s ns) (drop j cs))

      -- what it leaves: the places, the state, and how far they are written
      pub again : j ≤ length cs → (after : List ℕ) (next : S) (written : ℕ) →
          written ≡ k + length (w.gives s ns) → next ≡ w.leads s ns → after ≡ w.store.put places k (w.gives s ns) → Going after next written j
      again low after next written f e h =
          rw (f, e, h)
          record {
            low = low;
            same = w.store.put_length places k (w.gives s ns) ∙ g.same;
            count = omega (arith, size, g.count);
            next = sym (w.leads_append s ns (drop j cs)) ∙ ap (w.leads s) (sym split) ∙ g.next;
            stored =
                sym (w.store.put_append (w.gives s ns) (w.whole (w.leads s ns) (drop j cs)) places k)
                ∙ ap (w.store.put places k) (sym both) ∙ g.stored;
          }
