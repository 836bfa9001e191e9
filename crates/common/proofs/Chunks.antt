-- A loop over the blocks of one size that a part of a run has, from place `at` on.
--     Left     at the head of the loop: the blocks from `at` on are left
--     begin    all of the part is left
--     turn     a block is taken, and what follows is left; what holds of all numbers of the block does so of those from `at` on
use Rattle.std.proofs.Common.{◌≡◌, ℕ, ◌+◌, ◌-◌, ◌≤◌, ◌<◌, List, ◌++◌, Some, length, get_or, take, drop, length-take, length-drop, length-append, get_or-take, get_or-drop, drop-drop, drop_at, sym, ap, subst, ◌∙◌, Bor, arith}
use Rattle.std.proofs.lemmas.List.{drop-take, get_or_append_left}
use Rattle.std.specs.Slice.Iter.{chunks_exact_rest, chunks_exact_size, chunks_exact_steps}
use Rattle.std.specs.declared.slice.ChunksExact.{ChunksExact}

pub record Left (s : List ℕ) (at stop size : ℕ) (blocks : ChunksExact ℕ) : Type 0 where
  pub low : at ≤ stop
  pub within : stop ≤ length s
  pub rest : chunks_exact_rest blocks ≡ take (stop - at) (drop at s)
  pub size_is : chunks_exact_size blocks ≡ size

module _ (s : List ℕ) (at stop size : ℕ) (blocks : ChunksExact ℕ) (l : Left s at stop size blocks) (block : Bor (List ℕ)) (after : ChunksExact ℕ) where
  pub turn : chunks_exact_steps blocks (Some block) after
      → Left s (at + size) stop size after × ((P : ℕ → Type 0) → ((j : ℕ) → 0 ≤ j → j < length block.now → P (get_or block.now j 0)) → (x : ℕ) → at ≤ x → x < at + size → P (get_or s x 0))
  turn h =
      let left = chunks_exact_rest after in
      let long : length block.now ≡ size = h.1.1 ∙ l.size_is in
      let joined : take (stop - at) (drop at s) ≡ block.now ++ left = sym l.rest ∙ h.1.0 in
      let fits : at + size ≤ stop = omega (arith, l.low, l.within, simp (length-take, length-drop, length-append) at (ap length joined)) in
      let e : stop - at ≡ size + (stop - (at + size)) = omega arith in (
        record {
          low = fits;
          within = l.within;
          rest = sym (drop_at block.now left size long) ∙ rw (← joined, e, drop-take size (stop - (at + size)) (drop at s), drop-drop);
          size_is = h.0 ∙ l.size_is;
        },
        λ P each x a b.
            let same : get_or block.now (x - at) 0 ≡ get_or s x 0 =
            sym (get_or_append_left block.now left 0 (x - at) (omega arith))
            ∙ sym (ap (λ xs. get_or xs (x - at) 0) joined)
            ∙ get_or-take (stop - at) (drop at s) (x - at) 0 (omega arith)
            ∙ get_or-drop at s (x - at) 0
            ∙ ap (λ k. get_or s k 0) (omega arith) in
            subst P same (each (x - at) (omega arith) (omega arith)),
      )
