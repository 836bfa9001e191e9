-- What asking and committing may rely on, and that answer, record and places are then the definition's.
--     ask_refused                 asking, where it is refused
--     told, ask_is                where it is not: what that shows of page and count, and the answer
--     priced, not_priced          what an answer of asking shows
--     commit_refused, commit_fewer, commit_fits
--                                 a commit: where asking is refused, where the places are too few, and where they are enough
--     enough, committed_is        .. what it appends has room, and its outcome
use Prim.Native.Nat.{ℕ, ◌≤◌, ◌<◌}
use mathlib.Core.List.{List, [], ◌∷◌}
use mathlib.Core.Path.{◌≡◌, sym, ap, ◌∙◌}
use native.Mathlib.Nat.{zero-add}
use native.Mathlib.Omega.{arith}
use lib.Dec.{eqb}
use lib.ListN.{length, drop, get_or}
use lib.Seq.{sets}
use borrow.Author.Tests.{eqb-true, eqb-false, eq-eqb, ne_eqb, lt-ltb}
use Rattle.common.proofs.Kit.{by}
use Rattle.scalars.specs.Chars.{are_chars}
use Rattle.page.specs.Page.{accepted}
use Rattle.text_input_parts.specs.Refusals.{refusal_of}
use Rattle.text_input_parts.proofs.Passed.{ChunkPassed, chunk_passed, with_room}
use Rattle.text_input.specs.declared.Options.{Options}
use Rattle.text_input.specs.declared.TextInput.{TextInput}
use Rattle.text_input.specs.declared.Ran.{Ran}
use Rattle.text_input.specs.Scan.{run_of, skipped, opened, outcome, refused, written, scan_chars, scan_next}
use Rattle.text_input.specs.Inner.{outs, ran_by}
use Rattle.text_input_price.specs.Price.{places_filled, ask_refusal, ask_of, commit_refusal, commit_of}
use Rattle.std.specs.Prelude.{Ok}

module _ (r : TextInput) (p : List ℕ) (o : Options) (chunk : List ℕ) where
  abbrev no : ℕ
  no = ask_refusal r.count p chunk

  abbrev filled : ℕ
  filled = places_filled p o r chunk

  -- ---- asking
  pub ask_refused : (n : ℕ) → n ≡ no → (n ≡ 0 → ⊥) → n ∷ [] ≡ ask_of r p o chunk
  unfolding ask_of
  ask_refused n e h = rw (← e, ne_eqb n 0 h)

  module _ (n : ℕ) (e : n ≡ no) (z : n ≡ 0) where
    pub told : ChunkPassed r.count (accepted p) (are_chars chunk) (length chunk)
    told = chunk_passed r.count (accepted p) (are_chars chunk) (length chunk) (sym e ∙ z)

    pub ask_is : (from : ℕ) → from ≡ skipped r chunk → (first : TextInput) → first ≡ opened r (length chunk) →
        (k : ℕ) → k ≡ length (outs p o first (drop from chunk)) → 0 ∷ k ∷ [] ≡ ask_of r p o chunk
    unfolding ask_of
    ask_is from f first g k h = rw (← e, eq-eqb n 0 z, h, f, g)

  -- ---- what an answer shows
  pub priced : (n : ℕ) → ask_of r p o chunk ≡ 0 ∷ n ∷ [] → (no ≡ 0) × (n ≡ filled)
  unfolding ask_of
  priced n h =
      by (eqb no 0)
      (λ e. (eqb-true no 0 e, sym (ap (λ l. get_or l 1 0) (rw e at h))))
      (λ e. let z : 1 ≡ 2 = ap length (rw e at h) in absurd (omega arith))

  pub not_priced : (n : ℕ) → ask_of r p o chunk ≡ n ∷ [] → (no ≡ 0 → ⊥) × (n ≡ no)
  unfolding ask_of
  not_priced n h =
      by (eqb no 0)
      (λ e. let z : 2 ≡ 1 = ap length (rw e at h) in absurd (omega arith))
      (λ e. (eqb-false no 0 e, sym (ap (λ l. get_or l 0 0) (rw e at h))))

  -- ---- a commit
  module _ (queue : List ℕ) where
    pub commit_refused : (n : ℕ) → ask_of r p o chunk ≡ n ∷ [] → commit_of r p o chunk queue ≡ refused r n queue
    unfolding commit_of refusal_of
    commit_refused n h = let g = not_priced n h in rw (ne_eqb no 0 g.0, ne_eqb no 0 g.0, ← g.1)

    module _ (n : ℕ) (h : ask_of r p o chunk ≡ 0 ∷ n ∷ []) where
      pub commit_fewer : length queue < n → commit_of r p o chunk queue ≡ refused r 8 queue
      unfolding commit_of refusal_of
      commit_fewer l =
          let g = priced n h in
          let m : length queue < filled = omega (arith, g.1) in
          rw (eq-eqb no 0 g.0, lt-ltb (length queue) filled m)

      module _ (l : n ≤ length queue) where
        none : commit_refusal r p o chunk (length queue) ≡ 0
        none =
            let g = priced n h in
            with_room r.count (accepted p) (are_chars chunk) (length chunk) filled (length queue) (omega (arith, g.1)) ∙ g.0

        pub commit_fits : commit_of r p o chunk queue ≡ written (scan_next p o r chunk) (scan_chars p o r chunk) queue
        unfolding commit_of
        commit_fits = rw none

        module _ (from : ℕ) (f : from ≡ skipped r chunk) (first : TextInput) (e : first ≡ opened r (length chunk)) where
          pub enough : length (outs p o first (drop from chunk)) ≤ length queue
          enough = rw (f, e) (omega (arith, (priced n h).1))

          pub committed_is : (ran : Ran) (q : List ℕ) →
              (ran ≡ ran_by 0 (run_of p o first (drop from chunk))) × (q ≡ sets queue 0 (outs p o first (drop from chunk)))
              → outcome (record { answer = Ok ran.written; next = ran.next }) q ≡ commit_of r p o chunk queue
          committed_is ran q g = rw (commit_fits, g.0, g.1, zero-add, f, e)
