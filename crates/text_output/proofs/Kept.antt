-- What a writer keeps goes out first with the next success, and stays kept under a refusal. Idea: a write stores behind the kept places
-- alone.
--     kept_first, kept_first_bytes               in a write of characters, of bytes
--     kept_behind, kept_behind_bytes             what its steps add is stored behind the kept characters, and handed out or kept with them
--     flush_keeps, close_keeps, abandon_keeps    these leave how many are kept, refused or not
use Prim.Native.Nat.{ℕ, ◌+◌, ◌≤◌, ◌<◌}
use mathlib.Core.Bool.{false, not, ◌&&◌}
use mathlib.Core.List.{List, [], ◌∷◌}
use mathlib.Core.Path.{◌≡◌, refl}
use native.Mathlib.Omega.{arith}
use lib.Dec.{eqb, ltb}
use lib.ListN.{length, take, get_or}
use lib.Seq.{sets}
use borrow.Author.Tests.{eqb-false}
use Rattle.scalars.specs.Chars.{are_chars}
use Rattle.scalars.specs.Utf8.{chars_of}
use Rattle.common.proofs.Kit.{never, split}
use Rattle.common.proofs.Lists.{take_sets}
use Rattle.text_utils.specs.Classes.{basic_text_start}
use Rattle.text_output.specs.declared.Ground.TheVariants.{Newline, ZwjOrPrepend, Other}
use Rattle.text_output.specs.declared.State.{State}
use Rattle.text_output.specs.declared.State.TheVariants.{Ground, Esc, Csi}
use Rattle.text_output.specs.declared.TextOutput.{TextOutput}
use Rattle.text_output.specs.Writer.{Given, Machine, machine_of, sound}
use Rattle.text_output.specs.Step.{Stepped, goes, stops}
use Rattle.text_output.specs.Write.{run_in, ended_by, written_by, unless_refused, chars_refusal, write_str_refusal, write_str_of, bytes_refusal, write_bytes_refusal, write_of}
use Rattle.text_output.specs.Close.{flush_in, flush_of, close_in, close_of, abandon_of}
use Rattle.text_output.specs.Kept.{by_its_steps, KeptFirst, KeptBehind}
use Rattle.text_output.specs.Orders.{added}
use Rattle.text_output.proofs.Early.{refusal_by_lem, bytes_by}
use Rattle.text_output.proofs.Steps.{refusal_first, Holds, mode_refuses}

-- ---- a write
module _ (w : TextOutput) (places : List ℕ) where
  -- what a refusal has to show
  refused_keeps : (after : List ℕ) (g : Given) → take w.kept after ≡ take w.kept places → 0 < get_or g.numbers 0 0 →
      w.kept ≤ g.next.kept → KeptFirst w places (record { given = g; places = after })
  refused_keeps after g same first more =
      record {
        places_stay = same;
        first_out = λ k e. let z : ⊥ = omega (arith, rw e at first) in absurd z;
        none_left = λ k e. let z : ⊥ = omega (arith, rw e at first) in absurd z;
        stay_kept = λ n values h e. more;
      }

  -- what a success has to show
  handed_keeps : (after : List ℕ) (k : ℕ) (next : TextOutput) → take w.kept after ≡ take w.kept places → w.kept ≤ k →
      next.kept ≡ 0 → KeptFirst w places (record { given = record { numbers = 0 ∷ k ∷ []; abandon = false; next = next }; places = after })
  handed_keeps after k next same more none =
      record {
        places_stay = same;
        first_out = λ n e. let q : k ≡ n = cc in omega (arith, q);
        none_left = λ n e. none;
        stay_kept = λ n values h e. let z : n ≡ 0 = cc in omega (arith, z);
      }

  -- 5, or a success
  ended_behind : (p : List ℕ) (s : Stepped) → Holds (λ (m : Machine). Unit {0}) s → KeptBehind w places (added s) (ended_by p w s places)
  ended_behind p (goes xs m) h =
      let k = w.kept + length xs in
      let after = sets places w.kept xs in
      split (λ (g : Given). KeptBehind w places xs (record { given = g; places = after }))
      (w.expect_starter && (ltb 0 k && not (basic_text_start p (get_or after 0 0))))
      (λ e. record { handed = λ z. absurd (omega arith); kept_behind = λ z. refl; stored = λ z. refl })
      (λ e. record { handed = λ z. refl; kept_behind = λ z. never z; stored = λ z. refl })
  ended_behind p (stops xs m n) (h, r) =
      record { handed = λ z. absurd (omega (arith, refusal_first r, z)); kept_behind = λ z. refl; stored = λ z. refl }

  -- how a write ends, by its steps
  ended_keeps : (p : List ℕ) (s : Stepped) → Holds (λ (m : Machine). Unit {0}) s → KeptFirst w places (ended_by p w s places)
  ended_keeps p (goes xs m) h =
      let k = w.kept + length xs in
      let after = sets places w.kept xs in
      let same = take_sets w.kept xs places w.kept (omega arith) in
      split (λ (g : Given). KeptFirst w places (record { given = g; places = after }))
      (w.expect_starter && (ltb 0 k && not (basic_text_start p (get_or after 0 0))))
      (λ e. refused_keeps after _ same (omega arith) (omega arith))
      (λ e. handed_keeps after k _ same (omega arith) refl)
  ended_keeps p (stops xs m n) h =
      refused_keeps (sets places w.kept xs) _ (take_sets w.kept xs places w.kept (omega arith)) (refusal_first h.1) (omega arith)

  -- refused before its steps, or not
  unless_keeps : (n : ℕ) (p chars : List ℕ) → KeptFirst w places (unless_refused n w places (written_by w p chars places))
  unfolding written_by
  unless_keeps n p chars =
      split (KeptFirst w places) (eqb n 0)
      (λ e. ended_keeps p (run_in w.mode p (machine_of w) chars) (mode_refuses p w.mode (machine_of w) chars))
      (λ e.
      split (λ (g : Given). KeptFirst w places (record { given = g; places = places })) (eqb n 3)
      (λ t. refused_keeps places _ refl (omega arith) (omega arith))
      (λ t. refused_keeps places _ refl (omega (arith, eqb-false n 0 e)) (omega arith)))

  pub kept_first : (p chars : List ℕ) → KeptFirst w places (write_str_of w p chars places)
  unfolding write_str_of
  kept_first p chars = unless_keeps (write_str_refusal w p chars (length places)) p chars

  pub kept_first_bytes : (p bytes : List ℕ) → KeptFirst w places (write_of w p bytes places).outcome
  unfolding write_of
  kept_first_bytes p bytes = unless_keeps (write_bytes_refusal w p bytes (length places)) p (chars_of bytes)

-- ---- how many a write hands out, or keeps
-- a number by which a write is refused before its steps is none of theirs
abbrev IsEarly : ℕ → Type 0
IsEarly n = (eqb n 0 ≡ false) → by_its_steps (n ∷ []) ≡ false

module _ (w : TextOutput) (places : List ℕ) where
  -- refused before its steps, or not
  unless_behind : (n : ℕ) (p chars : List ℕ) → IsEarly n →
      KeptBehind w places (added (run_in w.mode p (machine_of w) chars)) (unless_refused n w places (written_by w p chars places))
  unfolding written_by
  unless_behind n p chars h =
      let xs = added (run_in w.mode p (machine_of w) chars) in
      split (KeptBehind w places xs) (eqb n 0)
      (λ e. ended_behind w places p (run_in w.mode p (machine_of w) chars) (mode_refuses p w.mode (machine_of w) chars))
      (λ e.
      split (λ (g : Given). KeptBehind w places xs (record { given = g; places = places })) (eqb n 3)
      (λ t. record { handed = λ z. absurd (omega arith); kept_behind = λ z. never z; stored = λ z. never z })
      (λ t.
      record {
        handed = λ z. absurd (eqb-false n 0 e z);
        kept_behind = λ z. never (rw (h e) at z);
        stored = λ z. never (rw (e, h e) at z);
      }))

  pub kept_behind : (p chars : List ℕ) → KeptBehind w places (added (run_in w.mode p (machine_of w) chars)) (write_str_of w p chars places)
  unfolding write_str_of
  kept_behind p chars =
      unless_behind (write_str_refusal w p chars (length places)) p chars
      (refusal_by_lem IsEarly (λ z. refl) (λ z. refl) (λ z. refl) (λ z. refl) w p (chars_refusal chars) (length chars) (length places)
      (split IsEarly (are_chars chars) (λ e z. refl) (λ e z. refl)))

  pub kept_behind_bytes : (p bytes : List ℕ) →
      KeptBehind w places (added (run_in w.mode p (machine_of w) (chars_of bytes))) (write_of w p bytes places).outcome
  unfolding write_of
  kept_behind_bytes p bytes =
      let cs = chars_of bytes in
      unless_behind (write_bytes_refusal w p bytes (length places)) p cs
      (refusal_by_lem IsEarly (λ z. refl) (λ z. refl) (λ z. refl) (λ z. refl) w p (bytes_refusal (length bytes) (length cs)) (length cs) (length places)
      (bytes_by IsEarly (λ z. refl) (λ z. refl) (length bytes) (length cs)))

-- ---- a flush, a close, abandon
module _ (w : TextOutput) where
  -- "Refused by 3, 11, 12 or 13, the kept characters stay.", and by 9; success leaves them too
  flush_in_lem : (s : State) → (flush_in s w).next.kept ≡ w.kept
  flush_in_lem (Ground Newline) = refl
  flush_in_lem (Ground ZwjOrPrepend) = refl
  flush_in_lem (Ground Other) = refl
  flush_in_lem Esc = refl
  flush_in_lem Csi = refl

  pub flush_keeps : (flush_of w).next.kept ≡ w.kept
  unfolding flush_of
  flush_keeps = split (λ (g : Given). g.next.kept ≡ w.kept) (sound (machine_of w)) (λ e. flush_in_lem w.state) (λ e. refl)

  close_in_lem : (s : State) → (close_in s w).next.kept ≡ w.kept
  close_in_lem (Ground Newline) = refl
  close_in_lem (Ground ZwjOrPrepend) = refl
  close_in_lem (Ground Other) = refl
  close_in_lem Esc = refl
  close_in_lem Csi = refl

  pub close_keeps : (close_of w).next.kept ≡ w.kept
  unfolding close_of
  close_keeps = split (λ (g : Given). g.next.kept ≡ w.kept) (sound (machine_of w)) (λ e. close_in_lem w.state) (λ e. refl)

  -- "abandon refuses nothing, leaves kept and expectation"
  pub abandon_keeps : (abandon_of w).kept ≡ w.kept
  unfolding abandon_of
  abandon_keeps = refl
