-- Numbers stored in a queue of bytes, as the functions of a write store them.
--     numbers_sets, tail_sets    the bytes of numbers, stored, are the numbers stored, and the bytes past the last whole four stay
--     moved                     what some steps stored in places of their own, moved behind k numbers, is what they store there
--     turn_few, finish_few      a turn stores at most 67 characters, and the end one
--     with_tail                 a queue is its numbers and the bytes past the last whole four
use Prim.Native.Nat.{ℕ, zero, suc, ◌+◌, ◌*◌, ◌≤◌, ◌<◌}
use mathlib.Core.Path.{◌≡◌, refl, sym, ap, ◌∙◌}
use mathlib.Core.Bool.{true}
use mathlib.Core.List.{List, [], ◌∷◌, ◌++◌}
use native.Mathlib.Nat.{zero-add}
use native.Mathlib.Numerals.{add-one}
use native.Mathlib.Omega.{arith}
use lib.Dec.{leb}
use lib.ListN.{length, take, set}
use lib.Seq.{sets, length-sets}
use borrow.Author.Tests.{leb-true}
use Rattle.common.proofs.Kit.{both_true}
use Rattle.common.proofs.Lists.{drop_sets, take_first}
use Rattle.isolate_unassigned.specs.declared.IsolateUnassigned.{IsolateUnassigned}
use Rattle.isolate_unassigned.specs.Inner.{last_owed}
use Rattle.isolate_unassigned.proofs.Means.{last_owed_size}
use Rattle.text_output.specs.declared.Mode.{Mode}
use Rattle.text_output_write.specs.declared.store.Place.{Place}
use Rattle.text_output.specs.Writer.{Machine, held_in, sound}
use Rattle.text_output.specs.Step.{Stepped, steps_of}
use Rattle.text_output_write.specs.Inner.{Progress, machine_at, pushed, stored, progress, turn_of}
use Rattle.text_output_write.proofs.Stays.{steps_stay, turn_sound}
use Rattle.basic_text.specs.Exports.{number_of, numbers_of, bytes_of}
use Rattle.basic_text.specs.Inner.{tail, at_place, place_in, behind_of}
use Rattle.basic_text.proofs.Laws.{Bytes, four_more, length_numbers, length_bytes, all_is, stores_rest}
use Rattle.basic_text.proofs.Stores.{sets_bytes}
use Rattle.basic_text.proofs.Crossing.{Wide, wide_more, number_back}
use Rattle.text_output_write.specs.declared.store.Stopped.{Stopped}
use Rattle.std.specs.Prelude.{Result, Ok, Err}

-- ---- one number
numbers_set : (q : List ℕ) (k n : ℕ) → n < 4294967296 → 4 * (k + 1) ≤ length q → numbers_of (sets q (4 * k) (bytes_of (n ∷ []))) ≡ set (numbers_of q) k n
numbers_set [] k n w h = absurd (omega arith)
numbers_set (a ∷ []) k n w h = absurd (omega arith)
numbers_set (a ∷ b ∷ []) k n w h = absurd (omega arith)
numbers_set (a ∷ b ∷ c ∷ []) k n w h = absurd (omega arith)
numbers_set (a ∷ b ∷ c ∷ d ∷ rest) zero n w h = rw (number_back n w) refl
numbers_set (a ∷ b ∷ c ∷ d ∷ rest) (suc k) n w h =
    rw (four_more k) (ap (λ (l : List ℕ). number_of a b c d ∷ l) (numbers_set rest k n w (omega arith)))

-- ---- some numbers
pub numbers_sets : (ns q : List ℕ) (k : ℕ) → Wide ns → k + length ns ≤ length (numbers_of q) →
    numbers_of (sets q (4 * k) (bytes_of ns)) ≡ sets (numbers_of q) k ns
numbers_sets [] q k w h = refl
numbers_sets (n ∷ ns) q k w h =
    let one = numbers_set q k n (w 0) (omega (arith, length_numbers q)) in
    let q' = sets q (4 * k) (bytes_of (n ∷ [])) in
    let e : length (numbers_of q') ≡ length (numbers_of q) =
    omega (arith, length_numbers q', length_numbers q, length-sets q (4 * k) (bytes_of (n ∷ []))) in
    rw (sets_bytes (n ∷ []) ns q k) (numbers_sets ns q' (k + 1) (wide_more n ns w) (omega (arith, e)) ∙ rw (one, add-one) refl)

pub tail_sets : (ns q : List ℕ) (k : ℕ) → k + length ns ≤ length (numbers_of q) → tail (sets q (4 * k) (bytes_of ns)) ≡ tail q
tail_sets ns q k h =
    let q' = sets q (4 * k) (bytes_of ns) in
    let e : length (numbers_of q') ≡ length (numbers_of q) =
    omega (arith, length_numbers q', length_numbers q, length-sets q (4 * k) (bytes_of ns)) in
    rw e (drop_sets (4 * length (numbers_of q)) q (4 * k) (bytes_of ns) (omega (arith, length_bytes ns)))

pub with_tail : (q q₀ : List ℕ) → Bytes q → length q ≡ length q₀ → tail q ≡ tail q₀ → q ≡ sets q₀ 0 (bytes_of (numbers_of q))
with_tail q q₀ b l t =
    let e : length (numbers_of q) ≡ length (numbers_of q₀) = omega (arith, length_numbers q, length_numbers q₀) in
    sym (all_is q b) ∙ ap (λ (r : List ℕ). bytes_of (numbers_of q) ++ r) (rw (← e) at t)
    ∙ sym (stores_rest (numbers_of q) q₀ (omega (arith, e, length_numbers q₀)))

-- ---- steps moved
moved_by : (k : ℕ) (x : Result Place Stopped) (escape few places : List ℕ) →
    progress (behind_of k x) escape places
    ≡ (let y = progress x escape few in
    record { going = y.going; at = k + y.at; machine = y.machine; refusal = y.refusal; places = places })
unfolding machine_at at_place
moved_by k (Ok w) escape few places = refl
moved_by k (Err s) escape few places = refl

place_at : (x : Result Place Stopped) (escape few : List ℕ) → (place_in x).at ≡ (progress x escape few).at
place_at (Ok w) escape few = refl
place_at (Err s) escape few = refl

places_of : (x : Result Place Stopped) (escape few : List ℕ) → (progress x escape few).places ≡ few
places_of (Ok w) escape few = refl
places_of (Err s) escape few = refl

module _ (x : Result Place Stopped) (escape few few₀ : List ℕ) (s : Stepped) (e : progress x escape few ≡ stored 0 few₀ s) where
  pub moved_at : (place_in x).at ≡ length (pushed s)
  moved_at = place_at x escape few ∙ ap (λ (y : Progress). y.at) e ∙ zero-add (length (pushed s))

  pub moved_few : length (pushed s) ≤ length few₀ → (place_in x).at ≤ length few
  moved_few h =
      let n = ap length (sym (places_of x escape few) ∙ ap (λ (y : Progress). y.places) e) ∙ length-sets few₀ 0 (pushed s) in
      omega (arith, moved_at, n, h)

  few_holds : length (pushed s) ≤ length few₀ → take (place_in x).at few ≡ pushed s
  few_holds h =
      let p = sym (places_of x escape few) ∙ ap (λ (y : Progress). y.places) e in
      rw (p, moved_at) (take_first (pushed s) few₀ (length (pushed s)) refl h)

  pub moved : length (pushed s) ≤ length few₀ → (k : ℕ) (places₀ places : List ℕ) → places ≡ sets places₀ k (take (place_in x).at few) →
      progress (behind_of k x) escape places ≡ stored k places₀ s
  moved h k places₀ places q =
      moved_by k x escape few places
      ∙ ap (λ (y : Progress). record { going = y.going; at = k + y.at; machine = y.machine; refusal = y.refusal; places = places }) e
      ∙ rw (zero-add, q, few_holds h) refl

-- ---- how many
held_most : (m : Machine) → sound m ≡ true → m.held ≤ 64
held_most m s = leb-true m.held 64 (both_true (leb m.held 64) (held_in m.state m.held) s).0

pub turn_few : (mode : Mode) (p : List ℕ) (m : Machine) (r : IsolateUnassigned) (c : ℕ) → sound m ≡ true →
    length (pushed (turn_of mode p m r c)) ≤ 67
turn_few mode p m r c s = omega (arith, (turn_sound mode p c m r s).size, last_owed_size r, held_most m s)

pub finish_few : (mode : Mode) (m : Machine) (r : IsolateUnassigned) → sound m ≡ true → length (pushed (steps_of mode m [] (last_owed r))) ≤ 67
finish_few mode m r s = omega (arith, (steps_stay mode (last_owed r) m [] s).size, last_owed_size r, held_most m s)
