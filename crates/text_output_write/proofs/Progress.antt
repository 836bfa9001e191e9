-- Steps stored one behind the other. Idea: what the first steps store and where they end is all that the others look at.
--     on_then, off_then, then_off    after a part of the steps that goes on, the rest leads to the end of the whole; one that stops is the whole
--     first_fits           there is room for the first where there is room for the whole
--     same_end             steps that lead to the same end stop at the same place
--     next_sound, next_same, next_room    what the rest asks for
use Prim.Native.Nat.{ℕ, ◌+◌, ◌≤◌}
use mathlib.Core.Path.{◌≡◌, refl, sym, ◌∙◌, ap}
use mathlib.Core.Bool.{true, false}
use mathlib.Core.List.{List, ◌++◌}
use native.Mathlib.Omega.{arith}
use lib.ListN.{length, length-append}
use lib.Seq.{sets, length-sets}
use Rattle.common.proofs.Kit.{never}
use Rattle.common.proofs.Lists.{sets_append}
use Rattle.text_output_write.specs.declared.store.Place.{Place}
use Rattle.text_output_write.specs.declared.store.Stopped.{Stopped}
use Rattle.text_output.specs.Writer.{Machine, sound}
use Rattle.text_output.specs.Step.{Stepped, goes, stops, behind, and_then}
use Rattle.text_output_write.specs.Inner.{Progress, pushed, stored, progress, machine_at}
use Rattle.text_output_write.proofs.Stays.{Stays, pushed_behind}
use Rattle.std.specs.Prelude.{Ok, Err}

-- the place after two lists
after_both : (at : ℕ) (xs ys : List ℕ) → at + length (xs ++ ys) ≡ at + length xs + length ys
after_both at xs ys = omega (arith, length-append xs ys)

stored_behind : (at : ℕ) (out xs : List ℕ) (s : Stepped) → stored (at + length xs) (sets out at xs) s ≡ stored at out (behind xs s)
stored_behind at out xs (goes ys m) = rw (after_both at xs ys, sets_append xs ys out at) refl
stored_behind at out xs (stops ys m n) = rw (after_both at xs ys, sets_append xs ys out at) refl

module _ (at : ℕ) (out : List ℕ) (more : Machine → Stepped) where
  -- what a part of the steps led to, whether it goes on given
  then_on : (s : Stepped) (x : Progress) → x ≡ stored at out s → x.going ≡ true →
      stored x.at x.places (more x.machine) ≡ stored at out (and_then s more)
  then_on (goes xs w) x e g = rw e (stored_behind at out xs (more w))
  then_on (stops xs w n) x e g = never (sym (ap (λ (y : Progress). y.going) e) ∙ g)

  pub then_off : (s : Stepped) (x : Progress) → x ≡ stored at out s → x.going ≡ false → x ≡ stored at out (and_then s more)
  then_off (goes xs w) x e g = never (sym g ∙ ap (λ (y : Progress). y.going) e)
  then_off (stops xs w n) x e g = e

  pub on_then : (s : Stepped) (w : Place) (escape places : List ℕ) → progress (Ok w) escape places ≡ stored at out s →
      stored w.at places (more (machine_at w escape)) ≡ stored at out (and_then s more)
  on_then s w escape places e = then_on s (progress (Ok w) escape places) e refl

  pub off_then : (s : Stepped) (h : Stopped) (escape places : List ℕ) →
      progress (Err h) escape places ≡ stored at out s → progress (Err h) escape places ≡ stored at out (and_then s more)
  off_then s h escape places e = then_off s (progress (Err h) escape places) e refl

-- ---- room
pub first_fits : (s : Stepped) (more : Machine → Stepped) → length (pushed s) ≤ length (pushed (and_then s more))
first_fits (goes xs w) more = rw (pushed_behind xs (more w)) (omega (arith, length-append xs (pushed (more w))))
first_fits (stops xs w n) more = omega arith

-- the room that the whole needs is the room that the rest needs from its place on
pub same_end : (at at' : ℕ) (out out' : List ℕ) (s t : Stepped) → stored at out s ≡ stored at' out' t →
    at + length (pushed s) ≡ at' + length (pushed t)
same_end at at' out out' s t e = ap (λ (x : Progress). x.at) e

-- ---- after a part of the steps that goes on
module _ (w : Place) (escape out : List ℕ) (s : Stepped) (n : ℕ) (stays : Stays n (machine_at w escape) s) (next : Place)
    (escape' out' : List ℕ) (e : progress (Ok next) escape' out' ≡ stored w.at out s) where
  pub next_sound : sound (machine_at next escape') ≡ true
  next_sound = ap (λ (x : Progress). sound x.machine) e ∙ stays.is_sound

  pub next_same : length out' ≡ length out
  next_same = ap (λ (x : Progress). length x.places) e ∙ length-sets out w.at (pushed s)

  pub next_room : (more : Machine → Stepped) → w.at + length (pushed (and_then s more)) ≤ length out →
      next.at + length (pushed (more (machine_at next escape'))) ≤ length out'
  next_room more room =
      let end = same_end next.at w.at out' out (more (machine_at next escape')) (and_then s more) (on_then w.at out more s next escape' out' e) in
      omega (arith, end, room, next_same)
