-- One run of characters that the check accepts, without ESC, goes through a writer outside an escape, in any mode. Idea: a step looks
-- at the mode at ESC alone and refuses 1A, which the check refuses too; 34F, which isolation puts in, is accepted.
--     writable               accepted by the check, and no ESC
--     writable_of            a clean list with none of the excepted ones is writable
--     run_goes               steps over writable characters hand out exactly these and lead to the ground after them
--     all_isolated           what holds of 34F and of each character of a run holds of each of the run isolated
--     isolated_goes          the steps of one run (in CRLF mode of one part) of writable characters hand out exactly the run isolated
use Prim.Native.Nat.{ℕ}
use mathlib.Core.Path.{◌≡◌, refl}
use mathlib.Core.Bool.{Bool, true, false, not, ◌&&◌, ◌||◌}
use mathlib.Core.List.{List, [], ◌∷◌, map}
use native.Mathlib.Omega.{arith}
use lib.Dec.{eqb}
use borrow.Author.Tests.{eqb-true, not-true, ne_eqb}
use Rattle.common.proofs.Kit.{never, both_true, both}
use Rattle.replace.specs.Table.{in_spans}
use Rattle.check_char.specs.Check.{excepted, reason_of, clean, all}
use Rattle.check_char.proofs.Clean.{accepted_joiner, refused_substitute}
use Rattle.isolate_unassigned.specs.Meaning.{isolated, PutIn, none, kept as same, put}
use Rattle.isolate_unassigned.proofs.Laws.{isolate_puts_in}
use Rattle.text_output.specs.declared.Ground.{Ground}
use Rattle.text_output.specs.declared.State.TheVariants.{Ground as Grounded}
use Rattle.text_output.specs.declared.Mode.{Mode}
use Rattle.text_output.specs.Writer.{Machine, on_ground}
use Rattle.text_output.specs.Step.{goes, ground_of, ground_after, write_step_of, steps_of}
use Rattle.text_output.specs.Write.{checked, first_error, run_of}

-- ---- writable characters
-- accepted by the check, and no ESC
abbrev pub writable : ℕ → Bool
writable c = eqb (reason_of c) 0 && not (eqb c 0x1B)

-- r: accepted; k: one of the excepted ones, `excepted` of check_char; e: no ESC
accepted_of_lem : (r k e : Bool) → (r || k) && e ≡ true → not k ≡ true → r && e ≡ true
accepted_of_lem true k e h g = h
accepted_of_lem false true e h g = never g
accepted_of_lem false false e h g = h

pub writable_of : (units : Bool) (w : List ℕ) → all (clean units) w ≡ true → all (λ x. not (in_spans (excepted units) x)) w ≡ true → all writable w ≡ true
writable_of units [] h g = refl
writable_of units (x ∷ w) h g =
    let a = both_true (clean units x) (all (clean units) w) h in
    let b = both_true (not (in_spans (excepted units) x)) (all (λ y. not (in_spans (excepted units) y)) w) g in
    both (accepted_of_lem (eqb (reason_of x) 0) (in_spans (excepted units) x) (not (eqb x 0x1B)) a.0 b.0) (writable_of units w a.1 b.1)

writable_joiner : writable 0x34F ≡ true
writable_joiner = rw accepted_joiner

-- ---- the steps
module _ (c : ℕ) (h : writable c ≡ true) where
  no_escape : eqb c 0x1B ≡ false
  no_escape = not-true (eqb c 0x1B) (both_true (eqb (reason_of c) 0) (not (eqb c 0x1B)) h).1

  no_substitute : eqb c 0x1A ≡ false
  no_substitute =
      let a : reason_of c ≡ 0 = eqb-true (reason_of c) 0 (both_true (eqb (reason_of c) 0) (not (eqb c 0x1B)) h).0 in
      ne_eqb c 0x1A (λ e. omega (arith, refused_substitute, rw e at a))

  step_goes : (mode : Mode) (m : Machine) (g : Ground) (error : List ℕ) → m.state ≡ Grounded g →
      write_step_of mode m error c ≡ goes (c ∷ []) (on_ground m (ground_of c))
  unfolding write_step_of
  step_goes mode m g error s = rw (no_substitute, s, no_escape)

pub run_goes : (mode : Mode) (cs : List ℕ) (m : Machine) (g : Ground) (error : List ℕ) → m.state ≡ Grounded g → m.held ≡ 0 →
    all writable cs ≡ true → steps_of mode m error cs ≡ goes cs (on_ground m (ground_after g cs))
unfolding steps_of
run_goes mode [] m g error s n h = rw (← s, ← n)
run_goes mode (c ∷ cs) m g error s n h =
    let q = both_true (writable c) (all writable cs) h in
    rw (
      step_goes c q.0 mode m g error s,
      run_goes mode cs (on_ground m (ground_of c)) (ground_of c) error refl refl q.1,
    )

-- ---- a write
all_put_in : (f : ℕ → Bool) → f 0x34F ≡ true → {cs ds : List ℕ} → PutIn cs ds → all f cs ≡ true → all f ds ≡ true
all_put_in f j none h = refl
all_put_in f j (same {c} {cs} r) h = let q = both_true (f c) (all f cs) h in both q.0 (all_put_in f j r q.1)
all_put_in f j (put r) h = both j (all_put_in f j r h)

pub all_isolated : (f : ℕ → Bool) → f 0x34F ≡ true → (p cs : List ℕ) → all f cs ≡ true → all f (isolated p cs) ≡ true
all_isolated f j p cs = all_put_in f j (isolate_puts_in p cs)

-- no 1A takes the place of a character
checked_same : (cs : List ℕ) → all writable cs ≡ true → map checked cs ≡ cs
checked_same [] h = refl
checked_same (c ∷ cs) h =
    let q = both_true (writable c) (all writable cs) h in
    rw ((both_true (eqb (reason_of c) 0) (not (eqb c 0x1B)) q.0).0, checked_same cs q.1)

pub isolated_goes : (mode : Mode) (p cs : List ℕ) (m : Machine) (g : Ground) → m.state ≡ Grounded g → m.held ≡ 0 →
    all writable cs ≡ true → run_of mode p m cs ≡ goes (isolated p cs) (on_ground m (ground_after g (isolated p cs)))
unfolding run_of
isolated_goes mode p cs m g s n h =
    rw (checked_same cs h)
    (run_goes mode (isolated p cs) m g (first_error cs) s n (all_isolated writable writable_joiner p cs h))
