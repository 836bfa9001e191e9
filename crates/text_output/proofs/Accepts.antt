-- A write that succeeds is of characters that the check accepts, all of them. Idea: 1A, which stands for a refused one, stops the steps,
-- and isolation loses no character.
--     write_accepts, write_bytes_accepts    a write of characters, of bytes
use Prim.Native.Nat.{ℕ}
use mathlib.Core.Bool.{Bool, true, false, not, ◌&&◌}
use mathlib.Core.List.{List, [], ◌∷◌, map}
use mathlib.Core.Path.{◌≡◌, refl}
use native.Mathlib.Omega.{arith}
use lib.Dec.{eqb}
use lib.ListN.{length}
use borrow.Author.Tests.{eqb-true, eqb-false}
use Rattle.common.proofs.Kit.{never, by, split, both_true, both}
use Rattle.scalars.specs.Utf8.{chars_of}
use Rattle.replace.specs.Replace.{replace_of}
use Rattle.check_char.specs.Check.{reason_of, all}
use Rattle.isolate_unassigned.specs.Meaning.{isolated, PutIn, none, kept as same, put}
use Rattle.isolate_unassigned.proofs.Laws.{isolate_puts_in}
use Rattle.text_output.specs.declared.Mode.{Mode}
use Rattle.text_output.specs.declared.Mode.TheVariants.{Plain, Crlf, Color}
use Rattle.text_output.specs.declared.TextOutput.{TextOutput}
use Rattle.text_output.specs.Writer.{Outcome, Given, Machine, machine_of}
use Rattle.text_output.specs.Step.{Stepped, goes, stops, behind, and_then, write_step_of, steps_of}
use Rattle.text_output.specs.Write.{checked, run_of, into_first, parts, put_crlf, more_parts, parts_of, run_in, ended_by, written_by, unless_refused, write_str_refusal, write_str_of, write_bytes_refusal, write_of}
use Rattle.text_output.specs.Refusals.{refusal_in}
use Rattle.text_output.proofs.Steps.{refusal_first, Holds, mode_refuses}

-- accepted by the check
abbrev ok : ℕ → Bool
ok c = eqb (reason_of c) 0

-- each part's characters are
abbrev ok_parts : List (List ℕ) → Bool
ok_parts [] = true
ok_parts (part ∷ rest) = all ok part && ok_parts rest

-- ---- the steps
-- they all go on
abbrev went : Stepped → Bool
went (goes xs m) = true
went (stops xs m n) = false

behind_went : (xs : List ℕ) (s : Stepped) → went (behind xs s) ≡ went s
behind_went xs (goes ys m) = refl
behind_went xs (stops ys m n) = refl

-- steps, and then others: what each of the two shows
then_went : (a b : Bool) (s : Stepped) (more : Machine → Stepped) → (went s ≡ true → a ≡ true) →
    ((m : Machine) → went (more m) ≡ true → b ≡ true) → went (and_then s more) ≡ true → a && b ≡ true
then_went a b (goes xs m) more f g h = both (f refl) (g m (rw (behind_went xs (more m)) at h))
then_went a b (stops xs m n) more f g h = never h

-- no step goes on at 1A
abbrev no_substitute : ℕ → Bool
no_substitute c = not (eqb c 0x1A)

step_went : (mode : Mode) (m : Machine) (error : List ℕ) (c : ℕ) → went (write_step_of mode m error c) ≡ true → no_substitute c ≡ true
unfolding write_step_of
step_went mode m error c = by (eqb c 0x1A) (λ e. rw e (λ h. never h)) (λ e h. rw e)

steps_went : (mode : Mode) (cs : List ℕ) (m : Machine) (error : List ℕ) → went (steps_of mode m error cs) ≡ true →
    all no_substitute cs ≡ true
unfolding steps_of
steps_went mode [] m error h = refl
steps_went mode (c ∷ cs) m error h =
    then_went (no_substitute c) (all no_substitute cs) (write_step_of mode m error c) (λ next. steps_of mode next error cs)
    (step_went mode m error c) (λ next. steps_went mode cs next error) h

-- ---- one run
-- what holds of each character with 34F put in holds of each without
all_put_out : (f : ℕ → Bool) {cs ds : List ℕ} → PutIn cs ds → all f ds ≡ true → all f cs ≡ true
all_put_out f none h = refl
all_put_out f (same {c} {cs} {ds} r) h = let q = both_true (f c) (all f ds) h in both q.0 (all_put_out f r q.1)
all_put_out f (put {cs} {ds} r) h = all_put_out f r (both_true (f 0x34F) (all f ds) h).1

-- a character that is refused has become 1A
checked_back : (cs : List ℕ) → all no_substitute (map checked cs) ≡ true → all ok cs ≡ true
checked_back [] h = refl
checked_back (c ∷ cs) h =
    let q = both_true (no_substitute (checked c)) (all no_substitute (map checked cs)) h in
    both (by (ok c) (λ e. e) (λ e. never (rw e at q.0))) (checked_back cs q.1)

module _ (mode : Mode) (p : List ℕ) where
  run_went : (m : Machine) (cs : List ℕ) → went (run_of mode p m cs) ≡ true → all ok cs ≡ true
  unfolding run_of
  run_went m cs h =
      checked_back cs (all_put_out no_substitute (isolate_puts_in p (map checked cs)) (steps_went mode (isolated p (map checked cs)) m _ h))

  -- ---- parts, in CRLF mode
  more_went : (rest : List (List ℕ)) (m : Machine) → went (more_parts mode p m rest) ≡ true → ok_parts rest ≡ true
  unfolding more_parts
  more_went [] m h = refl
  more_went (part ∷ rest) m h =
      then_went true (all ok part && ok_parts rest) (put_crlf m) (λ next. and_then (run_of mode p next part) (λ after. more_parts mode p after rest))
      (λ e. refl)
      (λ next.
      then_went (all ok part) (ok_parts rest) (run_of mode p next part) (λ after. more_parts mode p after rest) (run_went next part)
      (λ after. more_went rest after))
      h

  parts_went : (ps : List (List ℕ)) (m : Machine) → went (parts_of mode p m ps) ≡ true → ok_parts ps ≡ true
  parts_went [] m h = refl
  parts_went (part ∷ rest) m h =
      then_went (all ok part) (ok_parts rest) (run_of mode p m part) (λ after. more_parts mode p after rest) (run_went m part)
      (λ after. more_went rest after) h

-- 0A, which stands in no part, is accepted
ok_newline : ok 0x0A ≡ true
unfolding reason_of replace_of
ok_newline = refl

into_first_lem : (c : ℕ) (ps : List (List ℕ)) → ok_parts (into_first c ps) ≡ true → (ok c ≡ true) × (ok_parts ps ≡ true)
into_first_lem c [] h = ((both_true (ok c) true (both_true (ok c && true) true h).0).0, refl)
into_first_lem c (part ∷ rest) h =
    let q = both_true (ok c && all ok part) (ok_parts rest) h in
    let r = both_true (ok c) (all ok part) q.0 in (r.0, both r.1 q.1)

-- what holds of each part's characters, and of 0A, holds of each of all
parts_back : (cs : List ℕ) → ok_parts (parts cs) ≡ true → all ok cs ≡ true
unfolding parts
parts_back [] h = refl
parts_back (c ∷ cs) h =
    by (eqb c 0x0A) (λ e. let q : ok c ≡ true = rw (eqb-true c 0x0A e) ok_newline in both q (parts_back cs (rw e at h)))
    (λ e. let q = into_first_lem c (parts cs) (rw e at h) in both q.0 (parts_back cs q.1))

mode_went : (p : List ℕ) (mode : Mode) (m : Machine) (cs : List ℕ) → went (run_in mode p m cs) ≡ true → all ok cs ≡ true
mode_went p Plain m cs h = run_went Plain p m cs h
mode_went p Crlf m cs h = parts_back cs (parts_went Crlf p (parts cs) m h)
mode_went p Color m cs h = run_went Color p m cs h

-- ---- a write
module _ (w : TextOutput) (p : List ℕ) where
  ended_went : (places : List ℕ) (s : Stepped) → Holds (λ (m : Machine). Unit {0}) s → refusal_in (ended_by p w s places).given ≡ 0 →
      went s ≡ true
  ended_went places (goes xs m) h z = refl
  ended_went places (stops xs m n) (h, r) z = absurd (omega (arith, refusal_first r, z))

  unless_went : (n : ℕ) (cs places : List ℕ) → refusal_in (unless_refused n w places (written_by w p cs places)).given ≡ 0 → all ok cs ≡ true
  unfolding written_by
  unless_went n cs places =
      split (λ (o : Outcome). refusal_in o.given ≡ 0 → all ok cs ≡ true) (eqb n 0)
      (λ e z.
      mode_went p w.mode (machine_of w) cs
      (ended_went places (run_in w.mode p (machine_of w) cs) (mode_refuses p w.mode (machine_of w) cs) z))
      (λ e.
      split (λ (g : Given). refusal_in g ≡ 0 → all ok cs ≡ true) (eqb n 3) (λ t z. absurd (omega arith)) (λ t z. absurd (eqb-false n 0 e z)))

  -- "Each character is checked": 4 refuses a write with "a character refused by `check_basic_text_char`"
  pub write_accepts : (chars places : List ℕ) → refusal_in (write_str_of w p chars places).given ≡ 0 →
      all (λ (c : ℕ). eqb (reason_of c) 0) chars ≡ true
  unfolding write_str_of
  write_accepts chars places = unless_went (write_str_refusal w p chars (length places)) chars places

  pub write_bytes_accepts : (bytes places : List ℕ) → refusal_in (write_of w p bytes places).outcome.given ≡ 0 →
      all (λ (c : ℕ). eqb (reason_of c) 0) (chars_of bytes) ≡ true
  unfolding write_of
  write_bytes_accepts bytes places = unless_went (write_bytes_refusal w p bytes (length places)) (chars_of bytes) places
