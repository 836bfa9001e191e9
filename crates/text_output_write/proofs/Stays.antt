-- What steps leave as it was, and how much they add. Idea: a step hands out or holds at most one character more than it got, or hands
-- out the held ones and one.
--     Stays         the held count stays one that the state can have, and at most so many characters more are handed out and held
--     stays_then    steps behind steps
--     steps_stay    of a run, its length
--     rest_stays    of what is left of a write, three for each character, and the 34F that is owed
use Prim.Native.Nat.{ℕ, ◌+◌, ◌*◌, ◌≤◌}
use mathlib.Core.Path.{◌≡◌, refl}
use mathlib.Core.Bool.{true, false, ◌&&◌}
use mathlib.Core.List.{List, [], ◌∷◌, ◌++◌}
use native.Mathlib.Omega.{arith}
use lib.Dec.{eqb}
use lib.ListN.{length, take, length-append, length-take}
use borrow.Author.Tests.{eqb-true}
use Rattle.common.proofs.Kit.{by}
use Rattle.check_char.specs.Check.{check_numbers}
use Rattle.isolate_unassigned.specs.declared.IsolateUnassigned.{IsolateUnassigned}
use Rattle.isolate_unassigned.specs.Inner.{fresh, isolate_step_of, gives_out, after, last_owed}
use Rattle.isolate_unassigned.proofs.Means.{gives_out_size, last_owed_size}
use Rattle.text_output.specs.declared.Mode.{Mode}
use Rattle.text_output.specs.declared.Step.{Step}
use Rattle.text_output.specs.declared.Step.TheVariants.{Out, Hold, Whole, NoColor, Unrecognized, Full}
use Rattle.text_output.specs.Writer.{Machine, sound}
use Rattle.text_output.specs.Step.{Stepped, goes, stops, behind, and_then, asked_in, done_by, write_step_of, steps_of}
use Rattle.text_output.specs.Write.{checked, put_crlf}
use Rattle.text_output.proofs.Steps.{Holds}
use Rattle.text_output.proofs.Sound.{step_sound}
use Rattle.text_output_write.specs.Inner.{pushed, machine_after, is_crlf, turn_of, isolator_after}
use Rattle.text_output_write.proofs.Asked.{step_asked, refused_stops}
use Rattle.text_output_write.proofs.Rest.{rest_of}

pub record Stays (n : ℕ) (m : Machine) (s : Stepped) : Type 0 where
  pub is_sound : sound (machine_after s) ≡ true
  pub size : length (pushed s) + (machine_after s).held ≤ m.held + n

-- ---- steps behind steps
pub pushed_behind : (xs : List ℕ) (s : Stepped) → pushed (behind xs s) ≡ xs ++ pushed s
pushed_behind xs (goes ys m) = refl
pushed_behind xs (stops ys m n) = refl

after_behind : (xs : List ℕ) (s : Stepped) → machine_after (behind xs s) ≡ machine_after s
after_behind xs (goes ys m) = refl
after_behind xs (stops ys m n) = refl

pub stays_more : (n k : ℕ) (m : Machine) (s : Stepped) → n ≤ k → Stays n m s → Stays k m s
stays_more n k m s h t = record { is_sound = t.is_sound; size = omega (arith, t.size) }

pub stays_then : (n k : ℕ) (m : Machine) (s : Stepped) (more : Machine → Stepped) → Stays n m s →
    ((v : Machine) → sound v ≡ true → Stays k v (more v)) → Stays (n + k) m (and_then s more)
stays_then n k m (goes xs v) more t f =
    let u = f v t.is_sound in
    record {
      is_sound = rw (after_behind xs (more v)) u.is_sound;
      size = rw (after_behind xs (more v), pushed_behind xs (more v)) (omega (arith, u.size, t.size, length-append xs (pushed (more v))));
    }
stays_then n k m (stops xs v e) more t f = stays_more n (n + k) m (stops xs v e) (omega arith) t

-- ---- one step
holds_after : (s : Stepped) → Holds (λ (m : Machine). sound m ≡ true) s → sound (machine_after s) ≡ true
holds_after (goes xs m) h = h
holds_after (stops xs m n) h = h.0

done_size : (a : Step) (m : Machine) (c : ℕ) → length (pushed (done_by a m c)) + (machine_after (done_by a m c)).held ≤ m.held + 1
done_size (Out g) m c = omega arith
done_size (Hold t) m c = omega arith
done_size Whole m c =
    let e = m.escape in omega (arith, length-append (take m.held e) (c ∷ []), length-take m.held e)
done_size NoColor m c = omega arith
done_size Unrecognized m c = omega arith
done_size Full m c = omega arith

module _ (mode : Mode) where
  step_size : (m : Machine) (error : List ℕ) (c : ℕ) →
      length (pushed (write_step_of mode m error c)) + (machine_after (write_step_of mode m error c)).held ≤ m.held + 1
  step_size m error c =
      by (eqb c 0x1A)
      (λ e. rw (eqb-true c 0x1A e, refused_stops mode m error) (omega arith))
      (λ e. rw (step_asked mode m error c e _ refl) (done_size (asked_in m.state mode m.held c) m c))

  pub step_stays : (m : Machine) (error : List ℕ) (c : ℕ) → sound m ≡ true → Stays 1 m (write_step_of mode m error c)
  step_stays m error c s =
      record {
        is_sound = holds_after (write_step_of mode m error c) (step_sound mode m error c s);
        size = step_size m error c;
      }

  -- ---- a run
  pub steps_stay : (cs : List ℕ) (m : Machine) (error : List ℕ) → sound m ≡ true → Stays (length cs) m (steps_of mode m error cs)
  unfolding steps_of
  steps_stay [] m error s = record { is_sound = s; size = omega arith }
  steps_stay (c ∷ cs) m error s =
      stays_more (1 + length cs) (length (c ∷ cs)) m _ (omega arith)
      (stays_then 1 (length cs) m (write_step_of mode m error c) _ (step_stays m error c s) (λ v t. steps_stay cs v error t))

-- ---- a write
pub crlf_stays : (m : Machine) → Stays 2 m (put_crlf m)
crlf_stays m = record { is_sound = refl; size = omega arith }

module _ (mode : Mode) (p : List ℕ) (c : ℕ) where
  -- where 0A ends a part, and where not
  turn_stays_end : (m : Machine) (r : IsolateUnassigned) → sound m ≡ true → is_crlf mode && eqb c 0x0A ≡ true →
      Stays (length (last_owed r) + 2) m (turn_of mode p m r c)
  unfolding turn_of
  turn_stays_end m r s e =
      rw e (stays_then (length (last_owed r)) 2 m _ put_crlf (steps_stay mode (last_owed r) m [] s) (λ v t. crlf_stays v))

  turn_stays_on : (m : Machine) (r : IsolateUnassigned) → sound m ≡ true → is_crlf mode && eqb c 0x0A ≡ false →
      Stays 2 m (turn_of mode p m r c)
  unfolding turn_of
  turn_stays_on m r s e =
      let g = gives_out (isolate_step_of p r (checked c)) in
      rw e (stays_more (length g) 2 m _ (gives_out_size (isolate_step_of p r (checked c))) (steps_stay mode g m (check_numbers c) s))

  pub turn_sound : (m : Machine) (r : IsolateUnassigned) → sound m ≡ true → Stays (length (last_owed r) + 2) m (turn_of mode p m r c)
  turn_sound m r s =
      by (is_crlf mode && eqb c 0x0A) (turn_stays_end m r s) (λ e. stays_more 2 _ m _ (omega arith) (turn_stays_on m r s e))

pub rest_stays : (mode : Mode) (p cs : List ℕ) (m : Machine) (r : IsolateUnassigned) → sound m ≡ true →
    Stays (3 * length cs + length (last_owed r)) m (rest_of mode p m r cs)
unfolding rest_of isolator_after
rest_stays mode p [] m r s = stays_more (length (last_owed r)) _ m _ (omega arith) (steps_stay mode (last_owed r) m [] s)
rest_stays mode p (c ∷ cs) m r s =
    by (is_crlf mode && eqb c 0x0A)
    (λ e.
    let rest = 3 * length cs + length (last_owed fresh) in
    rw e
    (stays_more (length (last_owed r) + 2 + rest) _ m _ (omega arith)
    (stays_then (length (last_owed r) + 2) rest m _ _ (turn_stays_end mode p c m r s e) (λ v t. rest_stays mode p cs v fresh t))))
    (λ e.
    let next = after (isolate_step_of p r (checked c)) in
    let rest = 3 * length cs + length (last_owed next) in
    rw e
    (stays_more (2 + rest) _ m _ (omega (arith, last_owed_size next))
    (stays_then 2 rest m _ _ (turn_stays_on mode p c m r s e) (λ v t. rest_stays mode p cs v next t))))
