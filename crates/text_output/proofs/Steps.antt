-- What every step leaves true, the steps of a write leave true, and a refused one is refused by 4 or 6. Idea: a step leads outside an
-- escape, or holds one character more, or changes nothing.
--     StepRefusal      the numbers of a refused step
--     refusal_first    its number is not 0
--     Grows            the states in which one character more is held
--     Holds            what some steps leave true
--     step_holds       one step leaves it true
--     mode_holds       .. the steps of a write, in any mode
--     mode_refuses     a refused one of them is refused by 4 or 6
use Prim.Native.Nat.{ℕ, ◌<◌}
use mathlib.Core.Bool.{true}
use mathlib.Core.List.{List, [], ◌∷◌}
use mathlib.Core.Path.{◌≡◌, refl}
use native.Mathlib.Omega.{arith}
use lib.Dec.{eqb, ltb}
use lib.ListN.{get_or}
use borrow.Author.Tests.{ltb-true}
use Rattle.common.proofs.Kit.{split}
use Rattle.text_output.specs.declared.Ground.{Ground}
use Rattle.text_output.specs.declared.State.{State}
use Rattle.text_output.specs.declared.State.TheVariants.{Ground as Grounded, Esc, Csi}
use Rattle.text_output.specs.declared.Mode.{Mode}
use Rattle.text_output.specs.declared.Mode.TheVariants.{Plain, Crlf, Color}
use Rattle.text_output.specs.declared.Step.{Step}
use Rattle.text_output.specs.Writer.{Machine, escape_limit, on_ground}
use Rattle.text_output.specs.Step.{Stepped, goes, stops, behind, and_then, holding, is_color, in_sequence, asked_in, done_by, write_step_of, steps_of}
use Rattle.text_output.specs.Write.{run_of, parts, put_crlf, more_parts, parts_of, run_in}

-- by 4 with the reason's number and values, or by 6
pub data StepRefusal : List ℕ → Type 0 where
  four : {reason : List ℕ} → StepRefusal (4 ∷ reason)
  six : StepRefusal (6 ∷ [])

pub refusal_first : {n : List ℕ} → StepRefusal n → 0 < get_or n 0 0
refusal_first four = omega arith
refusal_first six = omega arith

-- in a mode, from a state and a held count, the state in which one character more is held
pub data Grows (mode : Mode) : State → ℕ → State → Type 0 where
  opened : {g : Ground} {held : ℕ} → is_color mode ≡ true → Grows mode (Grounded g) held Esc
  begun : {held : ℕ} → Grows mode Esc held Csi
  longer : {held : ℕ} → held < escape_limit → Grows mode Csi held Csi

-- a fact of what some steps leave, and where one is refused, its numbers
abbrev pub Holds : (Machine → Type 0) → Stepped → Type 0
Holds I (goes xs m) = I m
Holds I (stops xs m n) = I m × StepRefusal n

module _ (I : Machine → Type 0) (mode : Mode) (ground : (m : Machine) (g : Ground) → I m → I (on_ground m g))
    (hold : (m : Machine) (s t : State) (c : ℕ) → m.state ≡ s → Grows mode s m.held t → I m → I (holding m t c)) where
  -- ---- one step
  -- what is asked for, done
  asked_holds : (m : Machine) (s : State) (c : ℕ) → m.state ≡ s → I m → Holds I (done_by (asked_in s mode m.held c) m c)
  asked_holds m (Grounded g) c e h =
      split (λ (a : Step). Holds I (done_by a m c)) (eqb c 0x1B)
      (λ q. split (λ (a : Step). Holds I (done_by a m c)) (is_color mode) (λ k. hold m (Grounded g) Esc c e (opened k) h) (λ k. (h, four)))
      (λ q. ground m _ h)
  asked_holds m Esc c e h =
      split (λ (a : Step). Holds I (done_by a m c)) (eqb c 0x5B) (λ q. hold m Esc Csi c e begun h) (λ q. (h, four))
  asked_holds m Csi c e h =
      split (λ (a : Step). Holds I (done_by a m c)) (in_sequence c)
      (λ q.
      split (λ (a : Step). Holds I (done_by a m c)) (ltb m.held escape_limit)
      (λ k.
      split (λ (a : Step). Holds I (done_by a m c)) (eqb c 0x6D) (λ l. ground m _ h)
      (λ l. hold m Csi Csi c e (longer (ltb-true m.held escape_limit k)) h))
      (λ k. (h, six)))
      (λ q. (h, four))

  -- any character in any state
  pub step_holds : (m : Machine) (error : List ℕ) (c : ℕ) → I m → Holds I (write_step_of mode m error c)
  unfolding write_step_of
  step_holds m error c h = split (Holds I) (eqb c 0x1A) (λ q. (h, four)) (λ q. asked_holds m m.state c refl h)

  -- ---- steps one after the other
  -- what was added before does not matter
  behind_holds : (xs : List ℕ) (s : Stepped) → Holds I s → Holds I (behind xs s)
  behind_holds xs (goes ys m) h = h
  behind_holds xs (stops ys m n) h = h

  -- steps, and then others
  then_holds : (s : Stepped) (more : Machine → Stepped) → Holds I s → ((m : Machine) → I m → Holds I (more m)) → Holds I (and_then s more)
  then_holds (goes xs m) more h f = behind_holds xs (more m) (f m h)
  then_holds (stops xs m n) more h f = h

  -- the steps over some characters
  steps_hold : (cs : List ℕ) (m : Machine) (error : List ℕ) → I m → Holds I (steps_of mode m error cs)
  unfolding steps_of
  steps_hold [] m error h = h
  steps_hold (c ∷ cs) m error h =
      then_holds (write_step_of mode m error c) (λ next. steps_of mode next error cs) (step_holds m error c h)
      (λ next g. steps_hold cs next error g)

  module _ (p : List ℕ) where
    -- .. over one run
    run_holds : (m : Machine) (chars : List ℕ) → I m → Holds I (run_of mode p m chars)
    unfolding run_of
    run_holds m chars h = steps_hold _ m _ h

    -- .. over the parts that follow one
    more_hold : (rest : List (List ℕ)) (m : Machine) → I m → Holds I (more_parts mode p m rest)
    unfolding more_parts
    more_hold [] m h = h
    more_hold (part ∷ rest) m h =
        then_holds (put_crlf m) (λ next. and_then (run_of mode p next part) (λ after. more_parts mode p after rest)) (ground m _ h)
        (λ next g.
        then_holds (run_of mode p next part) (λ after. more_parts mode p after rest) (run_holds next part g) (λ after e. more_hold rest after e))

    -- .. over all parts
    parts_hold : (ps : List (List ℕ)) (m : Machine) → I m → Holds I (parts_of mode p m ps)
    parts_hold [] m h = h
    parts_hold (part ∷ rest) m h =
        then_holds (run_of mode p m part) (λ after. more_parts mode p after rest) (run_holds m part h) (λ after e. more_hold rest after e)

-- .. in any mode
pub mode_holds : (I : Machine → Type 0) (mode : Mode) (ground : (m : Machine) (g : Ground) → I m → I (on_ground m g))
    (hold : (m : Machine) (s t : State) (c : ℕ) → m.state ≡ s → Grows mode s m.held t → I m → I (holding m t c)) (p : List ℕ)
    (m : Machine) (chars : List ℕ) → I m → Holds I (run_in mode p m chars)
mode_holds I Plain ground hold p m chars h = run_holds I Plain ground hold p m chars h
mode_holds I Crlf ground hold p m chars h = parts_hold I Crlf ground hold p (parts chars) m h
mode_holds I Color ground hold p m chars h = run_holds I Color ground hold p m chars h

-- a refused step is refused by 4 or 6
pub mode_refuses : (p : List ℕ) (mode : Mode) (m : Machine) (chars : List ℕ) → Holds (λ (n : Machine). Unit {0}) (run_in mode p m chars)
mode_refuses p mode m chars = mode_holds (λ (n : Machine). Unit {0}) mode (λ n g h. tt) (λ n s t c e g h. tt) p m chars tt
