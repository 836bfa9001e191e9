-- One step, for every mode, held count and character, written out by the state. Idea: 1A, which stands for a refused character, is in none
-- of the sets that a state asks for; the other characters by the tests.
--     color_is            color escapes pass in color mode alone
--     step_outside        a step outside an escape
--     step_after_esc      .. after ESC
--     step_in_sequence    .. after ESC `[`
use Prim.Native.Nat.{ℕ, ◌+◌}
use mathlib.Core.Bool.{cond, ◌&&◌, ◌||◌}
use mathlib.Core.List.{List, [], ◌∷◌, ◌++◌}
use mathlib.Core.Path.{◌≡◌, refl}
use lib.Dec.{eqb, leb, ltb}
use lib.ListN.{take, set}
use borrow.Author.Tests.{eqb-true}
use Rattle.common.proofs.Kit.{by}
use Rattle.text_output.specs.declared.Ground.{Ground}
use Rattle.text_output.specs.declared.Ground.TheVariants.{Other}
use Rattle.text_output.specs.declared.State.TheVariants.{Ground as Grounded, Esc, Csi}
use Rattle.text_output.specs.declared.Mode.{Mode}
use Rattle.text_output.specs.declared.Mode.TheVariants.{Plain, Crlf, Color}
use Rattle.text_output.specs.Writer.{Machine}
use Rattle.text_output.specs.Step.{goes, stops, ground_of, is_color, write_step_of}
use Rattle.text_output.specs.Orders.{lets_color}
use Rattle.text_output.specs.Corners.{said_by}

pub color_is : (mode : Mode) → is_color mode ≡ lets_color mode
color_is Plain = refl
color_is Crlf = refl
color_is Color = refl

module _ (mode : Mode) (m : Machine) (error : List ℕ) (c : ℕ) where
  pub step_outside : (g : Ground) → m.state ≡ Grounded g → write_step_of mode m error c
      ≡ cond (eqb c 0x1A) (stops [] m (4 ∷ error))
      (cond (eqb c 0x1B)
      (cond (lets_color mode) (goes [] (record { state = Esc; held = m.held + 1; escape = set m.escape m.held c }))
      (stops [] m (4 ∷ 4 ∷ [])))
      (goes (c ∷ []) (record { state = Grounded (said_by c); held = 0; escape = m.escape })))
  unfolding write_step_of ground_of
  step_outside g e =
      rw (e, ← (color_is mode))
      (by (eqb c 0x1A) (λ a. rw a)
      (λ a. rw a (by (eqb c 0x1B) (λ b. rw b (by (is_color mode) (λ d. rw d) (λ d. rw d))) (λ b. rw b))))

  -- "In an escape, a refused character gives reason 15."
  pub step_after_esc : m.state ≡ Esc → write_step_of mode m error c
      ≡ cond (eqb c 0x5B) (goes [] (record { state = Csi; held = m.held + 1; escape = set m.escape m.held c }))
      (stops [] m (4 ∷ 15 ∷ []))
  unfolding write_step_of
  step_after_esc e =
      rw e
      (by (eqb c 0x1A) (λ a. rw (eqb-true c 0x1A a)) (λ a. rw a (by (eqb c 0x5B) (λ b. rw b) (λ b. rw b))))

  -- "6 an escape holding 64 characters gets 20..3F or `m`."; `m` ends an escape, and hands all of it out
  pub step_in_sequence : m.state ≡ Csi → write_step_of mode m error c
      ≡ cond ((leb 0x20 c && leb c 0x3F) || eqb c 0x6D)
      (cond (ltb m.held 64)
      (cond (eqb c 0x6D)
      (goes (take m.held m.escape ++ c ∷ []) (record { state = Grounded Other; held = 0; escape = m.escape }))
      (goes [] (record { state = Csi; held = m.held + 1; escape = set m.escape m.held c })))
      (stops [] m (6 ∷ [])))
      (stops [] m (4 ∷ 15 ∷ []))
  unfolding write_step_of
  step_in_sequence e =
      rw e
      (by (eqb c 0x1A) (λ a. rw (eqb-true c 0x1A a))
      (λ a.
      rw a
      (by ((leb 0x20 c && leb c 0x3F) || eqb c 0x6D)
      (λ b.
      rw b
      (by (ltb m.held 64) (λ d. rw d (by (eqb c 0x6D) (λ f. rw f) (λ f. rw f))) (λ d. rw d)))
      (λ b. rw b))))
