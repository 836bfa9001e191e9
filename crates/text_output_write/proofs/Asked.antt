-- What a step comes to: what is asked for, done; 1A stops; and an escape that takes one more character holds fewer than 64.
--     step_asked       a step is what is asked for, done, for every character but 1A
--     refused_stops    1A stops, for its reason outside an escape and for reason 15 inside
--     takes            a step by which an escape takes one more character
--     takes_few        where the held count is one that the state can have, it is then fewer than 64
use Prim.Native.Nat.{ℕ, ◌<◌}
use mathlib.Core.Bool.{Bool, true, false}
use mathlib.Core.List.{List, [], ◌∷◌}
use mathlib.Core.Path.{◌≡◌, refl}
use native.Mathlib.Omega.{arith}
use lib.Dec.{eqb, leb, ltb}
use borrow.Author.Tests.{eqb-true, ltb-true}
use Rattle.common.proofs.Kit.{never, by, both_true}
use Rattle.text_output.specs.declared.State.{State}
use Rattle.text_output.specs.declared.State.TheVariants.{Ground, Esc, Csi}
use Rattle.text_output.specs.declared.Mode.{Mode}
use Rattle.text_output.specs.declared.Step.{Step}
use Rattle.text_output.specs.declared.Step.TheVariants.{Out, Hold, Whole, NoColor, Unrecognized, Full}
use Rattle.text_output.specs.Writer.{Machine, escape_limit, held_in, sound}
use Rattle.text_output.specs.Step.{stops, in_sequence, csi_asked, asked_in, done_by, refused_in, write_step_of}

module _ (mode : Mode) (m : Machine) (error : List ℕ) where
  pub step_asked : (c : ℕ) → eqb c 0x1A ≡ false → (a : Step) → asked_in m.state mode m.held c ≡ a →
      write_step_of mode m error c ≡ done_by a m c
  unfolding write_step_of
  step_asked c n a e = rw (n, e)

  pub refused_stops : write_step_of mode m error 0x1A ≡ stops [] m (4 ∷ refused_in m.state error)
  unfolding write_step_of
  refused_stops = refl

-- ---- fewer than 64
-- the escape takes one more character: it is held, or ends the escape
abbrev pub takes : Step → Bool
takes (Out g) = false
takes (Hold s) = true
takes Whole = true
takes NoColor = false
takes Unrecognized = false
takes Full = false

csi_few : (held c : ℕ) → takes (csi_asked held c) ≡ true → held < escape_limit
csi_few held c h =
    by (ltb held escape_limit) (λ t. ltb-true held escape_limit t)
    (λ t. by (in_sequence c) (λ b. never (rw (b, t) at h)) (λ b. never (rw b at h)))

few_in : (s : State) (mode : Mode) (held c : ℕ) → held_in s held ≡ true → takes (asked_in s mode held c) ≡ true → held < escape_limit
few_in (Ground g) mode held c h e = let z = eqb-true held 0 h in omega arith
few_in Esc mode held c h e = let z = eqb-true held 1 h in omega arith
few_in Csi mode held c h e = csi_few held c e

pub takes_few : (mode : Mode) (m : Machine) (c : ℕ) → sound m ≡ true → takes (asked_in m.state mode m.held c) ≡ true →
    m.held < escape_limit
takes_few mode m c h e =
    few_in m.state mode m.held c (both_true (leb m.held escape_limit) (held_in m.state m.held) h).1 e
