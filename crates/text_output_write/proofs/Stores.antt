-- What `push` stores, by what its step asks for: the definition's step is what is asked for, done, and so there is room for it.
--     does                          the definition's step is what is asked for, done
--     takes_low                     an escape that takes one more character holds fewer than 64
--     out_room, whole_room          there is room for the character, for the whole escape
--     whole_stored, whole_length    the held characters and then the one that ends them are stored one behind the other
use Prim.Native.Nat.{ℕ, ◌+◌, ◌≤◌, ◌<◌}
use mathlib.Core.Bool.{true, false}
use mathlib.Core.List.{List, [], ◌∷◌, ◌++◌}
use mathlib.Core.Path.{◌≡◌, sym}
use native.Mathlib.Omega.{arith}
use lib.Dec.{eqb}
use lib.ListN.{length, take, set, length-append, length-take}
use lib.Seq.{sets}
use Rattle.common.proofs.Lists.{sets_append}
use Rattle.text_output.specs.declared.Ground.{Ground}
use Rattle.text_output.specs.declared.Mode.{Mode}
use Rattle.text_output.specs.declared.Step.{Step}
use Rattle.text_output.specs.declared.Step.TheVariants.{Out, Whole}
use Rattle.text_output_write.specs.declared.store.Place.{Place}
use Rattle.text_output.specs.Writer.{sound}
use Rattle.text_output.specs.Step.{asked_in, done_by, write_step_of}
use Rattle.text_output_write.specs.Inner.{machine_at, pushed}
use Rattle.text_output_write.proofs.Asked.{step_asked, takes, takes_few}

module _ (mode : Mode) (w : Place) (e : List ℕ) (c : ℕ) where
  abbrev asked : Step
  asked = asked_in w.state mode w.held c

  pub does : eqb c 0x1A ≡ false → (a : Step) → asked ≡ a → write_step_of mode (machine_at w e) [] c ≡ done_by a (machine_at w e) c
  unfolding machine_at
  does n a q = step_asked mode (machine_at w e) [] c n a q

  pub takes_low : sound (machine_at w e) ≡ true → takes asked ≡ true → w.held < 64
  unfolding machine_at
  takes_low h q = takes_few mode (machine_at w e) c h q

  module _ (n : eqb c 0x1A ≡ false) (out : List ℕ) (room : w.at + length (pushed (write_step_of mode (machine_at w e) [] c)) ≤ length out) where
    pub out_room : (g : Ground) → asked ≡ Out g → w.at < length out
    out_room g q = let r = rw (does n (Out g) q) at room in omega (arith, r)

    pub whole_room : length e ≡ 64 → w.held < 64 → asked ≡ Whole → w.at + w.held < length out
    unfolding machine_at
    whole_room long low q =
        let r = rw (does n Whole q) at room in
        omega (arith, r, length-append (take w.held e) (c ∷ []), length-take w.held e)

-- an escape stored whole: the held characters, and then the one that ends it
module _ (e out : List ℕ) (held at c : ℕ) (long : length e ≡ 64) (low : held < 64) where
  held_length : length (take held e) ≡ held
  held_length = omega (arith, length-take held e)

  pub whole_stored : set (sets out at (take held e)) (at + held) c ≡ sets out at (take held e ++ c ∷ [])
  whole_stored = sym (rw held_length at (sets_append (take held e) (c ∷ []) out at))

  pub whole_length : at + held + 1 ≡ at + length (take held e ++ c ∷ [])
  whole_length = omega (arith, length-append (take held e) (c ∷ []), held_length)
