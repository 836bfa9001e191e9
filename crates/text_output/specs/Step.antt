-- One character in one state, and a run of them: `state_machine_char` and `state_machine` of text_output.rs. What a character asks for
-- hangs on the mode, the state and how many characters are held; that is then done. Characters are hexadecimal.
use Rattle.std.specs.Prelude.{ℕ, ◌+◌, Bool, true, false, cond, ◌&&◌, ◌||◌, List, [], ◌∷◌, ◌++◌, eqb, leb, ltb, take, set}
use Rattle.text_utils.specs.Classes.{basic_text_end}
use Rattle.check_char.specs.declared.BasicTextError.TheVariants.{Escape, UnrecognizedEscape}
use Rattle.check_char.specs.Check.{error_numbers}
use Rattle.text_output.specs.declared.Ground.{Ground as Last}
use Rattle.text_output.specs.declared.Ground.TheVariants.{Newline, ZwjOrPrepend, Other}
use Rattle.text_output.specs.declared.State.{State}
use Rattle.text_output.specs.declared.State.TheVariants.{Ground, Esc, Csi}
use Rattle.text_output.specs.declared.Mode.{Mode}
use Rattle.text_output.specs.declared.Mode.TheVariants.{Plain, Crlf, Color}
use Rattle.text_output.specs.declared.Step.{Step}
use Rattle.text_output.specs.declared.Step.TheVariants.{Out, Hold, Whole, NoColor, Unrecognized, Full}
use Rattle.text_output.specs.Writer.{Machine, escape_limit, on_ground}

-- ---- what some steps come to
pub data Stepped : Type 0 where
  -- they all go on: the characters that they add to those to hand out, and what they leave
  goes : List ℕ → Machine → Stepped
  -- one is refused: the characters added before it, what the steps before it left, and the refusal's number with its values
  stops : List ℕ → Machine → List ℕ → Stepped

-- more steps behind those that added xs
abbrev pub behind : List ℕ → Stepped → Stepped
behind xs (goes ys m) = goes (xs ++ ys) m
behind xs (stops ys m n) = stops (xs ++ ys) m n

-- steps, and then others from what they left; none where one was refused
abbrev pub and_then : Stepped → (Machine → Stepped) → Stepped
and_then (goes xs m) more = behind xs (more m)
and_then (stops xs m n) more = stops xs m n

-- ---- what stands last
-- after a character
unfoldable pub ground_of : ℕ → Last
ground_of c = cond (eqb c 0x0A) Newline (cond (basic_text_end c) Other ZwjOrPrepend)

-- after some characters; g where there is none
abbrev pub ground_after : Last → List ℕ → Last
ground_after g [] = g
ground_after g (c ∷ cs) = ground_after (ground_of c) cs

-- ---- what a character asks for
abbrev pub is_color : Mode → Bool
is_color Plain = false
is_color Crlf = false
is_color Color = true

-- outside an escape
abbrev pub ground_asked : Bool → ℕ → Step
ground_asked color c = cond (eqb c 0x1B) (cond color (Hold Esc) NoColor) (Out (ground_of c))

-- after ESC
abbrev pub esc_asked : ℕ → Step
esc_asked c = cond (eqb c 0x5B) (Hold Csi) Unrecognized

-- "20..3F or `m`": what a sequence begun by ESC `[` takes
abbrev pub in_sequence : ℕ → Bool
in_sequence c = (leb 0x20 c && leb c 0x3F) || eqb c 0x6D

-- in a sequence begun by ESC `[`: `m` ends it. "6 an escape holding 64 characters gets 20..3F or `m`."
abbrev pub csi_asked : ℕ → ℕ → Step
csi_asked held c =
    cond (in_sequence c) (cond (ltb held escape_limit) (cond (eqb c 0x6D) Whole (Hold Csi)) Full) Unrecognized

abbrev pub asked_in : State → Mode → ℕ → ℕ → Step
asked_in (Ground g) mode held c = ground_asked (is_color mode) c
asked_in Esc mode held c = esc_asked c
asked_in Csi mode held c = csi_asked held c

-- ---- what is done
-- in an escape, with c held behind those that are
abbrev pub holding : Machine → State → ℕ → Machine
holding m state c = record { state = state; held = m.held + 1; escape = set m.escape m.held c }

-- refused by 4: the reason's number and its values
-- "4 a character refused by `check_basic_text_char` or by `state_machine_char`, with the reason"
abbrev pub unwritable : Machine → List ℕ → Stepped
unwritable m reason = stops [] m (4 ∷ reason)

-- a character that ends an escape hands out all of it
abbrev pub done_by : Step → Machine → ℕ → Stepped
done_by (Out g) m c = goes (c ∷ []) (on_ground m g)
done_by (Hold s) m c = goes [] (holding m s c)
done_by Whole m c = goes (take m.held m.escape ++ c ∷ []) (on_ground m Other)
done_by NoColor m c = unwritable m (error_numbers Escape)
done_by Unrecognized m c = unwritable m (error_numbers UnrecognizedEscape)
done_by Full m c = stops [] m (6 ∷ [])

-- the reason of a refused character, whose own has these numbers: "In an escape, a refused character gives reason 15."
abbrev pub refused_in : State → List ℕ → List ℕ
refused_in (Ground g) error = error
refused_in Esc error = error_numbers UnrecognizedEscape
refused_in Csi error = error_numbers UnrecognizedEscape

-- ---- a step, and a run of them
-- 1A stands for a refused character; `error` has the number and values of its reason
unfoldable pub write_step_of : Mode → Machine → List ℕ → ℕ → Stepped
write_step_of mode m error c =
    cond (eqb c 0x1A) (unwritable m (refused_in m.state error)) (done_by (asked_in m.state mode m.held c) m c)

unfoldable pub steps_of : Mode → Machine → List ℕ → List ℕ → Stepped
steps_of mode m error [] = goes [] m
steps_of mode m error (c ∷ cs) = and_then (write_step_of mode m error c) (λ next. steps_of mode next error cs)
