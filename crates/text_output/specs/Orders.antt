-- The words in which the laws on the writer speak, each by itself and written out: nothing of Writer, Write and Close is cited, so that a
-- fault there does not come back here. Document 01, "Refused because of the input" and "Refused because of the state".
use Rattle.std.specs.Prelude.{ℕ, Bool, true, false, not, ◌||◌, List, [], ◌∷◌, eqb, ltb, get_or}
use Rattle.text_utils.specs.Classes.{basic_text_start}
use Rattle.text_output.specs.declared.Ground.TheVariants.{Newline, ZwjOrPrepend, Other}
use Rattle.text_output.specs.declared.State.{State}
use Rattle.text_output.specs.declared.State.TheVariants.{Ground, Esc, Csi}
use Rattle.text_output.specs.declared.Mode.{Mode}
use Rattle.text_output.specs.declared.Mode.TheVariants.{Plain, Crlf, Color}
use Rattle.text_output.specs.Step.{Stepped, goes, stops}

-- ---- a state
-- "9 a writer record claiming over 64 held, or a held count that its state can't have (1 after ESC, 2 or more after ESC `[`, else 0)."
abbrev pub misclaims : State → ℕ → Bool
misclaims (Ground g) held = ltb 64 held || not (eqb held 0)
misclaims Esc held = ltb 64 held || not (eqb held 1)
misclaims Csi held = ltb 64 held || ltb held 2

-- "inside an escape"
abbrev pub in_escape : State → Bool
in_escape (Ground g) = false
in_escape Esc = true
in_escape Csi = true

-- "after a non-end"
abbrev pub after_non_end : State → Bool
after_non_end (Ground Newline) = false
after_non_end (Ground ZwjOrPrepend) = true
after_non_end (Ground Other) = false
after_non_end Esc = false
after_non_end Csi = false

-- "after another character that is no newline"
abbrev pub after_another : State → Bool
after_another (Ground Newline) = false
after_another (Ground ZwjOrPrepend) = false
after_another (Ground Other) = true
after_another Esc = false
after_another Csi = false

-- ---- a mode
-- color escapes pass in color mode alone
abbrev pub lets_color : Mode → Bool
lets_color Plain = false
lets_color Crlf = false
lets_color Color = true

-- ---- some steps
-- the numbers by which one is refused; none where they all go on
abbrev pub refused_with : Stepped → List ℕ
refused_with (goes xs m) = []
refused_with (stops xs m n) = n

-- the characters that they add, up to a refused one
abbrev pub added : Stepped → List ℕ
added (goes xs m) = xs
added (stops xs m n) = xs

-- a step is refused by n
abbrev pub stops_by : ℕ → Stepped → Bool
stops_by n s = eqb (get_or (refused_with s) 0 0) n

-- ---- a buffer
-- "the buffer to hand out, not empty, begins with no start"
abbrev pub begins_with_none : List ℕ → List ℕ → Bool
begins_with_none p [] = false
begins_with_none p (c ∷ cs) = not (basic_text_start p c)
