-- What the steps of a write answer one by one. Document 01, "Characters go out" and "Refused ..". Cited by private functions, by public
-- ones that are inner, which only `basic_text` calls, and by `refused_write`; `write_str` and `write` cite `text_output` alone.
use Rattle.std.specs.Prelude.{ℕ, ◌+◌, Bool, true, false, cond, not, ◌&&◌, List, [], ◌∷◌, eqb, ltb, length, Result, Ok, Err}
use Rattle.std.proofs.lemmas.List.Edits.{sets}
use Rattle.text_utils.specs.Classes.{basic_text_start}
use Rattle.check_char.specs.declared.Categorized.{Categorized}
use Rattle.check_char.specs.declared.Categorized.TheVariants.{Char, Sub}
use Rattle.check_char.specs.Check.{error_numbers, check_numbers}
use Rattle.isolate_unassigned.specs.declared.IsolateUnassigned.{IsolateUnassigned}
use Rattle.isolate_unassigned.specs.Inner.{fresh, isolate_step_of, gives_out, after, last_owed}
use Rattle.text_output.specs.declared.Mode.{Mode}
use Rattle.text_output.specs.declared.Mode.TheVariants.{Plain, Crlf, Color}
use Rattle.text_output_write.specs.declared.store.Place.{Place}
use Rattle.text_output_write.specs.declared.store.Stop.{Stop}
use Rattle.text_output_write.specs.declared.store.Stop.TheVariants.{Reason, Limit}
use Rattle.text_output.specs.Writer.{Machine, Given, Outcome, writer_with, abandoned_by}
use Rattle.text_output.specs.Kept.{kept_after}
use Rattle.text_output.specs.Step.{Stepped, goes, stops, and_then, steps_of}
use Rattle.text_output.specs.Write.{checked, put_crlf, hand_out}
use Rattle.text_output_write.specs.declared.store.Stopped.{Stopped}
use Rattle.text_output_write.specs.declared.refusal.RefusedWrite.{RefusedWrite}

-- ---- what steps change, as a place and the held characters
unfoldable pub machine_at : Place → List ℕ → Machine
machine_at w escape = record { state = w.state; held = w.held; escape = escape }

-- ---- what steps come to, stored from a place on
abbrev pub pushed : Stepped → List ℕ
pushed (goes xs m) = xs
pushed (stops xs m n) = xs

abbrev pub machine_after : Stepped → Machine
machine_after (goes xs m) = m
machine_after (stops xs m n) = m

-- the refusal's numbers, and none where the steps go on
abbrev pub stopped : Stepped → List ℕ
stopped (goes xs m) = []
stopped (stops xs m n) = n

abbrev pub goes_on : Stepped → Bool
goes_on (goes xs m) = true
goes_on (stops xs m n) = false

-- whether they go on, the place after them, what they leave, the refusal's numbers and the lent places
pub record Progress : Type 0 where
  pub going : Bool
  pub at : ℕ
  pub machine : Machine
  pub refusal : List ℕ
  pub places : List ℕ

abbrev pub stored : ℕ → List ℕ → Stepped → Progress
stored at places s =
    record {
      going = goes_on s;
      at = at + length (pushed s);
      machine = machine_after s;
      refusal = stopped s;
      places = sets places at (pushed s);
    }

-- the same of what a private function answers
abbrev pub stop_numbers : Stop → List ℕ
stop_numbers (Reason e) = 4 ∷ error_numbers e
stop_numbers Limit = 6 ∷ []

abbrev pub progress : Result Place Stopped → List ℕ → List ℕ → Progress
progress (Ok w) escape places = record { going = true; at = w.at; machine = machine_at w escape; refusal = []; places = places }
progress (Err s) escape places =
    record { going = false; at = s.place.at; machine = machine_at s.place escape; refusal = stop_numbers s.stop; places = places }

-- ---- a write, character by character
-- the character that an answer of `Categorize` hands on
abbrev pub handed_on : Categorized → ℕ
handed_on (Char c r) = c
handed_on (Sub c r) = c

-- whether 0A ends a part
abbrev pub is_crlf : Mode → Bool
is_crlf Plain = false
is_crlf Crlf = true
is_crlf Color = false

-- one character, where the isolator stands at r: 0A with the 34F that is owed before it, where it ends a part; any other checked,
-- isolated and stepped
unfoldable pub turn_of : Mode → List ℕ → Machine → IsolateUnassigned → ℕ → Stepped
turn_of mode p m r c =
    cond (is_crlf mode && eqb c 0x0A) (and_then (steps_of mode m [] (last_owed r)) put_crlf)
    (steps_of mode m (check_numbers c) (gives_out (isolate_step_of p r (checked c))))

-- the isolator after it
unfoldable pub isolator_after : Mode → List ℕ → IsolateUnassigned → ℕ → IsolateUnassigned
isolator_after mode p r c = cond (is_crlf mode && eqb c 0x0A) fresh (after (isolate_step_of p r (checked c)))

-- ---- the end of a write
-- of n characters to hand out, the first of them given: there is none, or it is a start
abbrev pub start_or_none : List ℕ → ℕ → ℕ → Bool
start_or_none p n first = not (ltb 0 n && not (basic_text_start p first))

-- where a step was refused, in a mode and with an expectation
abbrev pub kept_by : Mode → Bool → Progress → Given
kept_by mode expect x = abandoned_by x.refusal (writer_with mode expect (kept_after false x.at) x.machine)

-- how a write ends, by where its steps led
abbrev pub end_of : List ℕ → Mode → Bool → Progress → Outcome
end_of p mode expect x =
    record {
      given = cond x.going (hand_out p mode expect x.machine x.at x.places) (kept_by mode expect x);
      places = x.places;
    }

-- ---- a write that is refused before its steps
-- what one refused by a number answers and leaves, whichever number
abbrev pub refused_given : RefusedWrite → Given
refused_given r = record { numbers = r.number ∷ []; abandon = r.abandon; next = r.next }
