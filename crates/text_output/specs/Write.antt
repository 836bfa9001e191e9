-- A write of characters and a write of bytes: what they answer, the record after and the lent places after, refused or not. Document
-- 01, "Characters go out", "Refused .."; `write_str` and `write` of text_output.rs. Characters are hexadecimal.
use Rattle.std.specs.Prelude.{ℕ, ◌+◌, ◌*◌, Bool, true, false, cond, not, ◌&&◌, List, [], ◌∷◌, map, eqb, ltb, length, get_or}
use Rattle.std.proofs.lemmas.List.Edits.{sets}
use Rattle.common.specs.Answers.{then_room}
use Rattle.scalars.specs.Chars.{are_chars}
use Rattle.scalars.specs.Utf8.{encode_all, chars_of}
use Rattle.page.specs.Page.{accepted}
use Rattle.text_utils.specs.Classes.{basic_text_start}
use Rattle.check_char.specs.Check.{reason_of, check_numbers}
use Rattle.isolate_unassigned.specs.Meaning.{isolated}
use Rattle.text_output.specs.declared.Ground.TheVariants.{Newline}
use Rattle.text_output.specs.declared.Mode.{Mode}
use Rattle.text_output.specs.declared.Mode.TheVariants.{Plain, Crlf, Color}
use Rattle.text_output.specs.declared.TextOutput.{TextOutput}
use Rattle.text_output.specs.Writer.{Given, Outcome, BytesOutcome, Machine, machine_of, writer_with, sound, on_ground, refused_by, abandoned_by}
use Rattle.text_output.specs.Kept.{kept_after}
use Rattle.text_output.specs.Step.{Stepped, goes, stops, and_then, steps_of}

-- ---- the steps of a write
-- "Each character is checked, refused ones becoming 1A"
abbrev pub checked : ℕ → ℕ
checked c = cond (eqb (reason_of c) 0) c 0x1A

-- the reason's number and values of the first that is refused, for which the first 1A stands: no step goes past it
abbrev pub first_error : List ℕ → List ℕ
first_error [] = []
first_error (c ∷ cs) = cond (eqb (reason_of c) 0) (first_error cs) (check_numbers c)

-- "then isolated, then stepped through `state_machine_char`": `state_machine`
unfoldable pub run_of : Mode → List ℕ → Machine → List ℕ → Stepped
run_of mode p m chars = steps_of mode m (first_error chars) (isolated p (map checked chars))

-- a list with c put before its first part
abbrev pub into_first : ℕ → List (List ℕ) → List (List ℕ)
into_first c [] = (c ∷ []) ∷ []
into_first c (part ∷ rest) = (c ∷ part) ∷ rest

-- the parts between 0A: `split('\n')`
unfoldable pub parts : List ℕ → List (List ℕ)
parts [] = [] ∷ []
parts (c ∷ cs) = cond (eqb c 0x0A) ([] ∷ parts cs) (into_first c (parts cs))

-- "0A gives 0D 0A", from any state
abbrev pub put_crlf : Machine → Stepped
put_crlf m = goes (0x0D ∷ 0x0A ∷ []) (on_ground m Newline)

-- the parts that follow one, with 0D 0A before each
unfoldable pub more_parts : Mode → List ℕ → Machine → List (List ℕ) → Stepped
more_parts mode p m [] = goes [] m
more_parts mode p m (part ∷ rest) =
    and_then (put_crlf m) (λ next. and_then (run_of mode p next part) (λ after. more_parts mode p after rest))

abbrev pub parts_of : Mode → List ℕ → Machine → List (List ℕ) → Stepped
parts_of mode p m [] = goes [] m
parts_of mode p m (part ∷ rest) = and_then (run_of mode p m part) (λ after. more_parts mode p after rest)

-- "In CRLF mode each part between 0A is isolated alone": `normal_write_str`, `crlf_write_str`
abbrev pub run_in : Mode → List ℕ → Machine → List ℕ → Stepped
run_in Plain p m chars = run_of Plain p m chars
run_in Crlf p m chars = parts_of Crlf p m (parts chars)
run_in Color p m chars = run_of Color p m chars

-- ---- the handing out: `write_buffer`
-- "5 the buffer to hand out, not empty, begins with no start while one is expected." It spends the expectation.
-- "Success hands out the first k characters". "Corners: an empty write spends the expectation of a start."; "a writer always refusing
-- with 4" does not pass
abbrev pub hand_out : List ℕ → Mode → Bool → Machine → ℕ → List ℕ → Given
hand_out p mode expect m k places =
    cond (expect && (ltb 0 k && not (basic_text_start p (get_or places 0 0))))
    (abandoned_by (5 ∷ []) (writer_with mode false (kept_after false k) m))
    (record { numbers = 0 ∷ k ∷ []; abandon = false; next = writer_with mode false (kept_after true k) m })

-- how a write ends: what its steps added stands in the places behind the kept ones. "4, 6 .. leave the expectation as it was"
abbrev pub ended_by : List ℕ → TextOutput → Stepped → List ℕ → Outcome
ended_by p w (goes xs m) places =
    record {
      given = hand_out p w.mode w.expect_starter m (w.kept + length xs) (sets places w.kept xs);
      places = sets places w.kept xs;
    }
ended_by p w (stops xs m n) places =
    record {
      given = abandoned_by n (writer_with w.mode w.expect_starter (kept_after false (w.kept + length xs)) m);
      places = sets places w.kept xs;
    }

-- the steps of a write of these characters, and its end: "then 4 or 6 as met, then 5"
unfoldable pub written_by : TextOutput → List ℕ → List ℕ → List ℕ → Outcome
written_by w p chars places = ended_by p w (run_in w.mode p (machine_of w) chars) places

-- ---- what refuses a write before its steps. "Order: 9, 2, 1 (or 3 for bytes), 8"
-- by record, page and values: the number, and 0 where none refuses. `values` is the number by which the values refuse, or 0
abbrev pub input_refusal : TextOutput → List ℕ → ℕ → ℕ
input_refusal w p values = cond (not (sound (machine_of w))) 9 (cond (not (accepted p)) 2 values)

-- "A write of n characters needs kept + held + 3 × n places."
abbrev pub places_for_write : TextOutput → ℕ → ℕ
places_for_write w n = w.kept + w.held + 3 * n

-- the number by which a write of n characters is refused, 0 where it is not
unfoldable pub write_refusal : TextOutput → List ℕ → ℕ → ℕ → ℕ → ℕ
write_refusal w p values n room = then_room (input_refusal w p values) (places_for_write w n) room

-- what one refused by this number comes to: of these 3 alone is not among "1, 2, 7, 8, 9, 10"
abbrev pub refused_write : ℕ → TextOutput → Given
refused_write n w = cond (eqb n 3) (abandoned_by (3 ∷ []) w) (refused_by n w)

-- refused by this number, or, where it is 0, what the write comes to
abbrev pub unless_refused : ℕ → TextOutput → List ℕ → Outcome → Outcome
unless_refused n w places o = cond (eqb n 0) o (record { given = refused_write n w; places = places })

-- ---- a write of characters
-- "1 a value in D800..DFFF or above 10FFFF."
abbrev pub chars_refusal : List ℕ → ℕ
chars_refusal chars = cond (are_chars chars) 0 1

abbrev pub write_str_refusal : TextOutput → List ℕ → List ℕ → ℕ → ℕ
write_str_refusal w p chars room = write_refusal w p (chars_refusal chars) (length chars) room

unfoldable pub write_str_of : TextOutput → List ℕ → List ℕ → List ℕ → Outcome
write_str_of w p chars places = unless_refused (write_str_refusal w p chars (length places)) w places (written_by w p chars places)

-- ---- a write of bytes
-- "3 a byte write, not empty, whose first byte begins no valid character.": so many bytes begin with so many characters
abbrev pub bytes_refusal : ℕ → ℕ → ℕ
bytes_refusal bytes chars = cond (ltb 0 bytes && eqb chars 0) 3 0

abbrev pub write_bytes_refusal : TextOutput → List ℕ → List ℕ → ℕ → ℕ
write_bytes_refusal w p bytes room =
    write_refusal w p (bytes_refusal (length bytes) (length (chars_of bytes))) (length (chars_of bytes)) room

-- whether an answer's numbers are those of a write that succeeds: 0 and a number
abbrev pub succeeds : List ℕ → Bool
succeeds [] = false
succeeds (n ∷ []) = false
succeeds (n ∷ k ∷ ns) = eqb n 0

-- how many bytes were taken: those of the longest valid prefix where the write succeeds. Document 01 is silent on a refused write's: none.
abbrev pub used_by : List ℕ → List ℕ → ℕ
used_by numbers bytes = cond (succeeds numbers) (length (encode_all (chars_of bytes))) 0

abbrev pub taking : List ℕ → Outcome → BytesOutcome
taking bytes o = record { used = used_by o.given.numbers bytes; outcome = o }

-- "Byte writes take the longest valid prefix"
-- "The references are `write`, `write_str`, `flush`, `close`, `abandon`."
unfoldable pub write_of : TextOutput → List ℕ → List ℕ → List ℕ → BytesOutcome
write_of w p bytes places =
    taking bytes (unless_refused (write_bytes_refusal w p bytes (length places)) w places (written_by w p (chars_of bytes) places))
