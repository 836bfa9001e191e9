-- "The first twelve are proved, with the page 0 1 0 377 (no nonstarters, 0..377 assigned); scans end as end of file." Document 01,
-- "Checked by hand": the cases as a table, and what the calls' definitions give for a row. All options are off. proofs/Cases.antt
-- proves that the two agree. Characters are hexadecimal.
use Rattle.std.specs.Prelude.{ℕ, true, List, [], ◌∷◌, replicate}
use Rattle.isolate_unassigned.specs.Isolate.{isolate_answer, isolate_places}
use Rattle.text_input.specs.declared.Options.{Options}
use Rattle.text_input.specs.declared.TextInput.{TextInput}
use Rattle.common.specs.Answers.{refusal_in, wrote_in}
use Rattle.text_input.specs.Scan.{Outcome, fresh, all_off, scan_of, finish_of}

-- what is run: scans of these chunks and a finish as end of file, from a fresh record; or the isolation of a run
pub data Trial : Type 0 where
  stream : List (List ℕ) → Trial
  isolation : List ℕ → Trial

pub record Row : Type 0 where
  pub trial : Trial
  -- the free places lent to each call, the finish included
  pub rooms : List ℕ
  -- for each call the refusal's number, or 0 and the characters written
  pub expected : List (List ℕ)

abbrev pub page : List ℕ
page = 0 ∷ 1 ∷ 0 ∷ 0x377 ∷ []

abbrev pub options : Options
options = all_off

-- so many places, each with a value that no call writes
abbrev pub lent : ℕ → List ℕ
lent room = replicate room 0xEEEEEEEE

-- ---- what a row's calls give
-- by an answer's numbers and the places after
abbrev pub told : List ℕ → List ℕ → List ℕ
told ns places = refusal_in ns ∷ wrote_in ns places

abbrev pub call_told : Outcome → List ℕ
call_told s = told s.numbers s.places

-- each call on the record that the one before returned, refused or not
abbrev pub stream_told : TextInput → List (List ℕ) → List ℕ → List (List ℕ)
stream_told r chunks [] = []
stream_told r [] (room ∷ rooms) = call_told (finish_of r true (lent room)) ∷ []
stream_told r (chunk ∷ chunks) (room ∷ rooms) =
    call_told (scan_of r page options chunk (lent room))
    ∷ stream_told (scan_of r page options chunk (lent room)).next chunks rooms

abbrev pub isolation_told : List ℕ → List ℕ → List (List ℕ)
isolation_told run [] = []
isolation_told run (room ∷ rooms) =
    told (isolate_answer page run (lent room)) (isolate_places page run (lent room)) ∷ []

abbrev pub trial_told : Trial → List ℕ → List (List ℕ)
trial_told (stream chunks) rooms = stream_told fresh chunks rooms
trial_told (isolation run) rooms = isolation_told run rooms

abbrev pub computed : Row → List (List ℕ)
computed row = trial_told row.trial row.rooms

-- ---- the cases. A scan of n characters is lent the 3 × n + 1 places that it needs, the finish 2, and the isolation 2 × n + 1.
-- "1. empty: empty. 2. 61: 61 0A. 3. 0D | 0A in two chunks: 0A. 4. 0D 0D: 0A 0A. 5. 0C 0C 61: 20 61 0A. 6. 0C 0D: 0A. 7. 1B 5B 5B E9: E9
-- 0A. 8. 1B 63: 0A. 9. 1B 5D 61 0A 07 62: 62 0A. 10. 200D: 34F 200D 34F 0A. 11. after 0D, the chunk FB03 gives 0A 66 66 69, four
-- places: accepted with 4, refused with 3. 12. isolating 378 61 (378 unassigned): 34F 378 34F 61."
unfoldable pub table : List Row
table =
    -- 1. empty: empty
    record { trial = stream ([] ∷ []); rooms = 0 ∷ 2 ∷ []; expected = (0 ∷ []) ∷ (0 ∷ []) ∷ [] }
    -- 2. 61: 61 0A
    ∷ record { trial = stream ((0x61 ∷ []) ∷ []); rooms = 4 ∷ 2 ∷ []; expected = (0 ∷ 0x61 ∷ []) ∷ (0 ∷ 0x0A ∷ []) ∷ [] }
    -- 3. 0D | 0A in two chunks: 0A
    ∷ record {
      trial = stream ((0x0D ∷ []) ∷ (0x0A ∷ []) ∷ []);
      rooms = 4 ∷ 4 ∷ 2 ∷ [];
      expected = (0 ∷ []) ∷ (0 ∷ 0x0A ∷ []) ∷ (0 ∷ []) ∷ [];
    }
    -- 4. 0D 0D: 0A 0A
    ∷ record { trial = stream ((0x0D ∷ 0x0D ∷ []) ∷ []); rooms = 7 ∷ 2 ∷ []; expected = (0 ∷ 0x0A ∷ []) ∷ (0 ∷ 0x0A ∷ []) ∷ [] }
    -- 5. 0C 0C 61: 20 61 0A
    ∷ record {
      trial = stream ((0x0C ∷ 0x0C ∷ 0x61 ∷ []) ∷ []);
      rooms = 10 ∷ 2 ∷ [];
      expected = (0 ∷ 0x20 ∷ 0x61 ∷ []) ∷ (0 ∷ 0x0A ∷ []) ∷ [];
    }
    -- 6. 0C 0D: 0A
    ∷ record { trial = stream ((0x0C ∷ 0x0D ∷ []) ∷ []); rooms = 7 ∷ 2 ∷ []; expected = (0 ∷ []) ∷ (0 ∷ 0x0A ∷ []) ∷ [] }
    -- 7. 1B 5B 5B E9: E9 0A
    ∷ record {
      trial = stream ((0x1B ∷ 0x5B ∷ 0x5B ∷ 0xE9 ∷ []) ∷ []);
      rooms = 13 ∷ 2 ∷ [];
      expected = (0 ∷ 0xE9 ∷ []) ∷ (0 ∷ 0x0A ∷ []) ∷ [];
    }
    -- 8. 1B 63: 0A
    ∷ record { trial = stream ((0x1B ∷ 0x63 ∷ []) ∷ []); rooms = 7 ∷ 2 ∷ []; expected = (0 ∷ []) ∷ (0 ∷ 0x0A ∷ []) ∷ [] }
    -- 9. 1B 5D 61 0A 07 62: 62 0A
    ∷ record {
      trial = stream ((0x1B ∷ 0x5D ∷ 0x61 ∷ 0x0A ∷ 0x07 ∷ 0x62 ∷ []) ∷ []);
      rooms = 19 ∷ 2 ∷ [];
      expected = (0 ∷ 0x62 ∷ []) ∷ (0 ∷ 0x0A ∷ []) ∷ [];
    }
    -- 10. 200D: 34F 200D 34F 0A
    ∷ record {
      trial = stream ((0x200D ∷ []) ∷ []);
      rooms = 4 ∷ 2 ∷ [];
      expected = (0 ∷ 0x34F ∷ 0x200D ∷ []) ∷ (0 ∷ 0x34F ∷ 0x0A ∷ []) ∷ [];
    }
    -- 11. after 0D, the chunk FB03 gives 0A 66 66 69, four places: accepted with 4
    ∷ record {
      trial = stream ((0x0D ∷ []) ∷ (0xFB03 ∷ []) ∷ []);
      rooms = 4 ∷ 4 ∷ 2 ∷ [];
      expected = (0 ∷ []) ∷ (0 ∷ 0x0A ∷ 0x66 ∷ 0x66 ∷ 0x69 ∷ []) ∷ (0 ∷ 0x0A ∷ []) ∷ [];
    }
    -- 11. refused with 3: the finish then gives the 0A of 0D
    ∷ record {
      trial = stream ((0x0D ∷ []) ∷ (0xFB03 ∷ []) ∷ []);
      rooms = 4 ∷ 3 ∷ 2 ∷ [];
      expected = (0 ∷ []) ∷ (8 ∷ []) ∷ (0 ∷ 0x0A ∷ []) ∷ [];
    }
    -- 12. isolating 378 61 (378 unassigned): 34F 378 34F 61
    ∷ record {
      trial = isolation (0x378 ∷ 0x61 ∷ []);
      rooms = 5 ∷ [];
      expected = (0 ∷ 0x34F ∷ 0x378 ∷ 0x34F ∷ 0x61 ∷ []) ∷ [];
    }
    ∷ []
