-- The entry that isolates a run of characters: what refuses it, what it answers and what it leaves in the lent places (document 01,
-- "Leaves", first item). What a run isolates to is `isolated` (specs/Meaning.antt).
use Rattle.std.specs.Prelude.{true, not, cond, ◌≡◌, List, [], ◌∷◌, ℕ, zero, suc, ◌+◌, ◌*◌, eqb, ltb, length, drop}
use Rattle.std.proofs.lemmas.List.Edits.{sets}
use Rattle.common.specs.Answers.{refusal_in, written_in, wrote_in, then_room}
use Rattle.scalars.specs.Chars.{are_chars}
use Rattle.page.specs.Page.{accepted}
use Rattle.isolate_unassigned.specs.Meaning.{isolated}

-- "Isolating a run of n characters needs 2 × n + 1 places, an empty one none"
abbrev pub places_for_run : ℕ → ℕ
places_for_run zero = 0
places_for_run (suc n) = 2 * suc n + 1

-- "order 2, 1, 8": the number of the refusal, and 0 for none. 2 for a wrong page, 1 for a value that is no character, 8 for too few places
abbrev pub isolate_refusal : List ℕ → List ℕ → List ℕ → ℕ
isolate_refusal p cs out =
    then_room (cond (not (accepted p)) 2 (cond (not (are_chars cs)) 1 0)) (places_for_run (length cs)) (length out)

-- the answer: 0 and how many were written, or the refusal's number
abbrev pub isolate_answer : List ℕ → List ℕ → List ℕ → List ℕ
isolate_answer p cs out =
    cond (eqb (isolate_refusal p cs out) 0) (0 ∷ length (isolated p cs) ∷ []) (isolate_refusal p cs out ∷ [])

-- the places as isolation leaves them: unchanged by a refusal
-- "1, 2, 7, 8, 9, 10 .. change nothing."; "Places past the filled .. ones are unchanged"
abbrev pub isolate_places : List ℕ → List ℕ → List ℕ → List ℕ
isolate_places p cs out = cond (eqb (isolate_refusal p cs out) 0) (sets out 0 (isolated p cs)) out

-- ---- what an isolation leaves
-- of the page, the run and the places at entry, and what the entry answered and left
pub record IsolateLeaves (p cs out answer places : List ℕ) : Type 0 where
  -- "1, 2, 7, 8, 9, 10 .. change nothing."
  pub nothing : ltb 0 (refusal_in answer) ≡ true → places ≡ out
  pub number : eqb (refusal_in answer) 0 ≡ true → answer ≡ 0 ∷ length (isolated p cs) ∷ []
  pub wrote : eqb (refusal_in answer) 0 ≡ true → wrote_in answer places ≡ isolated p cs
  -- "Places past the filled .. ones are unchanged"
  pub past : drop (written_in answer) places ≡ drop (written_in answer) out
