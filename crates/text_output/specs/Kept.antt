-- What stays kept, and goes out first. Document 01, "Characters go out": characters "stay kept and go out with the next success".
use Rattle.std.specs.Prelude.{ℕ, ◌+◌, ◌≤◌, ◌<◌, Bool, true, cond, ◌||◌, eqb, List, [], ◌∷◌, ◌++◌, ◌≡◌, length, take, get_or}
use Rattle.std.proofs.lemmas.List.Edits.{sets}
use Rattle.text_output.specs.declared.TextOutput.{TextOutput}
use Rattle.text_output.specs.Writer.{Outcome}

-- how many stay kept as a write ends, of so many in the first places: none where they are handed out, "and sets kept to 0."; all
-- where it is refused: "After 4 or 6 the characters before the refused one, and after 5 all that was to be handed out, stay kept and go
-- out with the next success."
abbrev pub kept_after : Bool → ℕ → ℕ
kept_after handed k = cond handed 0 k

-- the characters that are to be handed out: the kept ones, which stand in the first places, and behind them those that a write adds
abbrev pub to_hand_out : TextOutput → List ℕ → List ℕ → List ℕ
to_hand_out w places xs = take w.kept places ++ xs

-- of the writer and the places at entry, and what a call returned and left: "the kept characters stay."
abbrev pub KeptStay : TextOutput → List ℕ → Outcome → Type 0
KeptStay w places left = (left.given.next.kept ≡ w.kept) × (left.places ≡ places)

-- the same of a write
pub record KeptFirst (w : TextOutput) (places : List ℕ) (wrote : Outcome) : Type 0 where
  -- they stand in the first places, and stay there
  pub places_stay : take w.kept wrote.places ≡ take w.kept places
  -- "Success hands out the first k characters": the kept ones are among them
  pub first_out : (k : ℕ) → wrote.given.numbers ≡ 0 ∷ k ∷ [] → w.kept ≤ k
  -- Success "sets kept to 0"
  pub none_left : (k : ℕ) → wrote.given.numbers ≡ 0 ∷ k ∷ [] → wrote.given.next.kept ≡ 0
  -- refused by any number, they stay kept
  pub stay_kept : (n : ℕ) (values : List ℕ) → 0 < n → wrote.given.numbers ≡ n ∷ values → w.kept ≤ wrote.given.next.kept

-- the refusal's number in an answer's numbers is one by which the steps of a write are refused, or its end
abbrev pub by_its_steps : List ℕ → Bool
by_its_steps ns = eqb (get_or ns 0 0) 4 || (eqb (get_or ns 0 0) 6 || eqb (get_or ns 0 0) 5)

-- of the characters that a write's steps add, up to a refused one
pub record KeptBehind (w : TextOutput) (places xs : List ℕ) (wrote : Outcome) : Type 0 where
  -- "Success hands out the first k characters": the kept ones and these
  pub handed : get_or wrote.given.numbers 0 0 ≡ 0 → wrote.given.numbers ≡ 0 ∷ (w.kept + length xs) ∷ []
  -- "After 4 or 6 the characters before the refused one, and after 5 all that was to be handed out, stay kept"
  pub kept_behind : by_its_steps wrote.given.numbers ≡ true → wrote.given.next.kept ≡ w.kept + length xs
  -- they are stored behind the kept ones
  pub stored : eqb (get_or wrote.given.numbers 0 0) 0 || by_its_steps wrote.given.numbers ≡ true →
      wrote.places ≡ sets places w.kept xs
