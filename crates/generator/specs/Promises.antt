-- What the generator comes to, in the request's words, for any state, number of steps and slice. Document 02, A.6.
use Rattle.std.specs.Prelude.{◌≡◌, ℕ, zero, suc, ◌+◌, ◌*◌, ◌^◌, ◌<◌, ◌≤◌, true, List, ◌++◌, length, ◌≢◌, slice_index, slice_index_or}
use Rattle.scalars.specs.Chars.{are_chars}
use Rattle.generator.specs.Generator.{next_of, after, back_of, listed, fill_places, fill_state}

-- a state: "A 32-bit state"
abbrev pub State : ℕ → Type 0
State s = s < 2 ^ 32

-- so many steps back
abbrev pub before : ℕ → ℕ → ℕ
before zero s = s
before (suc n) s = before n (back_of s)

-- t is n modulo 2^32
pub record Modulo32 (n t : ℕ) : Type 0 where
  pub state : State t
  pub wraps : ℕ
  pub sum : n ≡ t + 2 ^ 32 * wraps

-- the steps from a state
pub record Steps (s : ℕ) : Type 0 where
  -- "multiplied and added modulo 2^32: the next is 1,664,525 × state + 1,013,904,223."
  pub next : Modulo32 (1664525 * s + 1013904223) (next_of s)
  -- so many of them, one by one
  pub none : after 0 s ≡ s
  pub more : (n : ℕ) → after (suc n) s ≡ next_of (after n s)
  -- "It also steps a state back to the one before.": a step and the step back undo each other
  pub back_state : State (back_of s)
  pub back_of_next : State s → back_of (next_of s) ≡ s
  pub next_of_back : State s → next_of (back_of s) ≡ s

-- "Different seeds never reach equal states after equally many steps"
abbrev pub NeverMeet : ℕ → ℕ → Type 0
NeverMeet s t = State s → State t → (s ≢ t) → (n : ℕ) → after n s ≢ after n t

-- c stands in the list, at the place that the top five of a state's 32 bits are the number of: "Each step picks from this list of 32 by the
-- top five bits of the new state"
pub record PickedBy (s c : ℕ) : Type 0 where
  pub place : ℕ
  pub in_list : place < length listed
  pub low : place * 2 ^ 27 ≤ s
  pub high : s < suc place * 2 ^ 27
  pub char : slice_index_or listed place 0 ≡ c

-- what filling leaves and hands back: "The generator fills a lent slice and hands back its state."
pub record Fills (s : ℕ) (out : List ℕ) : Type 0 where
  -- the slice is as long as before
  pub whole : length (fill_places s out) ≡ length out
  -- every place is filled, place i by step i + 1: "Each step picks .. by the top five bits of the new state"
  pub each : (i : ℕ) → i < length out → PickedBy (after (suc i) s) (slice_index (fill_places s out) i)
  -- with characters
  pub chars : are_chars (fill_places s out) ≡ true
  -- the state handed back is that of the last step; stepped back once for each place, it is the one that filling began with
  pub last : fill_state s out ≡ after (length out) s
  pub handed_back : State s → before (length out) (fill_state s out) ≡ s

-- "and filling two adjoining parts, the second from the state the first hands back, equals filling the whole.": places and state
pub record Adjoining (s : ℕ) (first second : List ℕ) : Type 0 where
  pub places : fill_places s first ++ fill_places (fill_state s first) second ≡ fill_places s (first ++ second)
  pub state : fill_state (fill_state s first) second ≡ fill_state s (first ++ second)
