-- What each refusal of a write, a flush or a close leaves, which places stay, and a second close. Document 01, "Refused because of the
-- state" and "Characters go out".
use Rattle.std.specs.Prelude.{ℕ, Bool, true, false, cond, not, ◌&&◌, ◌||◌, List, [], ◌∷◌, ◌≡◌, eqb, ltb, drop, get_or}
use Rattle.text_output.specs.declared.Ground.TheVariants.{Newline}
use Rattle.text_output.specs.declared.State.TheVariants.{Ground}
use Rattle.text_output.specs.declared.TextOutput.{TextOutput}
use Rattle.text_output.specs.Writer.{Given, Outcome}
use Rattle.text_output.specs.Kept.{KeptStay}
use Rattle.text_output.specs.Write.{succeeds}
use Rattle.text_output.specs.Close.{close_of}

-- a write is of characters or of bytes
pub data Call : Type 0 where
  write flush close : Call

-- the refusal's number; 0 where the call succeeds
abbrev pub refusal_in : Given → ℕ
refusal_in g = get_or g.numbers 0 0

-- how many of the first places are handed out, or kept
abbrev pub filled_in : Given → ℕ
filled_in g = cond (succeeds g.numbers) (get_or g.numbers 1 0) g.next.kept

-- n is among these
abbrev pub one_of : List ℕ → ℕ → Bool
one_of [] n = false
one_of (m ∷ ms) n = eqb n m || one_of ms n

abbrev pub is_flush : Call → Bool
is_flush write = false
is_flush flush = true
is_flush close = false

abbrev pub is_close : Call → Bool
is_close write = false
is_close flush = false
is_close close = true

-- ---- which numbers a sentence speaks of
-- "1, 2, 7, 8, 9, 10 and a flush refused by 13"
abbrev pub is_quiet : Call → ℕ → Bool
is_quiet call n = one_of (1 ∷ 2 ∷ 7 ∷ 8 ∷ 9 ∷ 10 ∷ []) n || (eqb n 13 && is_flush call)

-- "The others"
abbrev pub is_other : Call → ℕ → Bool
is_other call n = ltb 0 n && not (is_quiet call n)

-- "3, 4, 6 and a flush refused by 11"
abbrev pub is_sparing : Call → ℕ → Bool
is_sparing call n = one_of (3 ∷ 4 ∷ 6 ∷ []) n || (eqb n 11 && is_flush call)

-- ---- what they leave
-- of the writer and the places at entry, and what the call returned and left; a flush and a close are lent no places
pub record Leaves (call : Call) (w : TextOutput) (places : List ℕ) (left : Outcome) : Type 0 where
  -- "1, 2, 7, 8, 9, 10 and a flush refused by 13 change nothing."
  pub nothing : is_quiet call (refusal_in left.given) ≡ true →
      (left.given.next ≡ w) × ((left.places ≡ places) × (left.given.abandon ≡ false))
  -- "The others return the writer to its after-newline state and tell the caller to abandon."
  pub after_newline : is_other call (refusal_in left.given) ≡ true →
      (left.given.next.state ≡ Ground Newline) × ((left.given.next.held ≡ 0) × (left.given.abandon ≡ true))
  -- "3, 4, 6 and a flush refused by 11 leave the expectation as it was"
  pub expectation_stays : is_sparing call (refusal_in left.given) ≡ true →
      left.given.next.expect_starter ≡ w.expect_starter
  -- "5 spends it"
  pub spent_by_5 : eqb (refusal_in left.given) 5 ≡ true → left.given.next.expect_starter ≡ false
  -- "close sets it again, refused or not": but by 9, which changes nothing
  pub set_by_close : is_close call && not (eqb (refusal_in left.given) 9) ≡ true → left.given.next.expect_starter ≡ true
  -- "Refused by 3, 11, 12 or 13, the kept characters stay."
  pub kept_stay : one_of (3 ∷ 11 ∷ 12 ∷ 13 ∷ []) (refusal_in left.given) ≡ true → KeptStay w places left
  -- "Places past the filled, kept or handed-out ones are unchanged", refused or not
  pub past_stay : drop (filled_in left.given) left.places ≡ drop (filled_in left.given) places

-- "A second close after one refused by 11, 12 or 13 succeeds."
abbrev pub SecondCloses : TextOutput → Type 0
SecondCloses w = one_of (11 ∷ 12 ∷ 13 ∷ []) (refusal_in (close_of w)) ≡ true → (close_of (close_of w).next).numbers ≡ []
