-- The refusals of a scan. Document 01, "A chunk comes in" and "Refused ..".
use Rattle.std.specs.Prelude.{ℕ, zero, suc, ◌+◌, ◌*◌, Bool, cond, not, ltb}
use Rattle.common.specs.Answers.{then_room}

-- "A chunk of n characters needs 3 × n + 1 free places, an empty one none."
abbrev pub places_for_chunk : ℕ → ℕ
places_for_chunk zero = 0
places_for_chunk (suc n) = 3 * suc n + 1

-- "a 32-bit count"
abbrev pub max_count : ℕ
max_count = 4294967295

-- A refusal's number, and 0 for none. Whatever the places, by the record's count, whether the page is accepted, whether every value is
-- a character, and how many these are: "2 a wrong page", 1 for a value that is no character, "10 the count would pass 4,294,967,295".
unfoldable pub chunk_refusal : ℕ → Bool → Bool → ℕ → ℕ
chunk_refusal count page chars n = cond (not page) 2 (cond (not chars) 1 (cond (ltb max_count (count + n)) 10 0))

-- "Order: 2, 1, 10, 8."
unfoldable pub refusal_of : ℕ → Bool → Bool → ℕ → ℕ → ℕ → ℕ
refusal_of count page chars n needed room = then_room (chunk_refusal count page chars n) needed room
