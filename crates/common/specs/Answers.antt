-- The refusals by number; what an entry answers, by document 01's numbers; and the refusal by the places lent.
use Rattle.std.specs.Prelude.{ℕ, cond, List, [], ◌∷◌, eqb, ltb, take, get_or, Result, Ok, Err}
use Rattle.common.specs.declared.Refusal.{Refusal}
use Rattle.common.specs.declared.Refusal.TheVariants.{NotAChar, WrongPage, NotUtf8, Unwritable, NoStart, EscapeFull, SmallBuffer, NoRoom, UnsoundWriter, CountLimit, AfterNonEnd, AfterNoNewline, InEscape, OddBytes, UnpairedSurrogate}

-- the number of each refusal, as the documents list it
abbrev pub refusal_number : Refusal → ℕ
-- "1 a value in D800..DFFF or above 10FFFF. 2 a wrong page. 3 a byte write, not empty, whose first byte begins no valid character. 4 a
-- character refused by `check_basic_text_char` or by `state_machine_char`"
refusal_number NotAChar = 1
refusal_number WrongPage = 2
refusal_number NotUtf8 = 3
refusal_number Unwritable = 4
-- "5 the buffer to hand out, not empty, begins with no start while one is expected. 6 an escape holding 64 characters gets 20..3F or `m`."
refusal_number NoStart = 5
refusal_number EscapeFull = 6
-- "7 a byte buffer under 136. 8 too few free places. 9 a writer record claiming over 64 held, or a held count that its state can't have"
refusal_number SmallBuffer = 7
refusal_number NoRoom = 8
refusal_number UnsoundWriter = 9
-- "10 the count would pass 4,294,967,295. 11 flush or close after a non-end. 12 close after another character that is no newline. 13
-- flush or close inside an escape."
refusal_number CountLimit = 10
refusal_number AfterNonEnd = 11
refusal_number AfterNoNewline = 12
refusal_number InEscape = 13
-- of reading UTF-16, by document 02, A.3
refusal_number OddBytes = 14
refusal_number UnpairedSurrogate = 15

-- "Where an answer is an enum, a definition lists this paper's number and values for each case.": 0 and how many were written, or the
-- refusal's number
abbrev pub written_numbers : Result ℕ Refusal → List ℕ
written_numbers (Ok n) = 0 ∷ n ∷ []
written_numbers (Err e) = refusal_number e ∷ []

-- what a test of refusals answers, by number: 0 where it refuses nothing
abbrev pub passed_number : {A : Type 0} → Result A Refusal → ℕ
passed_number (Ok a) = 0
passed_number (Err e) = refusal_number e

-- by an answer's numbers: the number of the refusal, and 0 for none
abbrev pub refusal_in : List ℕ → ℕ
refusal_in ns = get_or ns 0 0

-- how many characters were written, and 0 where the call was refused
abbrev pub written_in : List ℕ → ℕ
written_in ns = get_or ns 1 0

-- what was written: so many of the first places
abbrev pub wrote_in : List ℕ → List ℕ → List ℕ
wrote_in ns places = take (written_in ns) places

-- A refusal's number, and 0 for none, by the places that are needed and those that are lent: "8 too few free places."; so "a scan saying 8
-- with places free (demand 2, the refusal conditions)" does not pass.
abbrev pub room_refusal : ℕ → ℕ → ℕ
room_refusal needed room = cond (ltb room needed) 8 0

-- the same behind other refusals, by their number: 8 comes after them
abbrev pub then_room : ℕ → ℕ → ℕ → ℕ
then_room before needed room = cond (eqb before 0) (room_refusal needed room) before
