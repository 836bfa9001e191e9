-- The numbers of a page's text: hexadecimal words with blanks between them, of at most 32 bits, behind a word `P` where there is one.
use Rattle.std.specs.Prelude.{ℕ, ◌+◌, ◌*◌, Bool, true, false, cond, ◌&&◌, ◌||◌, List, [], ◌∷◌, Result, Ok, Err, eqb, leb, ltb, length, get_or, set, drop}
use Rattle.command_bytes.specs.declared.numbers.ParseError.{ParseError}
use Rattle.command_bytes.specs.declared.numbers.ParseError.TheVariants.{NoNumber, Many}
use Rattle.command_bytes.specs.Digits.{digit_of}

-- space, 0A, tab and 0D
abbrev pub is_blank : ℕ → Bool
is_blank b = ((eqb b 32 || eqb b 10) || eqb b 9) || eqb b 13

-- the answer, and the places after
pub record Read : Type 0 where
  pub answer : Result ℕ ParseError
  pub places : List ℕ

abbrev pub read_in : Result ℕ ParseError → List ℕ → Read
read_in answer places = record { answer = answer; places = places }

-- where n words have begun, the last of them goes to place `at` and has this value so far, and is still going on or not
unfoldable pub read_from : (n at value : ℕ) → (inside : Bool) → (places bytes : List ℕ) → Read
read_from n at value inside places [] = record { answer = Ok n; places = places }
read_from n at value inside places (b ∷ bytes) =
    cond (is_blank b) (read_from n at value false places bytes)
    (cond (ltb 15 (digit_of b)) (record { answer = Err NoNumber; places = places })
    (cond (leb (length places) (cond inside at n)) (record { answer = Err Many; places = places })
    (cond (ltb 0x0FFFFFFF (cond inside value 0)) (record { answer = Err NoNumber; places = places })
    (read_from (cond inside n (n + 1)) (cond inside at n) (cond inside value 0 * 16 + digit_of b) true
    (set places (cond inside at n) (cond inside value 0 * 16 + digit_of b)) bytes))))

-- where the numbers begin
unfoldable pub begin_of : List ℕ → ℕ
begin_of bytes = cond (ltb (length bytes) 2) 0 (cond (eqb (get_or bytes 0 0) 80 && is_blank (get_or bytes 1 0)) 1 0)

unfoldable pub numbers_of : (bytes places : List ℕ) → Read
numbers_of bytes places = read_from 0 0 0 false places (drop (begin_of bytes) bytes)
