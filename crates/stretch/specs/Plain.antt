-- Plain characters: most of any text. The scanner's ground state appends them as they come, and the check accepts them.
use Rattle.std.specs.Prelude.{ℕ, ◌≡◌, Bool, true, false, List, [], ◌∷◌}
use Rattle.ranges.specs.declared.Range.{Range}
use Rattle.replace.specs.declared.Replaced.TheVariants.{One}
use Rattle.replace.specs.Table.{Span, ◌to◌, one, in_spans}
use Rattle.replace.specs.Replace.{replace_of}
use Rattle.check_char.specs.Check.{reason_of}
use Rattle.stretch.specs.declared.Sought.{Sought}
use Rattle.stretch.specs.Stretch.{in_gap}

-- line ends, whatever the options, the page character and ESC: what the scanner's ground state does not take as another character
-- (document 01, "Pieces of a text")
abbrev pub special : List Span
special = one 0xa ∷ 0xc to 0xd ∷ one 0x1b ∷ one 0x85 ∷ 0x2028 to 0x2029 ∷ []

-- its own replacement with the option on and off, accepted by the check, and no line end, page character or ESC
pub record Plain (c : ℕ) : Type 0 where
  pub same : (units : Bool) → replace_of units c ≡ One c
  pub accepted : reason_of c ≡ 0
  pub other : in_spans special c ≡ false

-- every character of the range is plain, but 149 and 673
abbrev pub Gap : Range → Type 0
Gap r = (c : ℕ) → in_gap r c ≡ true → Plain c

-- tab, newline, 20..7E, and a gap
abbrev pub ascii_or : Range → Sought
ascii_or gap = record { one = record { first = 9; last = 0xa }; two = record { first = 0x20; last = 0x7e }; gap = gap }
