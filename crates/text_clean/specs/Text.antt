-- The characters of a text through the cleaner, one after the other: what each appends by the scanner's step (`text_input`,
-- specs/Step.antt), and what is counted of it. Where each line is a text of its own, 0A ends one and begins the next.
use Rattle.std.specs.Prelude.{ℕ, ◌+◌, Bool, true, false, cond, not, ◌&&◌, ◌||◌, List, [], ◌∷◌, ◌++◌, eqb}
use Rattle.text_input.specs.declared.State.{State}
use Rattle.text_input.specs.declared.State.TheVariants.{Ground, Cr, Ff, Esc, CsiStart, Csi, Osc, Linux}
use Rattle.text_input.specs.declared.Options.{Options}
use Rattle.text_input.specs.declared.TextInput.{TextInput}
use Rattle.text_input.specs.declared.step.Left.{Left}
use Rattle.text_input.specs.declared.step.Left.TheVariants.{Part, Newline, Goes, Ends, After, Dropped}
use Rattle.text_input.specs.Sets.{optional_line}
use Rattle.text_input.specs.Step.{scan_step_of, out_chars, leave_of}
use Rattle.text_input.specs.Scan.{fresh, finish_chars, finish_next}
use Rattle.text_clean.specs.declared.text.Text.{Text}

-- 1 for yes
abbrev pub bit : Bool → ℕ
bit b = cond b 1 0

-- ---- the text
-- before its first character
abbrev pub fresh_text : Text
fresh_text = record { input = fresh; cr = false }

-- once a character has come: a later U+FEFF is not dropped
abbrev pub begun : TextInput → TextInput
begun r =
    record { state = r.state; expect_starter = r.expect_starter; at_start = false; last = r.last; count = r.count }

-- ---- escapes
-- what is pending is an escape
abbrev pub escaping : State → Bool
escaping (Ground b) = false
escaping Cr = false
escaping Ff = false
escaping Esc = true
escaping CsiStart = true
escaping Csi = true
escaping Osc = true
escaping Linux = true

-- the character goes on with what is pending
abbrev pub goes_on : Left → Bool
goes_on (Part s) = true
goes_on Newline = false
goes_on Goes = false
goes_on Ends = false
goes_on (After a) = false
goes_on Dropped = false

-- c, met in the state s, is part of an escape: it begins one, or goes on with one
unfoldable pub in_escape : State → ℕ → Bool
in_escape s c = eqb c 0x1B || (escaping s && goes_on (leave_of s c))

-- ---- line ends that are lost
-- A line end is 0D 0A, 0D, 0A; with its option 85, or 2028 and 2029. One is lost where an escape takes its last character. So a 0D that
-- an escape takes is lost by itself unless 0A follows, which only the next character tells. With `lines` no 0A is lost, since it ends
-- its line all the same.
-- by a 0D before c that an escape took
abbrev pub lost_before : Bool → ℕ → ℕ
lost_before cr c = bit (cr && not (eqb c 0x0A))

-- c ends a line by itself, and an escape that takes it loses this line end
abbrev pub losable : Options → Bool → ℕ → Bool
losable o lines c = (eqb c 0x0A && not lines) || optional_line o c

-- ---- one character
-- what characters come to: the characters that they append, the text after them, how many of them are dropped (those of escapes, and a
-- leading U+FEFF), and the line ends that are lost
pub record Passed : Type 0 where
  pub out : List ℕ
  pub next : Text
  pub dropped : ℕ
  pub lost : ℕ

-- a leading U+FEFF
abbrev pub mark_of : Text → ℕ → Passed
mark_of t c =
    record { out = []; next = record { input = begun t.input; cr = false }; dropped = 1; lost = lost_before t.cr c }

-- any other
abbrev pub stepped_of : List ℕ → Options → Bool → Text → ℕ → Passed
stepped_of p o lines t c =
    record {
      out = out_chars (scan_step_of p o (begun t.input) c);
      next = record { input = (scan_step_of p o (begun t.input) c).next; cr = in_escape t.input.state c && eqb c 0x0D };
      dropped = bit (in_escape t.input.state c);
      lost = lost_before t.cr c + bit (in_escape t.input.state c && losable o lines c);
    }

-- 0A, where each line is a text of its own: the text ends with it, as end of file, and the next begins
abbrev pub line_of : Passed → Passed
line_of x =
    record { out = x.out ++ finish_chars x.next.input true; next = fresh_text; dropped = x.dropped; lost = x.lost }

unfoldable pub take_of : List ℕ → Options → Bool → Text → ℕ → Passed
take_of p o lines t c =
    cond (t.input.at_start && eqb c 0xFEFF) (mark_of t c)
    (cond (lines && eqb c 0x0A) (line_of (stepped_of p o lines t c)) (stepped_of p o lines t c))

-- ---- a run of characters
-- one run, and another from the text after it
abbrev pub joined : Passed → Passed → Passed
joined a b =
    record { out = a.out ++ b.out; next = b.next; dropped = a.dropped + b.dropped; lost = a.lost + b.lost }

abbrev pub passed_of : List ℕ → Options → Bool → Text → List ℕ → Passed
passed_of p o lines t [] = record { out = []; next = t; dropped = 0; lost = 0 }
passed_of p o lines t (c ∷ cs) = joined (take_of p o lines t c) (passed_of p o lines (take_of p o lines t c).next cs)

-- ---- its end, as end of file or as a push: `finish` of the scanner. A 0D that an escape took last is a line end lost.
abbrev pub closed_of : Text → Bool → Passed
closed_of t eof =
    record { out = finish_chars t.input eof; next = record { input = finish_next t.input eof; cr = false }; dropped = 0; lost = bit t.cr }
