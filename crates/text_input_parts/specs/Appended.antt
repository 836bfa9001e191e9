-- What a step or a finish appends. Document 01, "A chunk comes in" and "A stream finishes".
use Rattle.std.specs.Prelude.{ℕ, Bool, true, false, cond, List, [], ◌∷◌, length, Option, Some, None}
use Rattle.std.proofs.lemmas.List.Edits.{sets}
use Rattle.replace.specs.declared.Replaced.{Replaced}
use Rattle.replace.specs.declared.Replaced.TheVariants.{One, Two, Three}
use Rattle.replace.specs.Replace.{chars}
use Rattle.text_utils.specs.Classes.{basic_text_start, basic_text_end}

-- ---- a step: a lead and an image
-- the lead: no character, or one, which is given for what was pending or is the 34F that guards the image
abbrev pub lead_chars : Option ℕ → List ℕ
lead_chars None = []
lead_chars (Some a) = a ∷ []

-- the image, which the character itself gives: empty, or the characters of a replacement
abbrev pub image_chars : Option Replaced → List ℕ
image_chars None = []
image_chars (Some r) = chars r

-- the last character, after more were appended
abbrev pub last_of : ℕ → List ℕ → ℕ
last_of l [] = l
last_of l (x ∷ w) = last_of x w

abbrev pub first_char : Replaced → ℕ
first_char (One a) = a
first_char (Two a b) = a
first_char (Three a b c) = a

-- "Prepend a CGJ if needed to guard a non-starter": the lead with its image. Where a start is expected there is no lead before it.
abbrev pub guard_of : List ℕ → Option ℕ → Bool → Replaced → Option ℕ
guard_of p lead expect image = cond expect (cond (basic_text_start p (first_char image)) lead (Some 0x34F)) lead

-- ---- a finish: two leads more, behind what was pending
-- "If the last character ever appended is no end, 34F follows."
abbrev pub end_mark_of : ℕ → Option ℕ
end_mark_of last = cond (basic_text_end last) None (Some 0x34F)

-- 0A where it is owed
abbrev pub newline_of : Bool → Option ℕ
newline_of owed = cond owed (Some 0x0A) None

-- ---- stores that are made, or counted alone
-- places with `out` stored from place k on, where it is stored; else as they are
abbrev pub stored_if : Bool → List ℕ → ℕ → List ℕ → List ℕ
stored_if true queue k out = sets queue k out
stored_if false queue k out = queue

-- how many places there are: where nothing is stored, as many as a number of 64 bits counts
abbrev pub limit_of : Bool → List ℕ → ℕ
limit_of true queue = length queue
limit_of false queue = 18446744073709551615
