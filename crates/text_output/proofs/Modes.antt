-- A queue of writable characters that begins with a start and ends with 0A passes a fresh color writer as it passes a plain one, and a
-- fresh CRLF writer with each part between 0A isolated alone. Idea: every part is stepped from after a newline, and the last part of
-- such a queue is empty, so the writer is after a newline again.
--     passes_color    such a queue passes a color writer
--     passes_crlf     .. a CRLF writer
use Prim.Native.Nat.{ℕ, ◌+◌, ◌*◌, ◌≤◌}
use mathlib.Core.Bool.{Bool, true, false, ◌&&◌, and-true, and-false}
use mathlib.Core.List.{List, [], ◌∷◌, ◌++◌, map}
use mathlib.Core.Path.{◌≡◌, refl}
use native.Mathlib.Omega.{arith}
use lib.Dec.{eqb}
use lib.ListN.{length, length-append}
use Rattle.scalars.specs.Chars.{are_chars}
use Rattle.common.proofs.Kit.{never, by, both_true, both}
use Rattle.page.specs.Page.{accepted}
use Rattle.text_utils.specs.Classes.{basic_text_start, starter}
use Rattle.text_utils.proofs.Classes.{start_low}
use Rattle.check_char.specs.Check.{all}
use Rattle.isolate_unassigned.specs.Meaning.{isolated}
use Rattle.text_output.specs.declared.Ground.TheVariants.{Newline}
use Rattle.text_output.specs.declared.State.TheVariants.{Ground as Grounded}
use Rattle.text_output.specs.declared.Mode.TheVariants.{Crlf, Color}
use Rattle.text_output.specs.Writer.{Machine, fresh_machine, on_ground}
use Rattle.text_output.specs.Step.{goes}
use Rattle.text_output.specs.Write.{parts, more_parts, parts_of}
use Rattle.text_output.specs.Passing.{PassesIn, joined_by_crlf, crlf_of}
use Rattle.text_output.proofs.Writable.{writable, isolated_goes}
use Rattle.text_output.proofs.Passing.{starts_well, ends_well, starts_isolated, isolated_fits, passes_by, passes_as_one}

-- ---- color
pub passes_color : (p : List ℕ) → accepted p ≡ true → (q : List ℕ) →
    are_chars q ≡ true → all writable q ≡ true → starts_well p q ≡ true → ends_well true q ≡ true → PassesIn Color p q (isolated p q)
passes_color p a q c f s l = passes_as_one Color p a q c f s l refl

-- ---- the parts of a queue
-- the queue q has the first part `part` and behind it the parts `rest`
data Parted : List ℕ → List ℕ → List (List ℕ) → Type 0 where
  none : Parted [] [] []
  line : {c : ℕ} {q part : List ℕ} {rest : List (List ℕ)} → eqb c 0x0A ≡ true → Parted q part rest → Parted (c ∷ q) [] (part ∷ rest)
  more : {c : ℕ} {q part : List ℕ} {rest : List (List ℕ)} → eqb c 0x0A ≡ false → Parted q part rest → Parted (c ∷ q) (c ∷ part) rest

-- the first part of a queue and those behind it
record Split (q : List ℕ) : Type 0 where
  first : List ℕ
  rest : List (List ℕ)
  is : parts q ≡ first ∷ rest
  parted : Parted q first rest

-- every queue has them
split_parts : (q : List ℕ) → Split q
unfolding parts
split_parts [] = record { first = []; rest = []; is = refl; parted = none }
split_parts (c ∷ q) =
    let s = split_parts q in
    by (eqb c 0x0A) (λ e. record { first = []; rest = s.first ∷ s.rest; is = rw (e, s.is); parted = line e s.parted })
    (λ e. record { first = c ∷ s.first; rest = s.rest; is = rw (e, s.is); parted = more e s.parted })

-- each part's characters pass a test
abbrev all_parts : (ℕ → Bool) → List (List ℕ) → Bool
all_parts f [] = true
all_parts f (part ∷ rest) = all f part && all_parts f rest

-- what holds of each character of the queue holds of each of its parts
parts_pass : (f : ℕ → Bool) {q part : List ℕ} {rest : List (List ℕ)} → Parted q part rest → all f q ≡ true →
    (all f part ≡ true) × (all_parts f rest ≡ true)
parts_pass f none h = (refl, refl)
parts_pass f (line {c} {q} e r) h = let k = parts_pass f r (both_true (f c) (all f q) h).1 in (refl, both k.0 k.1)
parts_pass f (more {c} {q} e r) h =
    let g = both_true (f c) (all f q) h in let k = parts_pass f r g.1 in (both g.0 k.0, k.1)

-- a part without characters
abbrev empty : List ℕ → Bool
empty [] = true
empty (c ∷ cs) = false

-- the last part is empty; b where there is none
abbrev last_empty : Bool → List (List ℕ) → Bool
last_empty b [] = b
last_empty b (part ∷ rest) = last_empty (empty part) rest

-- the queue ends with 0A where the last part is empty
ends_empty : {q part : List ℕ} {rest : List (List ℕ)} → Parted q part rest → (b : Bool) →
    ends_well b q ≡ last_empty (b && empty part) rest
ends_empty none b = simp and-true
ends_empty (line e r) b = rw e (ends_empty r true)
ends_empty (more e r) b = rw (e, and-false) (ends_empty r false)

-- where the queue starts well, its first part does
first_starts : (p : List ℕ) {q part : List ℕ} {rest : List (List ℕ)} → Parted q part rest → starts_well p q ≡ true →
    starts_well p part ≡ true
first_starts p none h = refl
first_starts p (line e r) h = refl
first_starts p (more e r) h = h

-- the length of the parts behind the first, with 0A before each
abbrev length_behind : List (List ℕ) → ℕ
length_behind [] = 0
length_behind (part ∷ rest) = 1 + length part + length_behind rest

-- with it the first part is as long as the queue
length_parts : {q part : List ℕ} {rest : List (List ℕ)} → Parted q part rest → length part + length_behind rest ≡ length q
length_parts none = refl
length_parts (line e r) = omega (arith, length_parts r)
length_parts (more e r) = omega (arith, length_parts r)

-- ---- what goes out
-- parts isolated, each alone, and joined
abbrev lines_of : List ℕ → List (List ℕ) → List ℕ
lines_of p ps = joined_by_crlf (map (isolated p) ps)

module _ (p : List ℕ) where
  -- each part isolated takes three times its length at most, and 0D 0A less than 0A has room for
  parts_fit : (part : List ℕ) (rest : List (List ℕ)) →
      length (lines_of p (part ∷ rest)) ≤ 3 * (length part + length_behind rest)
  parts_fit part [] = omega (arith, isolated_fits p part)
  parts_fit part (next ∷ rest) =
      omega (
        arith,
        isolated_fits p part,
        parts_fit next rest,
        length-append (isolated p part) (0x0D ∷ 0x0A ∷ lines_of p (next ∷ rest)),
      )

  -- two lists that start well joined
  starts_append : (v w : List ℕ) → starts_well p v ≡ true → starts_well p w ≡ true → starts_well p (v ++ w) ≡ true
  starts_append [] w h g = g
  starts_append (x ∷ v) w h g = h

  -- 0D is a start, as every ASCII character is
  start_return : basic_text_start p 0x0D ≡ true
  unfolding starter
  start_return = start_low p 0x0D (omega arith)

  -- parts whose first starts well start well isolated
  parts_start : accepted p ≡ true → (part : List ℕ) (rest : List (List ℕ)) → starts_well p part ≡ true →
      starts_well p (lines_of p (part ∷ rest)) ≡ true
  parts_start a part [] s = starts_isolated p a part s
  parts_start a part (next ∷ rest) s = starts_append (isolated p part) _ (starts_isolated p a part s) start_return

  -- from after a newline, the steps of parts of writable characters lead there again where the last part is empty
  parts_go : (part : List ℕ) (rest : List (List ℕ)) (m : Machine) → m.state ≡ Grounded Newline → m.held ≡ 0 →
      all writable part ≡ true → all_parts writable rest ≡ true → last_empty (empty part) rest ≡ true →
      parts_of Crlf p m (part ∷ rest) ≡ goes (lines_of p (part ∷ rest)) (on_ground m Newline)
  unfolding more_parts isolated
  parts_go [] [] m s n f g l = rw (isolated_goes Crlf p [] m Newline s n f)
  parts_go (c ∷ part) [] m s n f g l = never l
  parts_go part (next ∷ rest) m s n f g l =
      let k = both_true (all writable next) (all_parts writable rest) g in
      rw (isolated_goes Crlf p part m Newline s n f, parts_go next rest (on_ground m Newline) refl refl k.0 k.1 l)

-- ---- CRLF
pub passes_crlf : (p : List ℕ) → accepted p ≡ true → (q : List ℕ) →
    are_chars q ≡ true → all writable q ≡ true → starts_well p q ≡ true → ends_well true q ≡ true → PassesIn Crlf p q (crlf_of p q)
passes_crlf p a q c f s l =
    let d = split_parts q in
    let k = parts_pass writable d.parted f in
    rw d.is
    (passes_by Crlf p q (lines_of p (d.first ∷ d.rest)) a c
    (parts_start p a d.first d.rest (first_starts p d.parted s))
    (omega (arith, parts_fit p d.first d.rest, length_parts d.parted))
    (rw d.is (parts_go p d.first d.rest fresh_machine refl refl k.0 k.1 (rw (ends_empty d.parted true) at l))))
