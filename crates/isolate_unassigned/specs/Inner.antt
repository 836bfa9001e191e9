-- The step of `internals/src/isolate_unassigned.rs` by its two flags, and what the private functions of src/lib.rt that go by stretches
-- answer. No entry's contract cites this file: only inner functions, here and in the writer, go step by step. `isolate_means`
-- (proofs/Means.antt) ties the step to document 01's words, specs/Meaning.antt.
use Rattle.std.specs.Prelude.{ℕ, ◌+◌, ◌≤◌, ◌<◌, Bool, false, not, cond, ◌&&◌, ◌||◌, List, [], ◌∷◌, ◌++◌, ◌≡◌, eqb, length}
use Rattle.std.proofs.lemmas.List.Edits.{sets}
use Rattle.page.specs.Page.{assigned}
use Rattle.page.specs.Inner.{Assigned}
use Rattle.stretch.specs.Stretch.{part}
use Rattle.isolate_unassigned.specs.declared.IsolateUnassigned.{IsolateUnassigned}
use Rattle.isolate_unassigned.specs.declared.Isolated.{Isolated}
use Rattle.isolate_unassigned.specs.declared.Isolated.TheVariants.{One, Two}
use Rattle.isolate_unassigned.specs.declared.Near.{Near}
use Rattle.isolate_unassigned.specs.declared.Moved.{Moved}
use Rattle.isolate_unassigned.specs.Meaning.{to_isolate}

-- ---- the record: `IsolateUnassigned`
-- by its fields `need_cgj` and `have_cgj`
abbrev pub isolator_of : Bool → Bool → IsolateUnassigned
isolator_of need have = record { need_cgj = need; have_cgj = have }

-- `new`
abbrev pub fresh : IsolateUnassigned
fresh = isolator_of false false

-- whether `next` puts 34F before a character c: one is owed and c is none, or c is to be isolated and none stands before it
abbrev pub puts : List ℕ → IsolateUnassigned → ℕ → Bool
puts p r c = (r.need_cgj && not (eqb c 0x34F)) || (to_isolate p c && not r.have_cgj)

-- `next` on a character
unfoldable pub isolate_step_of : List ℕ → IsolateUnassigned → ℕ → Isolated
isolate_step_of p r c = cond (puts p r c) (Two 0x34F c (isolator_of (to_isolate p c) false)) (One c (isolator_of false (eqb c 0x34F)))

-- what a step gives out
abbrev pub gives_out : Isolated → List ℕ
gives_out (One c next) = c ∷ []
gives_out (Two j c next) = j ∷ c ∷ []

-- the record after it
abbrev pub after : Isolated → IsolateUnassigned
after (One c next) = next
after (Two j c next) = next

-- `next` with no character: the 34F that is owed
abbrev pub last_owed : IsolateUnassigned → List ℕ
last_owed r = cond r.need_cgj (0x34F ∷ []) []

-- ---- a run
-- what the iterator gives for the characters cs, from a record on
abbrev pub isolated_from : List ℕ → IsolateUnassigned → List ℕ → List ℕ
isolated_from p r [] = last_owed r
isolated_from p r (c ∷ cs) = gives_out (isolate_step_of p r c) ++ isolated_from p (after (isolate_step_of p r c)) cs

-- what is given out for characters, without what is owed at the end of a run; and the record after them
abbrev pub gives : List ℕ → IsolateUnassigned → List ℕ → List ℕ
gives p r [] = []
gives p r (c ∷ cs) = gives_out (isolate_step_of p r c) ++ gives p (after (isolate_step_of p r c)) cs

abbrev pub leads : List ℕ → IsolateUnassigned → List ℕ → IsolateUnassigned
leads p r [] = r
leads p r (c ∷ cs) = leads p (after (isolate_step_of p r c)) cs

-- ---- by stretches
-- what `nearer` answers: a range of assigned characters, and whether c is one
pub record Nearer (p : List ℕ) (c : ℕ) (n : Near) : Type 0 where
  pub members : Assigned p n.range
  pub tells : n.found ≡ assigned p c

-- the run is taken from place i up to a later one, and what is given out for its characters is stored from place k on
pub record Moves (p : List ℕ) (r : IsolateUnassigned) (cs : List ℕ) (i : ℕ) (out : List ℕ) (k : ℕ) (m : Moved) (after : List ℕ) : Type 0 where
  pub on : i < m.at
  pub under : m.at ≤ length cs
  pub written : m.written ≡ k + length (gives p r (part i m.at cs))
  pub next : m.next ≡ leads p r (part i m.at cs)
  pub places : after ≡ sets out k (gives p r (part i m.at cs))
  pub near : Assigned p m.near
