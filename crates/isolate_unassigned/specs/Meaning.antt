-- Isolation in the words of document 01, "Leaves", first item, and the relation by which a run goes into its result. 34F is CGJ.
-- A place of a run is known by the characters before it, the nearest first. Nothing here is taken from the step of the Rust, which is
-- in specs/Inner.antt.
use Rattle.std.specs.Prelude.{Bool, true, false, not, cond, ◌&&◌, ◌||◌, List, [], ◌∷◌, ◌++◌, ℕ, eqb}
use Rattle.page.specs.Page.{assigned}
use Rattle.text_utils.specs.Classes.{is_private_use}

-- "`IsolateUnassigned`: an unassigned character outside private use"
unfoldable pub to_isolate : List ℕ → ℕ → Bool
to_isolate p c = not (assigned p c || is_private_use c)

-- "one is there": the nearest character of the run is 34F
abbrev pub there : List ℕ → Bool
there [] = false
there (c ∷ before) = eqb c 0x34F

-- "an unassigned character outside private use gets 34F before it unless one is there": whether the nearest character got one
abbrev pub got_before : List ℕ → List ℕ → Bool
got_before p [] = false
got_before p (c ∷ before) = to_isolate p c && not (there before)

-- "and 34F after it only if one was put before": whether one is put after the nearest character, where c follows; none is where c
-- is 34F, which serves
abbrev pub gets_after : List ℕ → List ℕ → ℕ → Bool
gets_after p before c = got_before p before && not (eqb c 0x34F)

-- 34F if one is put
abbrev pub joiner : Bool → List ℕ
joiner put = cond put (0x34F ∷ []) []

-- the characters cs that follow `before`, each with what is put between it and its neighbour; last what is put behind them all.
-- "Between two neighbours of this kind one put 34F serves as after and as before": what is put between two is put once
abbrev pub isolated_after : List ℕ → List ℕ → List ℕ → List ℕ
isolated_after p before [] = joiner (got_before p before)
isolated_after p before (c ∷ cs) =
    joiner (gets_after p before c || got_before p (c ∷ before)) ++ c ∷ isolated_after p (c ∷ before) cs

-- the run cs, isolated by the page p
unfoldable pub isolated : List ℕ → List ℕ → List ℕ
isolated p cs = isolated_after p [] cs

-- ds is the run cs with 34F put in here and there: nothing is taken away, changed or moved
pub data PutIn : List ℕ → List ℕ → Type 0 where
  none : PutIn [] []
  kept : {c : ℕ} {cs ds : List ℕ} → PutIn cs ds → PutIn (c ∷ cs) (c ∷ ds)
  put : {cs ds : List ℕ} → PutIn cs ds → PutIn cs (0x34F ∷ ds)

-- each unassigned character outside private use of cs has 34F right before it. `has`: whether 34F stands right before cs
abbrev pub guarded : List ℕ → Bool → List ℕ → Bool
guarded p has [] = true
guarded p has (c ∷ cs) = (not (to_isolate p c) || has) && guarded p (eqb c 0x34F) cs
