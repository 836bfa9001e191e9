-- The Rust's steps give what document 01 says. At each place the record says of the characters before it what the document asks: `need_cgj`
-- that the nearest one got 34F before it, and `have_cgj` that it is 34F. 34F is assigned, so both never hold.
--     isolate_means                   by an accepted page, the steps from a new record on give `isolated`
--     gives_out_size, last_owed_size    a step gives at most two, and the end one
use Prim.Native.Nat.{ℕ, ◌≤◌}
use mathlib.Core.Path.{◌≡◌, refl, sym, ap}
use mathlib.Core.Bool.{Bool, true, false, not, ◌&&◌, ◌||◌}
use mathlib.Core.List.{List, [], ◌∷◌}
use native.Mathlib.Omega.{arith}
use lib.Dec.{eqb}
use lib.ListN.{length}
use borrow.Author.Tests.{eqb-true}
use Rattle.common.proofs.Kit.{never, by, split}
use Rattle.page.specs.Page.{accepted}
use Rattle.isolate_unassigned.specs.declared.IsolateUnassigned.{IsolateUnassigned}
use Rattle.isolate_unassigned.specs.declared.Isolated.{Isolated}
use Rattle.isolate_unassigned.specs.declared.Isolated.TheVariants.{One, Two}
use Rattle.isolate_unassigned.specs.Meaning.{to_isolate, there, got_before, gets_after, isolated_after, isolated}
use Rattle.isolate_unassigned.specs.Inner.{isolator_of, fresh, isolate_step_of, gives_out, last_owed, isolated_from}
use Rattle.isolate_unassigned.proofs.Laws.{joiner_assigned}

-- the record after a step that puts 34F before a character is the one that the characters then say. n: the neighbour got 34F before it;
-- j: the character is 34F; u: it is unassigned; t: the neighbour is 34F
put_before : (n j u t : Bool) → (j ≡ true → u ≡ false) → (t ≡ true → n ≡ false) → (n && not j) || (u && not t) ≡ true
    → isolator_of u false ≡ isolator_of (u && not t) j
put_before n true true t f g h = never (sym (f refl))
put_before true true false t f g h = never h
put_before false true false t f g h = never h
put_before true false u true f g h = never (sym (g refl))
put_before false false true true f g h = never h
put_before false false false true f g h = never h
put_before n false true false f g h = refl
put_before n false false false f g h = refl

not_put_before : (o b : Bool) → o || b ≡ false → b ≡ false
not_put_before true b h = never (sym h)
not_put_before false b h = h

module _ (p : List ℕ) (a : to_isolate p 0x34F ≡ false) where
  joiner_not : (c : ℕ) → eqb c 0x34F ≡ true → to_isolate p c ≡ false
  joiner_not c e = rw (eqb-true c 0x34F e) a

  got_none : (before : List ℕ) → there before ≡ true → got_before p before ≡ false
  got_none [] h = refl
  got_none (c ∷ before) h = rw (joiner_not c h)

  means : (cs before : List ℕ) → isolated_from p (isolator_of (got_before p before) (there before)) cs ≡ isolated_after p before cs
  unfolding isolate_step_of
  means [] before = refl
  means (c ∷ cs) before =
      by (gets_after p before c || got_before p (c ∷ before))
      (λ e. rw (e, put_before _ _ _ _ (joiner_not c) (got_none before) e) (ap (λ (l : List ℕ). 0x34F ∷ c ∷ l) (means cs (c ∷ before))))
      (λ e. rw (e, ← not_put_before _ _ e) (ap (λ (l : List ℕ). c ∷ l) (means cs (c ∷ before))))

-- so "an isolator that does nothing" does not pass, nor "putting 34F after each unassigned character"
pub isolate_means : (p cs : List ℕ) → accepted p ≡ true → isolated_from p fresh cs ≡ isolated p cs
unfolding isolated
isolate_means p cs a = means p (joiner_assigned p a) cs []

-- ---- the size of a step
pub gives_out_size : (s : Isolated) → length (gives_out s) ≤ 2
gives_out_size (One c next) = omega arith
gives_out_size (Two j c next) = omega arith

pub last_owed_size : (r : IsolateUnassigned) → length (last_owed r) ≤ 1
last_owed_size r = split (λ (l : List ℕ). length l ≤ 1) r.need_cgj (λ e. omega arith) (λ e. omega arith)
