-- What isolation does to any run. Each law is shown of what follows any characters, by whether 34F is put before the next.
--     length_isolate      it needs no more places than `places_for_run` says
--     isolate_puts_in     it puts 34F in, and takes away, changes and moves nothing
--     isolate_chars       of characters it gives characters
--     joiner_assigned     by an accepted page 34F is not one to isolate
--     isolate_guarded     by an accepted page, each unassigned character of the result has 34F before it
--     isolate_of_guarded  a run of which that holds is left as it is
--     isolate_twice       so isolating a second time changes nothing
--     to_isolate_is       which characters are isolated, written out
use Prim.Native.Nat.{ℕ, ◌+◌, ◌*◌, ◌≤◌}
use mathlib.Core.Path.{◌≡◌, refl, sym, ap}
use mathlib.Core.Bool.{Bool, true, false, not, ◌&&◌, ◌||◌, or-true}
use mathlib.Core.List.{List, [], ◌∷◌, ◌++◌}
use native.Mathlib.Omega.{arith}
use lib.Dec.{eqb, leb}
use lib.ListN.{length, length-append}
use Rattle.scalars.specs.Chars.{is_char, are_chars}
use Rattle.common.proofs.Kit.{never, split, both_true, both}
use Rattle.page.specs.Page.{accepted, assigned}
use Rattle.text_utils.proofs.Classes.{private_use_lem}
use Rattle.page.proofs.PageLaws.{facts_of_accepted}
use Rattle.isolate_unassigned.specs.Meaning.{to_isolate, there, got_before, gets_after, joiner, isolated_after, isolated, PutIn, none, kept, put, guarded}
use Rattle.isolate_unassigned.specs.Isolate.{places_for_run}

-- whether 34F is put between `before` and c
abbrev between : List ℕ → List ℕ → ℕ → Bool
between p before c = gets_after p before c || got_before p (c ∷ before)

-- ---- the size
joiner_size : (put : Bool) → length (joiner put) ≤ 1
joiner_size true = omega arith
joiner_size false = omega arith

after_size : (p cs before : List ℕ) → length (isolated_after p before cs) ≤ 2 * length cs + 1
after_size p [] before = omega (arith, joiner_size (got_before p before))
after_size p (c ∷ cs) before =
    let rest = isolated_after p (c ∷ before) cs in
    omega (arith, joiner_size (between p before c), after_size p cs (c ∷ before), length-append (joiner (between p before c)) (c ∷ rest))

pub length_isolate : (p cs : List ℕ) → length (isolated p cs) ≤ places_for_run (length cs)
unfolding isolated
length_isolate p [] = omega arith
length_isolate p (c ∷ cs) = after_size p (c ∷ cs) []

-- ---- what is put in
joiner_put_in : (b : Bool) {cs ds : List ℕ} → PutIn cs ds → PutIn cs (joiner b ++ ds)
joiner_put_in true r = put r
joiner_put_in false r = r

after_put_in : (p cs before : List ℕ) → PutIn cs (isolated_after p before cs)
after_put_in p [] before = split (λ (l : List ℕ). PutIn [] l) (got_before p before) (λ e. put none) (λ e. none)
after_put_in p (c ∷ cs) before = joiner_put_in (between p before c) (kept (after_put_in p cs (c ∷ before)))

pub isolate_puts_in : (p cs : List ℕ) → PutIn cs (isolated p cs)
unfolding isolated
isolate_puts_in p cs = after_put_in p cs []

chars_of_put_in : {cs ds : List ℕ} → PutIn cs ds → are_chars cs ≡ true → are_chars ds ≡ true
unfolding is_char
chars_of_put_in none h = refl
chars_of_put_in (kept {c} {cs} {ds} r) h =
    let q = both_true (is_char c) (are_chars cs) h in
    both q.0 (chars_of_put_in r q.1)
chars_of_put_in (put r) h = both refl (chars_of_put_in r h)

pub isolate_chars : (p cs : List ℕ) → are_chars cs ≡ true → are_chars (isolated p cs) ≡ true
isolate_chars p cs = chars_of_put_in (isolate_puts_in p cs)

-- ---- the result is isolated
pub joiner_assigned : (p : List ℕ) → accepted p ≡ true → to_isolate p 0x34F ≡ false
unfolding to_isolate
joiner_assigned p a = rw (facts_of_accepted p a).assigned_34f

-- a character that gets no 34F before it is assigned or has one
spared : (owed u has : Bool) → owed || (u && not has) ≡ false → not u || has ≡ true
spared true u has h = never (sym h)
spared false true true h = refl
spared false true false h = never (sym h)
spared false false has h = refl

module _ (p : List ℕ) (a : to_isolate p 0x34F ≡ false) where
  joiner_guarded : (has : Bool) (ds : List ℕ) → guarded p true ds ≡ true → guarded p has (0x34F ∷ ds) ≡ true
  joiner_guarded has ds h = rw a h

  after_guarded : (cs before : List ℕ) → guarded p (there before) (isolated_after p before cs) ≡ true
  after_guarded [] before =
      split (λ (l : List ℕ). guarded p (there before) l ≡ true) (got_before p before) (λ e. joiner_guarded _ [] refl) (λ e. refl)
  after_guarded (c ∷ cs) before =
      let ds = isolated_after p (c ∷ before) cs in
      let rest = after_guarded cs (c ∷ before) in
      split (λ (l : List ℕ). guarded p (there before) (l ++ c ∷ ds) ≡ true) (between p before c)
      (λ e. joiner_guarded (there before) (c ∷ ds) (both (or-true (not (to_isolate p c))) rest))
      (λ e. both (spared (gets_after p before c) (to_isolate p c) (there before) e) rest)

pub isolate_guarded : (p cs : List ℕ) → accepted p ≡ true → guarded p false (isolated p cs) ≡ true
unfolding isolated
isolate_guarded p cs a = after_guarded p (joiner_assigned p a) cs []

-- ---- and left as it is
-- nothing is put before a character that is assigned or has 34F before it
not_put : (u has : Bool) → not u || has ≡ true → u && not has ≡ false
not_put true true h = refl
not_put true false h = never h
not_put false has h = refl

after_of_guarded : (p cs before : List ℕ) → got_before p before ≡ false → guarded p (there before) cs ≡ true →
    isolated_after p before cs ≡ cs
after_of_guarded p [] before g h = rw g
after_of_guarded p (c ∷ cs) before g h =
    let q = both_true (not (to_isolate p c) || there before) (guarded p (eqb c 0x34F) cs) h in
    let n = not_put (to_isolate p c) (there before) q.0 in
    rw (g, n) (ap (λ (l : List ℕ). c ∷ l) (after_of_guarded p cs (c ∷ before) n q.1))

pub isolate_of_guarded : (p cs : List ℕ) → guarded p false cs ≡ true → isolated p cs ≡ cs
unfolding isolated
isolate_of_guarded p cs h = after_of_guarded p cs [] refl h

pub isolate_twice : (p cs : List ℕ) → accepted p ≡ true → isolated p (isolated p cs) ≡ isolated p cs
isolate_twice p cs a = isolate_of_guarded p (isolated p cs) (isolate_guarded p cs a)

-- "an unassigned character outside private use gets 34F before it": no other character is spared, by any page
pub to_isolate_is : (p : List ℕ) (c : ℕ) →
    to_isolate p c
    ≡ not (assigned p c || ((leb 0xE000 c && leb c 0xF8FF) || ((leb 0xF0000 c && leb c 0xFFFFD) || (leb 0x100000 c && leb c 0x10FFFD))))
unfolding to_isolate
to_isolate_is p c = rw (private_use_lem c)
