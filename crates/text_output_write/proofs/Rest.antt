-- A write is the same character by character. Idea: a step looks at the error at 1A alone, and there it ends, so the first error of a
-- run is that of the character at hand. By an accepted page the isolator's steps give the run isolated.
--     rest_of                          what is left of a write, where the isolator stands at a record
--     and_then_assoc, and_then_alike    steps behind steps behind steps; behind the same steps
--     steps_append                    the steps of two runs, one behind the other
--     steps_joiner                    34F, put or not, looks at no error
--     run_rest                        by an accepted page, a write of characters is what is left of it at its start
use Prim.Native.Nat.{ℕ}
use mathlib.Core.Path.{◌≡◌, refl, sym, ◌∙◌, ap}
use mathlib.Core.Bool.{Bool, true, false}
use mathlib.Core.List.{List, [], ◌∷◌, ◌++◌, map, append_assoc, append-nil}
use native.Mathlib.Omega.{arith}
use lib.Dec.{eqb}
use borrow.Author.Tests.{eqb-true, ne_eqb}
use Rattle.common.proofs.Kit.{by}
use Rattle.page.specs.Page.{accepted}
use Rattle.check_char.specs.Check.{reason_of, check_numbers}
use Rattle.check_char.proofs.Clean.{refused_substitute}
use Rattle.isolate_unassigned.specs.declared.IsolateUnassigned.{IsolateUnassigned}
use Rattle.isolate_unassigned.specs.Meaning.{joiner}
use Rattle.isolate_unassigned.specs.Inner.{fresh, puts, isolate_step_of, gives_out, after, last_owed, isolated_from}
use Rattle.isolate_unassigned.proofs.Means.{isolate_means}
use Rattle.text_output.specs.declared.Mode.{Mode}
use Rattle.text_output.specs.declared.Mode.TheVariants.{Plain, Crlf, Color}
use Rattle.text_output.specs.Writer.{Machine}
use Rattle.text_output.specs.Step.{Stepped, goes, stops, behind, and_then, write_step_of, steps_of}
use Rattle.text_output.specs.Write.{checked, first_error, run_of, parts, put_crlf, more_parts, parts_of, run_in}
use Rattle.text_output_write.specs.Inner.{is_crlf, turn_of, isolator_after}
use Rattle.text_output_write.proofs.Asked.{step_asked, refused_stops}

-- what is left of a write
unfoldable pub rest_of : Mode → List ℕ → Machine → IsolateUnassigned → List ℕ → Stepped
rest_of mode p m r [] = steps_of mode m [] (last_owed r)
rest_of mode p m r (c ∷ cs) =
    and_then (turn_of mode p m r c) (λ next. rest_of mode p next (isolator_after mode p r c) cs)

-- ---- steps behind steps
behind_behind : (xs ys : List ℕ) (s : Stepped) → behind (xs ++ ys) s ≡ behind xs (behind ys s)
behind_behind xs ys (goes zs m) = ap (λ (l : List ℕ). goes l m) (append_assoc xs ys zs)
behind_behind xs ys (stops zs m n) = ap (λ (l : List ℕ). stops l m n) (append_assoc xs ys zs)

behind_then : (xs : List ℕ) (s : Stepped) (more : Machine → Stepped) → and_then (behind xs s) more ≡ behind xs (and_then s more)
behind_then xs (goes ys m) more = behind_behind xs ys (more m)
behind_then xs (stops ys m n) more = refl

pub and_then_assoc : (s : Stepped) (f g : Machine → Stepped) → and_then (and_then s f) g ≡ and_then s (λ m. and_then (f m) g)
and_then_assoc (goes xs m) f g = behind_then xs (f m) g
and_then_assoc (stops xs m n) f g = refl

pub and_then_alike : (s : Stepped) (f g : Machine → Stepped) → ((m : Machine) → f m ≡ g m) → and_then s f ≡ and_then s g
and_then_alike (goes xs m) f g e = ap (behind xs) (e m)
and_then_alike (stops xs m n) f g e = refl

behind_none : (s : Stepped) → behind [] s ≡ s
behind_none (goes xs m) = refl
behind_none (stops xs m n) = refl

pub and_then_none : (s : Stepped) → and_then s (λ m. goes [] m) ≡ s
and_then_none (goes xs m) = ap (λ (l : List ℕ). goes l m) (append-nil xs)
and_then_none (stops xs m n) = refl

-- an accepted character is no 1A
pub accepted_no_sub : (c : ℕ) → reason_of c ≡ 0 → eqb c 0x1A ≡ false
accepted_no_sub c r = ne_eqb c 0x1A (λ e. omega (arith, refused_substitute, rw e at r))

-- what the isolator gives: 34F or none, and the character
pub given_joined : (p : List ℕ) (r : IsolateUnassigned) (c : ℕ) → gives_out (isolate_step_of p r c) ≡ joiner (puts p r c) ++ c ∷ []
unfolding isolate_step_of
given_joined p r c = by (puts p r c) (λ e. rw e) (λ e. rw e)

module _ (mode : Mode) where
  pub steps_append : (xs ys : List ℕ) (m : Machine) (error : List ℕ) →
      steps_of mode m error (xs ++ ys) ≡ and_then (steps_of mode m error xs) (λ next. steps_of mode next error ys)
  unfolding steps_of
  steps_append [] ys m error = sym (behind_none (steps_of mode m error ys))
  steps_append (x ∷ xs) ys m error =
      and_then_alike (write_step_of mode m error x) _ _ (λ next. steps_append xs ys next error)
      ∙ sym (and_then_assoc (write_step_of mode m error x) (λ next. steps_of mode next error xs) (λ next. steps_of mode next error ys))

  -- ---- what a step looks at
  -- a character that is no 1A looks at no error
  pub step_error : (m : Machine) (e f : List ℕ) (c : ℕ) → eqb c 0x1A ≡ false → write_step_of mode m e c ≡ write_step_of mode m f c
  step_error m e f c n = step_asked mode m e c n _ refl ∙ sym (step_asked mode m f c n _ refl)

  pub steps_one : (m : Machine) (error : List ℕ) (c : ℕ) → steps_of mode m error (c ∷ []) ≡ write_step_of mode m error c
  unfolding steps_of
  steps_one m error c = and_then_none (write_step_of mode m error c)

  pub steps_joiner : (put : Bool) (m : Machine) (error : List ℕ) → steps_of mode m error (joiner put) ≡ steps_of mode m [] (joiner put)
  unfolding steps_of
  steps_joiner true m error = rw (step_error m error [] 0x34F refl)
  steps_joiner false m error = refl

  -- 34F, put or not, and then a character
  pub steps_joined : (put : Bool) (m : Machine) (error : List ℕ) (c : ℕ) →
      steps_of mode m error (joiner put ++ c ∷ []) ≡ and_then (steps_of mode m [] (joiner put)) (λ next. write_step_of mode next error c)
  steps_joined put m error c =
      rw (steps_append (joiner put) (c ∷ []) m error, steps_joiner put m error)
      (and_then_alike (steps_of mode m [] (joiner put)) _ _ (λ next. steps_one next error c))

  -- ---- a run, with the first error
  -- what is left of a run from the isolator's record on
  abbrev left : List ℕ → Machine → IsolateUnassigned → List ℕ → Stepped
  left p m r cs = steps_of mode m (first_error cs) (isolated_from p r (map checked cs))

  -- the steps of an accepted character look at no error
  turn_accepted : (p : List ℕ) (m : Machine) (r : IsolateUnassigned) (c : ℕ) (e f : List ℕ) → reason_of c ≡ 0 →
      steps_of mode m e (gives_out (isolate_step_of p r c)) ≡ steps_of mode m f (gives_out (isolate_step_of p r c))
  turn_accepted p m r c e f h =
      let n = accepted_no_sub c h in
      rw (given_joined p r c, steps_joined (puts p r c) m e c, steps_joined (puts p r c) m f c)
      (and_then_alike (steps_of mode m [] (joiner (puts p r c))) _ _ (λ next. step_error next e f c n))

  -- nothing comes behind a refused character
  turn_refused : (p : List ℕ) (m : Machine) (r : IsolateUnassigned) (error : List ℕ) (more : Machine → Stepped) →
      and_then (steps_of mode m error (gives_out (isolate_step_of p r 0x1A))) more ≡ steps_of mode m error (gives_out (isolate_step_of p r 0x1A))
  turn_refused p m r error more =
      let put = puts p r 0x1A in
      let first = steps_of mode m [] (joiner put) in
      rw (given_joined p r 0x1A, steps_joined put m error 0x1A)
      (and_then_assoc first (λ next. write_step_of mode next error 0x1A) more
      ∙ and_then_alike first _ _ (λ next. rw (refused_stops mode next error) refl))

  -- one character of a run
  one_turn : (p : List ℕ) (m : Machine) (r : IsolateUnassigned) (c : ℕ) (cs : List ℕ) →
      left p m r (c ∷ cs)
      ≡ and_then (steps_of mode m (check_numbers c) (gives_out (isolate_step_of p r (checked c)))) (λ next. left p next (after (isolate_step_of p r (checked c))) cs)
  one_turn p m r c cs =
      by (eqb (reason_of c) 0)
      (λ e.
      let s = isolate_step_of p r c in
      rw (e, steps_append (gives_out s) (isolated_from p (after s) (map checked cs)) m (first_error cs), turn_accepted p m r c (first_error cs) (check_numbers c) (eqb-true _ _ e)))
      (λ e.
      let s = isolate_step_of p r 0x1A in
      rw (e, steps_append (gives_out s) (isolated_from p (after s) (map checked cs)) m (check_numbers c))
      (turn_refused p m r (check_numbers c) _ ∙ sym (turn_refused p m r (check_numbers c) _)))

  -- ---- a write
  -- in one run
  left_rest : is_crlf mode ≡ false → (p cs : List ℕ) (m : Machine) (r : IsolateUnassigned) → left p m r cs ≡ rest_of mode p m r cs
  unfolding rest_of turn_of isolator_after
  left_rest h p [] m r = refl
  left_rest h p (c ∷ cs) m r =
      rw h
      (one_turn p m r c cs
      ∙ and_then_alike (steps_of mode m (check_numbers c) (gives_out (isolate_step_of p r (checked c)))) _ _ (λ next. left_rest h p cs next (after (isolate_step_of p r (checked c)))))

-- part by part, the first of them from the isolator's record on
abbrev parts_left : List ℕ → Machine → IsolateUnassigned → List (List ℕ) → Stepped
parts_left p m r [] = goes [] m
parts_left p m r (part ∷ rest) = and_then (left Crlf p m r part) (λ next. more_parts Crlf p next rest)

-- a text has a first part
record Split (ps : List (List ℕ)) : Type 0 where
  first : List ℕ
  rest : List (List ℕ)
  is : ps ≡ first ∷ rest

parts_split : (cs : List ℕ) → Split (parts cs)
unfolding parts
parts_split [] = record { first = []; rest = []; is = refl }
parts_split (c ∷ cs) =
    by (eqb c 0x0A)
    (λ e. record { first = []; rest = parts cs; is = rw e })
    (λ e. let s = parts_split cs in record { first = c ∷ s.first; rest = s.rest; is = rw (e, s.is) })

-- a run isolated is what is left of it at its start
run_left : (mode : Mode) (p : List ℕ) → accepted p ≡ true → (cs : List ℕ) (m : Machine) → run_of mode p m cs ≡ left mode p m fresh cs
unfolding run_of
run_left mode p a cs m = rw (← isolate_means p (map checked cs) a) refl

first_left : (p : List ℕ) → accepted p ≡ true → (part : List ℕ) (rest : List (List ℕ)) (m : Machine) →
    parts_of Crlf p m (part ∷ rest) ≡ parts_left p m fresh (part ∷ rest)
first_left p a part rest m = rw (run_left Crlf p a part m) refl

more_first : (p : List ℕ) → accepted p ≡ true → (m : Machine) (ps : List (List ℕ)) → Split ps →
    more_parts Crlf p m ps ≡ and_then (put_crlf m) (λ next. parts_left p next fresh ps)
unfolding more_parts
more_first p a m ps s =
    rw s.is
    (and_then_alike (put_crlf m) (λ next. parts_of Crlf p next (s.first ∷ s.rest)) (λ next. parts_left p next fresh (s.first ∷ s.rest))
    (λ next. first_left p a s.first s.rest next))

parts_rest : (p : List ℕ) → accepted p ≡ true → (cs : List ℕ) (m : Machine) (r : IsolateUnassigned) →
    parts_left p m r (parts cs) ≡ rest_of Crlf p m r cs
unfolding rest_of turn_of isolator_after parts more_parts
parts_rest p a [] m r = and_then_none (steps_of Crlf m [] (last_owed r))
parts_rest p a (c ∷ cs) m r =
    let s = parts_split cs in
    by (eqb c 0x0A)
    (λ e.
    let owed = steps_of Crlf m [] (last_owed r) in
    rw e
    (and_then_alike owed _ _ (λ next. more_first p a next (parts cs) s)
    ∙ sym (and_then_assoc owed put_crlf (λ next. parts_left p next fresh (parts cs)))
    ∙ and_then_alike (and_then owed put_crlf) _ _ (λ next. parts_rest p a cs next fresh)))
    (λ e.
    let turn = steps_of Crlf m (check_numbers c) (gives_out (isolate_step_of p r (checked c))) in
    let r' = after (isolate_step_of p r (checked c)) in
    rw (e, s.is, one_turn Crlf p m r c s.first)
    (and_then_assoc turn (λ next. left Crlf p next r' s.first) (λ next. more_parts Crlf p next s.rest)
    ∙ and_then_alike turn _ _ (λ next. rw s.is at (parts_rest p a cs next r'))))

parts_from : (p : List ℕ) → accepted p ≡ true → (m : Machine) (ps : List (List ℕ)) → Split ps → parts_of Crlf p m ps ≡ parts_left p m fresh ps
parts_from p a m ps s = rw s.is (first_left p a s.first s.rest m)

pub run_rest : (mode : Mode) (p : List ℕ) → accepted p ≡ true → (m : Machine) (cs : List ℕ) → run_in mode p m cs ≡ rest_of mode p m fresh cs
run_rest Plain p a m cs = run_left Plain p a cs m ∙ left_rest Plain refl p cs m fresh
run_rest Crlf p a m cs = parts_from p a m (parts cs) (parts_split cs) ∙ parts_rest p a cs m fresh
run_rest Color p a m cs = run_left Color p a cs m ∙ left_rest Color refl p cs m fresh
