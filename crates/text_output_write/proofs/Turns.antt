-- What the functions of one turn store, arm by arm.
--     joined, not_joined          34F put, and none
--     stop_stored                 1A stops for the reason that the record keeps
--     Passed, char_passed         the answer of `Categorize` on a character that the check accepts
--     Stopping, sub-stops         and on a refused one
--     turn_end, after_end         a turn at 0A that ends a part
--     turn_passed, turn_refused, after_on    a turn at any other character: one that the check accepts, a refused one, and the isolator after
use Prim.Native.Nat.{ℕ}
use mathlib.Core.Path.{◌≡◌, refl, sym, ◌∙◌, ap}
use mathlib.Core.Bool.{Bool, true, false, ◌&&◌}
use mathlib.Core.List.{List, [], ◌∷◌, ◌++◌}
use native.Mathlib.Nat.{add-zero}
use native.Mathlib.Omega.{arith}
use lib.Dec.{eqb}
use lib.ListN.{drop, get_or}
use borrow.Author.Tests.{eqb-true, eq-eqb}
use Rattle.common.proofs.Kit.{never, by}
use Rattle.check_char.specs.declared.Categorize.{Categorize}
use Rattle.check_char.specs.declared.Categorized.{Categorized}
use Rattle.check_char.specs.declared.Categorized.TheVariants.{Char, Sub}
use Rattle.check_char.specs.Check.{reason_of, reason_numbers, check_numbers, unrefused, categorized_numbers, categorize_of}
use Rattle.isolate_unassigned.specs.declared.IsolateUnassigned.{IsolateUnassigned}
use Rattle.isolate_unassigned.specs.Inner.{fresh, puts, isolate_step_of, after}
use Rattle.isolate_unassigned.specs.Meaning.{joiner}
use Rattle.text_output.specs.declared.Mode.{Mode}
use Rattle.text_output_write.specs.declared.store.Place.{Place}
use Rattle.text_output_write.specs.declared.store.Stop.{Stop}
use Rattle.text_output.specs.Writer.{Machine}
use Rattle.text_output.specs.Step.{and_then, refused_in, write_step_of, steps_of}
use Rattle.text_output.specs.Write.{checked, put_crlf}
use Rattle.text_output_write.specs.Inner.{machine_at, stored, stop_numbers, progress, is_crlf, handed_on, turn_of, isolator_after}
use Rattle.text_output_write.proofs.Asked.{refused_stops}
use Rattle.text_output_write.proofs.Rest.{and_then_alike, step_error, steps_one, steps_joined, accepted_no_sub, given_joined}
use Rattle.std.specs.Prelude.{Ok, Err}

-- ---- 34F, put or not
module _ (mode : Mode) (w : Place) (escape out : List ℕ) where
  pub joined : (put : Bool) → put ≡ true → steps_of mode (machine_at w escape) [] (joiner put) ≡ write_step_of mode (machine_at w escape) [] 0x34F
  joined put e = rw e (steps_one mode (machine_at w escape) [] 0x34F)

  pub not_joined : (put : Bool) → put ≡ false →
      progress (Ok w) escape out ≡ stored w.at out (steps_of mode (machine_at w escape) [] (joiner put))
  unfolding steps_of
  not_joined put e = rw (e, add-zero) refl

-- ---- 1A, which stops for the reason that the record keeps
pub stop_stored : (mode : Mode) (w : Place) (escape out error : List ℕ) (stop : Stop) → stop_numbers stop ≡ 4 ∷ refused_in w.state error →
    progress (Err (record { place = w; stop = stop })) escape out ≡ stored w.at out (write_step_of mode (machine_at w escape) error 0x1A)
unfolding machine_at
stop_stored mode w escape out error stop s = rw (refused_stops mode (machine_at w escape) error, add-zero, s) refl

-- ---- what `Categorize` answered on a character c
abbrev Told : ℕ → Categorized → Type 0
Told c found = categorized_numbers found ≡ categorize_of unrefused c

module _ (c d : ℕ) (r : Categorize) where
  -- the character as it came
  pub record Passed : Type 0 where
    pub same : d ≡ checked c
    pub no_sub : eqb d 0x1A ≡ false

  pub char_passed : Told c (Char d r) → Passed
  char_passed told =
      by (eqb (reason_of c) 0)
      (λ e.
      let same : d ≡ c = ap (λ (l : List ℕ). get_or l 1 0) (rw e at told) in
      record { same = rw (e, same) refl; no_sub = rw same (accepted_no_sub c (eqb-true (reason_of c) 0 e)) })
      (λ e. let h : 0 ≡ 4 = ap (λ (l : List ℕ). get_or l 0 0) (rw e at told) in absurd (omega (arith, h)))

  -- 1A, with the check's reason
  pub record Stopping : Type 0 where
    pub sub : d ≡ checked c
    pub is : checked c ≡ 0x1A
    pub reason : reason_numbers r.error ≡ check_numbers c
    pub some : r.error ≡ Ok tt → ⊥

  pub sub-stops : Told c (Sub d r) → Stopping
  unfolding check_numbers
  sub-stops told =
      by (eqb (reason_of c) 0)
      (λ e. let h : 4 ≡ 0 = ap (λ (l : List ℕ). get_or l 0 0) (rw e at told) in absurd (omega (arith, h)))
      (λ e.
      let sub : d ≡ 0x1A = ap (λ (l : List ℕ). get_or l 1 0) (rw e at told) in
      let reason : reason_numbers r.error ≡ check_numbers c = ap (λ (l : List ℕ). drop 2 l) (rw e at told) in
      record {
        sub = rw e sub;
        is = rw e refl;
        reason = reason;
        some = λ o.
            let h : 0 ≡ reason_of c = ap (λ (l : List ℕ). get_or l 0 0) (rw o at reason) in
            never (sym e ∙ eq-eqb (reason_of c) 0 (sym h));
      })

-- what is handed on is the character checked
handed_checked : (c : ℕ) (found : Categorized) → Told c found → handed_on found ≡ checked c
handed_checked c (Char d r) told = (char_passed c d r told).same
handed_checked c (Sub d r) told = (sub-stops c d r told).sub

-- ---- the two ways of a turn
module _ (mode : Mode) (p : List ℕ) (m : Machine) (r : IsolateUnassigned) (c : ℕ) where
  pub turn_end : is_crlf mode && eqb c 0x0A ≡ true → (owed : Bool) → owed ≡ r.need_cgj →
      turn_of mode p m r c ≡ and_then (steps_of mode m [] (joiner owed)) put_crlf
  unfolding turn_of
  turn_end e owed o = rw (e, o) refl

  pub after_end : is_crlf mode && eqb c 0x0A ≡ true → isolator_after mode p r c ≡ fresh
  unfolding isolator_after
  after_end e = rw e refl

  -- by what `Categorize` answered, and whether the isolator puts 34F before what that hands on
  module _ (e : is_crlf mode && eqb c 0x0A ≡ false) (found : Categorized) (told : Told c found) where
    turn_on : (put : Bool) → put ≡ puts p r (handed_on found) → turn_of mode p m r c ≡ steps_of mode m (check_numbers c) (joiner put ++ checked c ∷ [])
    unfolding turn_of
    turn_on put o = rw (e, rw (handed_checked c found told) at o, given_joined p r (checked c)) refl

    module _ (d : ℕ) (k : Categorize) (put : Bool) (o : put ≡ puts p r (handed_on found)) where
      -- a character that the check accepts looks at no error
      pub turn_passed : found ≡ Char d k → (eqb d 0x1A ≡ false) × (turn_of mode p m r c ≡ steps_of mode m [] (joiner put ++ d ∷ []))
      turn_passed is =
          let q = char_passed c d k (sym (ap categorized_numbers is) ∙ told) in (
            q.no_sub,
            rw (← q.same) at (turn_on put o)
                ∙ steps_joined mode put m (check_numbers c) d
                ∙ and_then_alike (steps_of mode m [] (joiner put)) (λ next. write_step_of mode next (check_numbers c) d) (λ next. write_step_of mode next [] d)
                (λ next. step_error mode next (check_numbers c) [] d q.no_sub)
                ∙ sym (steps_joined mode put m [] d),
          )

      pub turn_refused : found ≡ Sub d k →
          (k.error ≡ Ok tt → ⊥) × (turn_of mode p m r c ≡ steps_of mode m (reason_numbers k.error) (joiner put ++ 0x1A ∷ []))
      turn_refused is =
          let q = sub-stops c d k (sym (ap categorized_numbers is) ∙ told) in
          (q.some, rw q.reason (rw q.is at (turn_on put o)))

    pub after_on : isolator_after mode p r c ≡ after (isolate_step_of p r (handed_on found))
    unfolding isolator_after
    after_on = rw (e, handed_checked c found told) refl
