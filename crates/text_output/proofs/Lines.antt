-- A CRLF writer's write, line by line, refused or not and from any record: a line is written as by a plain writer, 0A gives 0D 0A.
--     crlf_line    a line that 0A ends, and what follows it
--     crlf_last    what no 0A ends
use Prim.Native.Nat.{ℕ}
use mathlib.Core.Bool.{Bool, true, false, not}
use mathlib.Core.List.{List, [], ◌∷◌, ◌++◌, append-nil}
use mathlib.Core.Path.{◌≡◌, refl, ◌∙◌, ap}
use lib.Dec.{eqb}
use Rattle.common.proofs.Kit.{never, by, both_true}
use Rattle.check_char.specs.Check.{all}
use Rattle.text_output.specs.declared.Ground.TheVariants.{Newline}
use Rattle.text_output.specs.declared.State.{State}
use Rattle.text_output.specs.declared.State.TheVariants.{Ground as Grounded, Esc, Csi}
use Rattle.text_output.specs.declared.Mode.TheVariants.{Plain, Crlf}
use Rattle.text_output.specs.Writer.{Machine}
use Rattle.text_output.specs.Step.{Stepped, goes, stops, behind, and_then, asked_in, write_step_of, steps_of}
use Rattle.text_output.specs.Write.{run_of, parts, put_crlf, more_parts, parts_of, run_in}

-- ---- a CRLF writer's step is a plain one's
asked_plain : (s : State) (held c : ℕ) → asked_in s Crlf held c ≡ asked_in s Plain held c
asked_plain (Grounded g) held c = refl
asked_plain Esc held c = refl
asked_plain Csi held c = refl

step_plain : (m : Machine) (error : List ℕ) (c : ℕ) → write_step_of Crlf m error c ≡ write_step_of Plain m error c
unfolding write_step_of
step_plain m error c = rw (asked_plain m.state m.held c)

then_alike : (s : Stepped) (f g : Machine → Stepped) → ((m : Machine) → f m ≡ g m) → and_then s f ≡ and_then s g
then_alike (goes xs m) f g e = ap (behind xs) (e m)
then_alike (stops xs m n) f g e = refl

steps_plain : (cs : List ℕ) (m : Machine) (error : List ℕ) → steps_of Crlf m error cs ≡ steps_of Plain m error cs
unfolding steps_of
steps_plain [] m error = refl
steps_plain (c ∷ cs) m error =
    ap (λ (s : Stepped). and_then s (λ next. steps_of Crlf next error cs)) (step_plain m error c)
    ∙ then_alike (write_step_of Plain m error c) (λ next. steps_of Crlf next error cs) (λ next. steps_of Plain next error cs)
    (λ next. steps_plain cs next error)

run_plain : (p : List ℕ) (m : Machine) (cs : List ℕ) → run_of Crlf p m cs ≡ run_of Plain p m cs
unfolding run_of
run_plain p m cs = steps_plain _ m _

-- ---- the parts of a text
abbrev no_newline : ℕ → Bool
no_newline c = not (eqb c 0x0A)

is_none : (c : ℕ) → no_newline c ≡ true → eqb c 0x0A ≡ false
is_none c h = by (eqb c 0x0A) (λ e. never (rw e at h)) (λ e. e)

parts_line : (line more : List ℕ) → all no_newline line ≡ true → parts (line ++ 0x0A ∷ more) ≡ line ∷ parts more
unfolding parts
parts_line [] more h = refl
parts_line (c ∷ line) more h =
    let q = both_true (no_newline c) (all no_newline line) h in
    rw (is_none c q.0, parts_line line more q.1)

parts_last : (line : List ℕ) → all no_newline line ≡ true → parts line ≡ line ∷ []
unfolding parts
parts_last [] h = refl
parts_last (c ∷ line) h =
    let q = both_true (no_newline c) (all no_newline line) h in
    rw (is_none c q.0, parts_last line q.1)

record Some (ps : List (List ℕ)) : Type 0 where
  first : List ℕ
  rest : List (List ℕ)
  is : ps ≡ first ∷ rest

some : (cs : List ℕ) → Some (parts cs)
unfolding parts
some [] = record { first = []; rest = []; is = refl }
some (c ∷ cs) =
    by (eqb c 0x0A) (λ e. record { first = []; rest = parts cs; is = rw e })
    (λ e. let s = some cs in record { first = c ∷ s.first; rest = s.rest; is = rw (e, s.is) })

more_is : (p : List ℕ) (m : Machine) (ps : List (List ℕ)) → Some ps →
    more_parts Crlf p m ps ≡ and_then (put_crlf m) (λ next. parts_of Crlf p next ps)
unfolding more_parts
more_is p m ps s = rw s.is

none_then : (s : Stepped) → and_then s (λ m. goes [] m) ≡ s
none_then (goes xs m) = ap (λ (l : List ℕ). goes l m) (append-nil xs)
none_then (stops xs m n) = refl

-- "In CRLF mode each part between 0A is isolated alone and 0A gives 0D 0A."
pub crlf_line : (p : List ℕ) (m : Machine) (line more : List ℕ) → all (λ (c : ℕ). not (eqb c 0x0A)) line ≡ true →
    run_in Crlf p m (line ++ 0x0A ∷ more)
    ≡ and_then (run_in Plain p m line)
    (λ n. behind (0x0D ∷ 0x0A ∷ []) (run_in Crlf p (record { state = Grounded Newline; held = 0; escape = n.escape }) more))
crlf_line p m line more h =
    rw (parts_line line more h)
    (ap (λ (s : Stepped). and_then s (λ after. more_parts Crlf p after (parts more))) (run_plain p m line)
    ∙ then_alike (run_of Plain p m line) _ _ (λ n. more_is p n (parts more) (some more)))

pub crlf_last : (p : List ℕ) (m : Machine) (line : List ℕ) → all (λ (c : ℕ). not (eqb c 0x0A)) line ≡ true →
    run_in Crlf p m line ≡ run_in Plain p m line
unfolding more_parts
crlf_last p m line h = rw (parts_last line h) (none_then (run_of Crlf p m line) ∙ run_plain p m line)
