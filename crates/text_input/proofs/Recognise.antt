-- Tests for the rest of a piece after its first characters, and that they are the rules' own: what the rules (specs/Pieces.antt)
-- allow passes the test, and what passes it they allow. Each test is a function of the characters, read from the left, so that a
-- walk over a text can follow it.
--     nothing, runs, feeds, after_esc ..   the tests
--     runs_of, feeds_all, bracket_of      what the rules allow passes
--     page_of_lem, escape_of                  what passes is allowed
--     false_true, and_left, and_right, cond_id, no_more   small laws of Booleans and lists
use Prim.Native.Nat.{ℕ}
use mathlib.Core.Bool.{Bool, true, false, cond, not, ◌&&◌}
use mathlib.Core.List.{List, [], ◌∷◌}
use mathlib.Core.Path.{◌≡◌, refl}
use lib.Dec.{eqb}
use native.Mathlib.Omega.{arith}
use borrow.Author.Tests.{eqb-true}
use Rattle.text_input_parts.specs.PieceSets.{parameter_char, final_char, string_last, low_char}
use Rattle.text_input.specs.Pieces.{Run, PageRun, Escape, string_char, no_bracket}

-- ---- the tests
-- no character
abbrev pub nothing : List ℕ → Bool
nothing [] = true
nothing (c ∷ q) = false

-- any number of p, then at most one f
unfoldable pub runs : (ℕ → Bool) → (ℕ → Bool) → List ℕ → Bool
runs p f [] = true
runs p f (c ∷ q) = cond (p c) (runs p f q) (f c && nothing q)

-- any number of 0C
unfoldable pub feeds : List ℕ → Bool
feeds [] = true
feeds (c ∷ q) = eqb c 0x0C && feeds q

-- after 1B `[` `[`
unfoldable pub after_linux : List ℕ → Bool
after_linux [] = true
after_linux (c ∷ q) = low_char c && nothing q

-- after 1B `[`
unfoldable pub after_bracket : List ℕ → Bool
after_bracket [] = true
after_bracket (c ∷ q) = cond (eqb c 0x5B) (after_linux q) (runs parameter_char final_char (c ∷ q))

-- after 1B
unfoldable pub after_esc : List ℕ → Bool
after_esc [] = true
after_esc (c ∷ q) = cond (eqb c 0x5B) (after_bracket q) (cond (eqb c 0x5D) (runs string_char string_last q) (final_char c && nothing q))

-- ---- small laws
pub false_true : {A : Type 0} → false ≡ true → A
false_true e = absurd (let z : ◌≡◌ {A = ℕ} 0 1 = cc in omega arith)

pub and_left : (a b : Bool) → a && b ≡ true → a ≡ true
and_left true b h = refl
and_left false b h = h

pub and_right : (a b : Bool) → a && b ≡ true → b ≡ true
and_right true b h = h
and_right false b h = false_true h

pub cond_id : {A : Type 0} (b : Bool) (x : A) → cond b x x ≡ x
cond_id true x = refl
cond_id false x = refl

pub no_more : (q : List ℕ) → nothing q ≡ true → q ≡ []
no_more [] h = refl
no_more (c ∷ q) h = false_true h

-- ---- what the rules allow passes the test
pub runs_of : {p f : ℕ → Bool} {q : List ℕ} → Run p f q → runs p f q ≡ true
unfolding runs
runs_of Run.done = refl
runs_of {p} {f} (Run.last {c = c} h) = rw (h, cond_id (p c) true)
runs_of (Run.more h r) = rw h (runs_of r)

pub feeds_all : {q : List ℕ} → PageRun q → feeds q ≡ true
unfolding feeds
feeds_all PageRun.one = refl
feeds_all (PageRun.more r) = feeds_all r

bracket_by : (c : ℕ) (q : List ℕ) (b : Bool) → not b ≡ true → runs parameter_char final_char (c ∷ q) ≡ true →
    cond b (after_linux q) (runs parameter_char final_char (c ∷ q)) ≡ true
bracket_by c q true e h = false_true e
bracket_by c q false e h = h

pub bracket_of : (q : List ℕ) → no_bracket q ≡ true → runs parameter_char final_char q ≡ true → after_bracket q ≡ true
unfolding after_bracket
bracket_of [] e h = refl
bracket_of (c ∷ q) e h = bracket_by c q (eqb c 0x5B) e h

-- ---- what passes the test the rules allow
run_by : (p f : ℕ → Bool) (c : ℕ) (q : List ℕ) (b : Bool) → p c ≡ b → cond b (runs p f q) (f c && nothing q) ≡ true →
    (runs p f q ≡ true → Run p f q) → Run p f (c ∷ q)
run_by p f c q true e h r = Run.more e (r h)
run_by p f c q false e h r = rw (no_more q (and_right (f c) (nothing q) h)) (Run.last (and_left (f c) (nothing q) h))

run_of : (p f : ℕ → Bool) (q : List ℕ) → runs p f q ≡ true → Run p f q
unfolding runs
run_of p f [] h = Run.done
run_of p f (c ∷ q) h = run_by p f c q (p c) refl h (λ g. run_of p f q g)

linux_of : (q : List ℕ) → after_linux q ≡ true → Escape (0x1B ∷ 0x5B ∷ 0x5B ∷ q)
unfolding after_linux
linux_of [] h = Escape.linux
linux_of (c ∷ q) h =
    rw (no_more q (and_right (low_char c) (nothing q) h)) (Escape.linux_char (and_left (low_char c) (nothing q) h))

control_of : (c : ℕ) (q : List ℕ) (b : Bool) → eqb c 0x5B ≡ b → cond b (after_linux q) (runs parameter_char final_char (c ∷ q)) ≡ true →
    Escape (0x1B ∷ 0x5B ∷ c ∷ q)
control_of c q true e h = rw (eqb-true c 0x5B e) (linux_of q h)
control_of c q false e h = Escape.control {q = c ∷ q} (rw e) (run_of parameter_char final_char (c ∷ q) h)

after_of : (q : List ℕ) → after_bracket q ≡ true → Escape (0x1B ∷ 0x5B ∷ q)
unfolding after_bracket
after_of [] h = Escape.control refl Run.done
after_of (c ∷ q) h = control_of c q (eqb c 0x5B) refl h

escape_by : (c : ℕ) (q : List ℕ) (a b : Bool) → eqb c 0x5B ≡ a → eqb c 0x5D ≡ b →
    cond a (after_bracket q) (cond b (runs string_char string_last q) (final_char c && nothing q)) ≡ true → Escape (0x1B ∷ c ∷ q)
escape_by c q true b e f h = rw (eqb-true c 0x5B e) (after_of q h)
escape_by c q false true e f h = rw (eqb-true c 0x5D f) (Escape.string (run_of string_char string_last q h))
escape_by c q false false e f h =
    rw (no_more q (and_right (final_char c) (nothing q) h)) (Escape.two (and_left (final_char c) (nothing q) h) e f)

pub escape_of : (q : List ℕ) → after_esc q ≡ true → Escape (0x1B ∷ q)
unfolding after_esc
escape_of [] h = Escape.alone
escape_of (c ∷ q) h = escape_by c q (eqb c 0x5B) (eqb c 0x5D) refl refl h

pub page_of_lem : (q : List ℕ) → feeds q ≡ true → PageRun (0x0C ∷ q)
unfolding feeds
page_of_lem [] h = PageRun.one
page_of_lem (c ∷ q) h =
    rw (eqb-true c 0x0C (and_left (eqb c 0x0C) (feeds q) h)) (PageRun.more (page_of_lem q (and_right (eqb c 0x0C) (feeds q) h)))
