-- The longest rest of a piece: a walk over a text from within a piece stops where the longest piece that the rules allow ends.
-- The walk goes by the state and one character (`move`), and the test for the rest of a piece goes the same way (`agree`), so the
-- walk cannot stop too early nor too late.
--     Inner, state_of     the states within a piece, and the scanner's state for each
--     kind_of             the kind of piece that a state is within
--     tail, Move, move   the test for the rest of a piece from a state, and the walk
--     Cut, cut, cut_by   the longest rest of a piece, with what follows it
use Prim.Native.Nat.{ℕ, suc, ◌≤◌, zero-le, suc-le-suc}
use mathlib.Core.Bool.{Bool, true, false, cond, ◌&&◌}
use mathlib.Core.List.{List, [], ◌∷◌, ◌++◌, tail-eq_of_cons-eq}
use mathlib.Core.Path.{◌≡◌, refl, ap, ◌∙◌}
use lib.Dec.{eqb}
use lib.ListN.{length}
use native.Mathlib.Omega.{arith}
use Rattle.text_input.specs.declared.State.{State}
use Rattle.text_input.specs.declared.State.TheVariants.{Cr, Ff, Esc, CsiStart, Csi, Osc, Linux}
use Rattle.text_input_parts.specs.PieceSets.{parameter_char, final_char, string_last, low_char}
use Rattle.text_input.specs.Pieces.{Kind, line_end, pageRun, escape, string_char}
use Rattle.text_input.proofs.Recognise.{nothing, false_true, runs, feeds, after_linux, after_bracket, after_esc}

-- the states but `Ground`
pub data Inner : Type 0 where
  cr ff esc csiStart csi osc linux : Inner

abbrev pub state_of : Inner → State
state_of cr = Cr
state_of ff = Ff
state_of esc = Esc
state_of csiStart = CsiStart
state_of csi = Csi
state_of osc = Osc
state_of linux = Linux

abbrev pub kind_of : Inner → Kind
kind_of cr = line_end
kind_of ff = pageRun
kind_of esc = escape
kind_of csiStart = escape
kind_of csi = escape
kind_of osc = escape
kind_of linux = escape

-- the rest of a piece that has come as far as this state
unfoldable pub tail : Inner → List ℕ → Bool
tail cr [] = true
tail cr (c ∷ q) = eqb c 0x0A && nothing q
tail ff q = feeds q
tail esc q = after_esc q
tail csiStart q = after_bracket q
tail csi q = runs parameter_char final_char q
tail osc q = runs string_char string_last q
tail linux q = after_linux q

-- a character within a piece: the piece goes on with it, ends with it, or stops before it
pub data Move : Type 0 where
  goes : Inner → Move
  closes stops : Move

unfoldable pub move : Inner → ℕ → Move
move cr c = cond (eqb c 0x0A) closes stops
move ff c = cond (eqb c 0x0C) (goes ff) stops
move esc c = cond (eqb c 0x5B) (goes csiStart) (cond (eqb c 0x5D) (goes osc) (cond (final_char c) closes stops))
move csiStart c = cond (eqb c 0x5B) (goes linux) (cond (parameter_char c) (goes csi) (cond (final_char c) closes stops))
move csi c = cond (parameter_char c) (goes csi) (cond (final_char c) closes stops)
move osc c = cond (string_char c) (goes osc) (cond (string_last c) closes stops)
move linux c = cond (low_char c) closes stops

unfoldable pub after : Move → List ℕ → Bool
after (goes i) q = tail i q
after closes q = nothing q
after stops q = false

pub after_cond : (b : Bool) (m k : Move) (q : List ℕ) → after (cond b m k) q ≡ cond b (after m q) (after k q)
after_cond true m k q = refl
after_cond false m k q = refl

cond_and : (b x : Bool) → cond b x false ≡ b && x
cond_and true x = refl
cond_and false x = refl

pub tail_nil : (i : Inner) → tail i [] ≡ true
unfolding tail feeds after_esc after_bracket runs after_linux
tail_nil cr = refl
tail_nil ff = refl
tail_nil esc = refl
tail_nil csiStart = refl
tail_nil csi = refl
tail_nil osc = refl
tail_nil linux = refl

-- the test takes the walk's steps
pub agree : (i : Inner) (c : ℕ) (q : List ℕ) → tail i (c ∷ q) ≡ after (move i c) q
unfolding tail move feeds after_esc after_bracket runs after_linux after
agree cr c q = simp (after_cond, cond_and)
agree ff c q = simp (after_cond, cond_and)
agree esc c q = simp (after_cond, cond_and)
agree csiStart c q = simp (after_cond, cond_and)
agree csi c q = simp (after_cond, cond_and)
agree osc c q = simp (after_cond, cond_and)
agree linux c q = simp (after_cond, cond_and)

-- ---- the longest rest of a piece from a state
pub record Cut (i : Inner) (t : List ℕ) : Type 0 where
  pub taken : List ℕ
  pub rest : List ℕ
  pub joined : taken ++ rest ≡ t
  pub fits : tail i taken ≡ true
  pub most : (q r : List ℕ) → tail i q ≡ true → q ++ r ≡ t → length q ≤ length taken

-- a rest that begins with x, at a text that begins with c
pub onward_fits : (i : Inner) (c : ℕ) (t : List ℕ) (m : Move) → move i c ≡ m → (x : ℕ) (q r : List ℕ) →
    tail i (x ∷ q) ≡ true → x ∷ (q ++ r) ≡ c ∷ t → after m q ≡ true
onward_fits i c t m e x q r f j = cc (agree i x q)

pub most_goes : (i : Inner) (c : ℕ) (t : List ℕ) (j : Inner) → move i c ≡ goes j → (k : Cut j t) → (q r : List ℕ) →
    tail i q ≡ true → q ++ r ≡ c ∷ t → length q ≤ suc (length k.taken)
unfolding after
most_goes i c t j e k [] r f h = zero-le
most_goes i c t j e k (x ∷ q) r f h =
    suc-le-suc (k.most q r (onward_fits i c t (goes j) e x q r f h) (tail-eq_of_cons-eq h))

pub most_closes : (i : Inner) (c : ℕ) (t : List ℕ) → move i c ≡ closes → (q r : List ℕ) →
    tail i q ≡ true → q ++ r ≡ c ∷ t → length q ≤ 1
unfolding after
most_closes i c t e [] r f h = zero-le
most_closes i c t e (x ∷ []) r f h = omega arith
most_closes i c t e (x ∷ y ∷ q) r f h = false_true (onward_fits i c t closes e x (y ∷ q) r f h)

pub most_stops : (i : Inner) (c : ℕ) (t : List ℕ) → move i c ≡ stops → (q r : List ℕ) →
    tail i q ≡ true → q ++ r ≡ c ∷ t → length q ≤ 0
unfolding after
most_stops i c t e [] r f h = zero-le
most_stops i c t e (x ∷ q) r f h = false_true (onward_fits i c t stops e x q r f h)

pub most_nil : (q r : List ℕ) → q ++ r ≡ [] → length q ≤ 0
most_nil [] r h = zero-le
most_nil (x ∷ q) r h = absurd (let z : ◌≡◌ {A = ℕ} 0 1 = cc in omega arith)

unfoldable pub cut_by : (i : Inner) (c : ℕ) (t : List ℕ) (m : Move) → move i c ≡ m → ((j : Inner) → Cut j t) → Cut i (c ∷ t)
unfolding after
cut_by i c t (goes j) e ih =
    let k = ih j in
    record {
      taken = c ∷ k.taken;
      rest = k.rest;
      joined = ap (λ l. c ∷ l) k.joined;
      fits = agree i c k.taken ∙ (rw e k.fits);
      most = most_goes i c t j e k;
    }
cut_by i c t closes e ih =
    record {
      taken = c ∷ [];
      rest = t;
      joined = refl;
      fits = agree i c [] ∙ (rw e);
      most = most_closes i c t e;
    }
cut_by i c t stops e ih =
    record {
      taken = [];
      rest = c ∷ t;
      joined = refl;
      fits = tail_nil i;
      most = most_stops i c t e;
    }

unfoldable pub cut : (i : Inner) (t : List ℕ) → Cut i t
cut i [] = record { taken = []; rest = []; joined = refl; fits = tail_nil i; most = λ q r f h. most_nil q r h }
cut i (c ∷ t) = cut_by i c t (move i c) refl (λ j. cut j t)
