-- A run of bytes in two parts: what the first gives, and then what the second gives from where the first led. So the loop of `run` goes
-- by `stretch`'s way (proofs/Way.antt). Idea: the decoder's outputs append (`utf8_lossy`), and a run of characters goes one by one.
--     joined_assoc     three runs, one after the other
--     passed_append    what joined texts come to
--     passes_append    what joined bytes come to; gives-append, leads-append: by its parts
--     clean_way         the way
--     fits_leads       counts only grow: where those after bytes fit, so do those before; fits-first: and those of a first part
--     passed_one, passes_one             a run of one character, of one byte
--     passed_is, tally_is, course_is     equal parts make equal records
use Prim.Native.Nat.{ℕ}
use mathlib.Core.Bool.{Bool}
use mathlib.Core.List.{List, [], ◌∷◌, ◌++◌, append_assoc, append-nil}
use mathlib.Core.Path.{◌≡◌, refl, sym, ap, subst, ◌∙◌}
use native.Mathlib.Omega.{arith}
use lib.ListN.{length, length-append}
use Rattle.scalars.specs.Utf8.{encode_all}
use Rattle.scalars.proofs.Texts.{encode_append}
use Rattle.stretch.proofs.Way.{in_places, Way}
use Rattle.utf8_lossy.specs.Machine.{step_of, outs_of, rest_of}
use Rattle.utf8_lossy.proofs.Reading.{outs_append, rest_append, replaced_append}
use Rattle.text_input.specs.declared.Options.{Options}
use Rattle.text_clean.specs.declared.text.Text.{Text}
use Rattle.text_clean.specs.declared.text.Tally.{Tally}
use Rattle.text_clean.specs.Text.{Passed, take_of, joined, passed_of}
use Rattle.text_clean.specs.Inner.{Fits, Course, passes, gives, leads}

-- ---- records by their parts
pub passed_is : {a b : List ℕ} {t u : Text} {d e l m : ℕ} → a ≡ b → t ≡ u → d ≡ e → l ≡ m →
    ◌≡◌ {A = Passed} (record { out = a; next = t; dropped = d; lost = l }) (record { out = b; next = u; dropped = e; lost = m })
passed_is h g f k = λ i. record { out = h i; next = g i; dropped = f i; lost = k i }

pub tally_is : {a b c d e f g h : ℕ} → a ≡ b → c ≡ d → e ≡ f → g ≡ h →
    ◌≡◌ {A = Tally} (record { read = a; replaced = c; dropped = e; lost = g }) (record { read = b; replaced = d; dropped = f; lost = h })
tally_is p q r s = λ i. record { read = p i; replaced = q i; dropped = r i; lost = s i }

pub course_is : {a b : List ℕ} {t u : Text} {m n : Tally} → a ≡ b → t ≡ u → m ≡ n →
    ◌≡◌ {A = Course} (record { pending = a; text = t; tally = m }) (record { pending = b; text = u; tally = n })
course_is h g f = λ i. record { pending = h i; text = g i; tally = f i }

-- ---- characters
pub joined_assoc : (a b c : Passed) → joined (joined a b) c ≡ joined a (joined b c)
joined_assoc a b c = passed_is (append_assoc a.out b.out c.out) refl (omega arith) (omega arith)

joined_nothing : (x : Passed) → joined x (record { out = []; next = x.next; dropped = 0; lost = 0 }) ≡ x
joined_nothing x = passed_is (append-nil x.out) refl (omega arith) (omega arith)

module _ (p : List ℕ) (o : Options) (lines : Bool) where
  pub passed_append : (t : Text) (cs ds : List ℕ) →
      passed_of p o lines t (cs ++ ds) ≡ joined (passed_of p o lines t cs) (passed_of p o lines (passed_of p o lines t cs).next ds)
  passed_append t [] ds = passed_is refl refl (omega arith) (omega arith)
  passed_append t (c ∷ cs) ds =
      let x : Passed = take_of p o lines t c in
      ap (joined x) (passed_append x.next cs ds)
      ∙ sym (joined_assoc x (passed_of p o lines x.next cs) (passed_of p o lines (passed_of p o lines x.next cs).next ds))

  pub passed_one : (t : Text) (c : ℕ) → passed_of p o lines t (c ∷ []) ≡ take_of p o lines t c
  passed_one t c = joined_nothing (take_of p o lines t c)

  -- ---- bytes
  pub passes_append : (s : Course) (xs ys : List ℕ) →
      passes p o lines s (xs ++ ys) ≡ joined (passes p o lines s xs) (passes p o lines (leads p o lines s xs) ys)
  passes_append s xs ys =
      ap (passed_of p o lines s.text) (outs_append s.pending xs ys)
      ∙ passed_append s.text (outs_of s.pending xs) (outs_of (rest_of s.pending xs) ys)

  pub gives_append : (s : Course) (xs ys : List ℕ) →
      gives p o lines s (xs ++ ys) ≡ gives p o lines s xs ++ gives p o lines (leads p o lines s xs) ys
  gives_append s xs ys =
      ap (λ (x : Passed). encode_all x.out) (passes_append s xs ys)
      ∙ encode_append (passes p o lines s xs).out (passes p o lines (leads p o lines s xs) ys).out

  pub leads_append : (s : Course) (xs ys : List ℕ) → leads p o lines s (xs ++ ys) ≡ leads p o lines (leads p o lines s xs) ys
  leads_append s xs ys =
      let e = passes_append s xs ys in
      let n = ap length (outs_append s.pending xs ys)
      ∙ length-append (outs_of s.pending xs) (outs_of (rest_of s.pending xs) ys) in
      let r = replaced_append s.pending xs ys in
      let d = ap (λ (x : Passed). x.dropped) e in
      let l = ap (λ (x : Passed). x.lost) e in
      course_is (rest_append s.pending xs ys) (ap (λ (x : Passed). x.next) e)
      (tally_is (omega (arith, n)) (omega (arith, r)) (omega (arith, d)) (omega (arith, l)))

  pub passes_one : (s : Course) (b : ℕ) →
      passes p o lines s (b ∷ []) ≡ passed_of p o lines s.text (step_of s.pending b).out
  passes_one s b = ap (passed_of p o lines s.text) (append-nil (step_of s.pending b).out)

  -- counts only grow
  pub fits_leads : (s : Course) (ys : List ℕ) → Fits (leads p o lines s ys).tally → Fits s.tally
  fits_leads s ys f =
      record {
        read = omega (arith, f.read);
        replaced = omega (arith, f.replaced);
        dropped = omega (arith, f.dropped);
        lost = omega (arith, f.lost);
      }

  pub fits_first : (s : Course) (xs ys : List ℕ) → Fits (leads p o lines s (xs ++ ys)).tally → Fits (leads p o lines s xs).tally
  fits_first s xs ys f = fits_leads (leads p o lines s xs) ys (subst (λ (x : Course). Fits x.tally) (leads_append s xs ys) f)

abbrev pub clean_way : List ℕ → Options → Bool → Way Course
clean_way p o lines =
    record {
      store = in_places;
      gives = gives p o lines;
      leads = leads p o lines;
      whole = gives p o lines;
      whole_append = gives_append p o lines;
      leads_append = leads_append p o lines;
    }
