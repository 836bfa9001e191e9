-- A gap's characters are plain: no row of the replacements and of the refusals, and no line end, page character or ESC, meets it. That is
-- one test, which antt computes for each gap.
--     clear           the test
--     gap_clear       the characters of a range that passes it are plain
--     Kept            a newline, or plain
--     sought_kept     ASCII and what a gap has is a newline or plain
use Prim.Native.Nat.{ℕ, ◌≤◌, ◌<◌}
use mathlib.Core.Path.{◌≡◌, refl}
use mathlib.Core.Bool.{Bool, true, false, ◌&&◌, ◌||◌}
use mathlib.Core.List.{List, [], ◌∷◌}
use mathlib.Core.Logic.{⊎_elim}
use native.Mathlib.Omega.{arith}
use lib.Dec.{ltb, eqb}
use borrow.Author.Tests.{ltb-true, leb-true, eqb-true, eqb-false, not-true, ne_eqb}
use Rattle.common.proofs.Kit.{by, both, both_true, or_cases}
use Rattle.ranges.specs.declared.Range.{Range}
use Rattle.ranges.specs.Inner.{in_range}
use Rattle.ranges.proofs.Found.{in_range_lem}
use Rattle.replace.specs.declared.Replaced.TheVariants.{One}
use Rattle.replace.specs.Table.{Span, ◌to◌, Row, ◌gives◌, has, in_spans, lookup}
use Rattle.replace.specs.Replace.{rows_by, replace_of}
use Rattle.check_char.specs.Check.{refusals, reason_of}
use Rattle.stretch.specs.Stretch.{in_gap, in_sought}
use Rattle.stretch.specs.Plain.{special, Plain, Gap, ascii_or}

-- ---- the test
module _ (r : Range) where
  -- the span has no character of the gap: it ends before it, begins behind it, or is one of the two that are left out
  abbrev apart : Span → Bool
  apart (a to b) = ltb r.last a || (ltb b r.first || (eqb a b && (eqb a 0x149 || eqb a 0x673)))

  abbrev rows_apart : {A : Type 0} → List (Row A) → Bool
  rows_apart [] = true
  rows_apart (s gives a ∷ rs) = apart s && rows_apart rs

  abbrev spans_apart : List Span → Bool
  spans_apart [] = true
  spans_apart (s ∷ ss) = apart s && spans_apart ss

  abbrev pub clear : Bool
  clear = rows_apart (rows_by true) && (rows_apart (rows_by false) && (rows_apart refusals && spans_apart special))

-- ---- what it says of a character
module _ (r : Range) (c : ℕ) (h : in_gap r c ≡ true) where
  in_gap_lem : ((r.first ≤ c) × (c ≤ r.last)) × ((c ≡ 0x149 → ⊥) × (c ≡ 0x673 → ⊥))
  unfolding in_gap
  in_gap_lem =
      let a = both_true _ _ h in
      let b = both_true _ _ a.0 in
      (in_range_lem r c b.0, (eqb-false _ _ (not-true _ b.1), eqb-false _ _ (not-true _ a.1)))

  -- a span that is apart has no such character
  missed : (a b : ℕ) → a ≤ c → c ≤ b → apart r (a to b) ≡ true → ⊥
  missed a b l g t =
      let i = in_gap_lem in
      ⊎_elim (λ u. let x : r.last < a = ltb-true _ _ u in omega (arith, i.0.1))
      (λ u.
      ⊎_elim (λ v. let x : b < r.first = ltb-true _ _ v in omega (arith, i.0.0))
      (λ v.
      let w = both_true _ _ v in
      let e : a ≡ b = eqb-true _ _ w.0 in
      ⊎_elim (λ x. let y : a ≡ 0x149 = eqb-true _ _ x in i.1.0 (omega arith)) (λ x. let y : a ≡ 0x673 = eqb-true _ _ x in i.1.1 (omega arith))
      (or_cases _ _ w.1))
      (or_cases _ _ u))
      (or_cases _ _ t)

  has_none : (s : Span) → apart r s ≡ true → has s c ≡ false
  has_none (a to b) t =
      by (has (a to b) c)
      (λ e. let x = both_true _ _ e in absurd (missed a b (leb-true _ _ x.0) (leb-true _ _ x.1) t))
      (λ e. e)

  finds_none : {A : Type 0} (d : A) (rs : List (Row A)) → rows_apart r rs ≡ true → lookup rs d c ≡ d
  finds_none d [] t = refl
  finds_none d (s gives a ∷ rs) t = let x = both_true _ _ t in rw (has_none s x.0) (finds_none d rs x.1)

  in_none : (ss : List Span) → spans_apart r ss ≡ true → in_spans ss c ≡ false
  in_none [] t = refl
  in_none (s ∷ ss) t = let x = both_true _ _ t in rw (has_none s x.0) (in_none ss x.1)

  own : rows_apart r (rows_by true) ≡ true → rows_apart r (rows_by false) ≡ true → (units : Bool) → replace_of units c ≡ One c
  unfolding replace_of
  own t u true = finds_none (One c) (rows_by true) t
  own t u false = finds_none (One c) (rows_by false) u

pub gap_clear : (r : Range) → clear r ≡ true → Gap r
unfolding reason_of
gap_clear r t c h =
    let x = both_true _ _ t in
    let y = both_true _ _ x.1 in
    let z = both_true _ _ y.1 in
    record {
      same = own r c h x.0 y.0;
      accepted = finds_none r c h 0 refusals z.0;
      other = in_none r c h special z.1;
    }

-- a newline, or plain: what comes out of the ground state as it goes in
abbrev pub Kept : ℕ → Type 0
Kept c = (eqb c 0xa ≡ false → Plain c)

-- ---- ASCII, as two gaps
module _ (c : ℕ) where
  low : (r : Range) → r.last ≤ 0x7e → in_range r c ≡ true → in_gap r c ≡ true
  unfolding in_gap
  low r l h =
      let i = in_range_lem r c h in
      both (both h (rw (ne_eqb c 0x149 (λ e. omega arith)))) (rw (ne_eqb c 0x673 (λ e. omega arith)))

  ascii_kept : in_range (record { first = 9; last = 0xa }) c || in_range (record { first = 0x20; last = 0x7e }) c ≡ true → Kept c
  unfolding in_range
  ascii_kept h n =
      ⊎_elim
      (λ t.
      let i = in_range_lem (record { first = 9; last = 0xa }) c t in
      let e : c ≡ 9 = tab i.0 i.1 in
      gap_clear (record { first = 9; last = 9 }) refl c (low (record { first = 9; last = 9 }) (omega arith) (rw e)))
      (λ t. gap_clear (record { first = 0x20; last = 0x7e }) refl c (low (record { first = 0x20; last = 0x7e }) (omega arith) t))
      (or_cases _ _ h)
    where
      tab : 9 ≤ c → c ≤ 0xa → c ≡ 9
      tab l g = omega (arith, eqb-false c 0xa n)

pub sought_kept : (gap : Range) → Gap gap → (c : ℕ) → in_sought (ascii_or gap) c ≡ true → Kept c
sought_kept gap g c h = ⊎_elim (λ t. ascii_kept c t) (λ t n. g c t) (or_cases _ _ h)
