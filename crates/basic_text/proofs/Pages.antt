-- A page's length. Idea: an accepted page has at most `longest_page` numbers, so that one with more may be taken for the empty one.
--     right_page, wrong_page             what `fitting` makes of the pages that `read_page` tells apart
--     fitting_few                        how many numbers it leaves
--     scan_fitting, write_fitting        a scan, a write by what it leaves is that by the page
use Prim.Native.Nat.{ℕ, ◌/◌, ◌%◌, ◌≤◌, ◌<◌}
use mathlib.Core.Path.{◌≡◌, refl}
use mathlib.Core.Bool.{false}
use mathlib.Core.Logic.{◌⊎◌, inl, inr}
use mathlib.Core.List.{List, []}
use native.Mathlib.Omega.{arith}
use lib.Dec.{eqb, leb}
use lib.ListN.{length}
use borrow.Author.Tests.{eq-eqb, ne_eqb, le-leb, lt-leb, leb-false, eqb-true, eqb-false}
use Rattle.common.proofs.Kit.{by, by_lt}
use Rattle.page.specs.Page.{accepted, sized}
use Rattle.page.proofs.PageLaws.{facts_of_accepted}
use Rattle.text_input.specs.declared.Options.{Options}
use Rattle.text_input.specs.declared.TextInput.{TextInput}
use Rattle.text_input_parts.specs.Refusals.{chunk_refusal, refusal_of}
use Rattle.text_input.specs.Scan.{scan_of}
use Rattle.text_output.specs.declared.TextOutput.{TextOutput}
use Rattle.text_output.specs.Writer.{machine_of, sound}
use Rattle.text_output.specs.Write.{write_refusal, write_of}
use Rattle.basic_text.specs.Exports.{numbers_of, page_of}
use Rattle.basic_text.specs.Inner.{longest_page, fitting}
use Rattle.basic_text.proofs.Laws.{length_numbers}

module _ (bytes : List ℕ) where
  pub right_page : length bytes % 4 ≡ 0 → length bytes / 4 ≤ longest_page → fitting (page_of bytes) ≡ numbers_of bytes
  unfolding fitting
  right_page h k =
      let e : length (numbers_of bytes) ≤ longest_page = omega (arith, length_numbers bytes) in rw (eq-eqb _ _ h, le-leb _ _ e)

  long_page : longest_page < length bytes / 4 → fitting (page_of bytes) ≡ []
  unfolding fitting
  long_page k =
      let e : longest_page < length (numbers_of bytes) = omega (arith, length_numbers bytes) in
      by (eqb (length bytes % 4) 0) (λ h. rw (h, lt-leb _ _ e)) (λ h. rw h)

  odd_page : (length bytes % 4 ≡ 0 → ⊥) → fitting (page_of bytes) ≡ []
  unfolding fitting
  odd_page h = rw (ne_eqb _ _ h)

  pub wrong_page : (((length bytes % 4 ≡ 0) × (longest_page < length bytes / 4)) ⊎ (length bytes % 4 ≡ 0 → ⊥)) → fitting (page_of bytes) ≡ []
  wrong_page (inl h) = long_page h.1
  wrong_page (inr h) = odd_page h

  pub fitting_few : (length (fitting (page_of bytes)) ≤ longest_page) × (length (fitting (page_of bytes)) ≤ length bytes / 4)
  fitting_few =
      by_lt longest_page (length bytes / 4)
      (λ k. rw (long_page k) (omega arith, omega arith))
      (λ k.
      by (eqb (length bytes % 4) 0)
      (λ h. rw (right_page (eqb-true _ _ h) k) (omega (arith, length_numbers bytes), omega (arith, length_numbers bytes)))
      (λ h. rw (odd_page (eqb-false _ _ h)) (omega arith, omega arith)))

-- the empty page is not accepted
empty_wrong : accepted [] ≡ false
unfolding accepted sized
empty_wrong = refl

too_long : (p : List ℕ) → longest_page < length p → accepted p ≡ false
too_long p h =
    by (accepted p)
    (λ e. let s = (facts_of_accepted p e).sizes in absurd (omega (arith, s.long, s.nonstarters, s.assigneds)))
    (λ e. e)

-- by two pages that are not accepted a scan is refused alike
both_wrong : (p q : List ℕ) → accepted p ≡ false → accepted q ≡ false → (r : TextInput) (o : Options) (chunk queue : List ℕ) →
    scan_of r p o chunk queue ≡ scan_of r q o chunk queue
unfolding scan_of refusal_of chunk_refusal
both_wrong p q e f r o chunk queue = simp (e, f)

-- what answers alike by any two pages that are not accepted answers alike by a page and by what `fitting` makes of it
by_fitting : {A : Type 0} (f : List ℕ → A) → ((p q : List ℕ) → accepted p ≡ false → accepted q ≡ false → f p ≡ f q) →
    (p : List ℕ) → f (fitting p) ≡ f p
unfolding fitting
by_fitting f alike p =
    by (leb (length p) longest_page) (λ e. rw e)
    (λ e. rw e (alike [] p empty_wrong (too_long p (leb-false (length p) longest_page e))))

pub scan_fitting : (p : List ℕ) (r : TextInput) (o : Options) (chunk queue : List ℕ) → scan_of r (fitting p) o chunk queue ≡ scan_of r p o chunk queue
scan_fitting p r o chunk queue = by_fitting (λ x. scan_of r x o chunk queue) (λ x y a b. both_wrong x y a b r o chunk queue) p

-- ---- a write
-- by two pages that are not accepted a write is refused alike
write_wrong : (p q : List ℕ) → accepted p ≡ false → accepted q ≡ false → (w : TextOutput) (bytes queue : List ℕ) →
    write_of w p bytes queue ≡ write_of w q bytes queue
unfolding write_of write_refusal
write_wrong p q e f w bytes queue = by (sound (machine_of w)) (λ s. simp (s, e, f)) (λ s. simp (s, e, f))

pub write_fitting : (p : List ℕ) (w : TextOutput) (bytes queue : List ℕ) → write_of w (fitting p) bytes queue ≡ write_of w p bytes queue
write_fitting p w bytes queue = by_fitting (λ x. write_of w x bytes queue) (λ x y a b. write_wrong x y a b w bytes queue) p
