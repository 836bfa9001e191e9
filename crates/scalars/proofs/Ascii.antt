-- A run of ASCII bytes is as many characters.
--     to_more                      the place that a search comes to, and some behind it
--     over                         the loops of `valid_prefix` and `decode_utf8`, after a character and a run behind it
use Prim.Native.Nat.{ℕ, zero, suc, ◌+◌, ◌-◌, ◌≤◌, ◌<◌}
use mathlib.Core.Path.{◌≡◌, refl, sym, ◌∙◌}
use mathlib.Core.List.{List}
use native.Mathlib.Nat.{add-zero}
use native.Mathlib.Numerals.{add-one}
use native.Mathlib.Omega.{arith}
use lib.ListN.{length, take, drop, get_or, set, length-set}
use lib.Seq.{sets, drop-cons}
use borrow.Author.Tests.{lt-ltb}
use Rattle.scalars.specs.Utf8.{utf8_step_of}
use Rattle.scalars.specs.Inner.{Ascii, AsciiTo}
use Rattle.scalars.proofs.Steps.{lead_step}
use Rattle.scalars.proofs.Texts.{Decoding, decoding_again}
use Rattle.common.proofs.Places.{joined}
use Rattle.std.specs.Prelude.{Some}

module _ (bs : List ℕ) (f : ℕ) where
  pub to_more : (stop m t : ℕ) → AsciiTo bs f stop m → m ≤ t → t ≤ stop → Ascii bs m t → AsciiTo bs f stop t
  to_more stop m t a o l h = record { begun = omega (arith, a.begun); low = l; each = joined (λ x. get_or bs x 0 < 0x80) f m t a.each h }

module _ (bs out₀ : List ℕ) where
  ascii_step : (at : ℕ) → at < length bs → get_or bs at 0 < 0x80 → utf8_step_of bs at ≡ Some ((get_or bs at 0), (at + 1))
  ascii_step at l h = sym (lead_step bs at (get_or bs at 0) l refl) ∙ rw (lt-ltb (get_or bs at 0) 0x80 h)

  over_by : (n : ℕ) (out : List ℕ) (k at : ℕ) → Decoding bs out₀ out k at → k + n ≤ length out → at + n ≤ length bs → Ascii bs at (at + n)
      → Decoding bs out₀ (sets out k (take n (drop at bs))) (k + n) (at + n)
  over_by zero out k at d r l h = rw (add-zero, add-zero) d
  over_by (suc n) out k at d r l h =
      let b = get_or bs at 0 in
      let i : at < length bs = omega arith in
      let p : at + suc n ≡ at + 1 + n = omega arith in
      let q : k + suc n ≡ k + 1 + n = omega arith in
      let e = ascii_step at i (h at (omega arith) (omega arith)) in
      rw (p, q, drop-cons bs at 0, ← add-one at, ← add-one k)
      (over_by n (set out k b) (k + 1) (at + 1) (decoding_again bs out₀ out k at b (at + 1) d (omega arith) e)
      (simp length-set (omega arith)) (omega arith) (λ x m o. h x (omega arith) (omega arith)))

  pub over : (out : List ℕ) (k at c next end : ℕ) → Decoding bs out₀ out k at → utf8_step_of bs at ≡ Some (c, next)
      → AsciiTo bs next (length bs) end → k + 1 + (end - next) ≤ length out
      → Decoding bs out₀ (sets (set out k c) (k + 1) (take (end - next) (drop next bs))) (k + 1 + (end - next)) end
  over out k at c next end d e a r =
      let n : next + (end - next) ≡ end = omega (arith, a.begun) in
      rw n at
      (over_by (end - next) (set out k c) (k + 1) next (decoding_again bs out₀ out k at c next d (omega arith) e) (simp length-set r)
      (omega (arith, a.begun, a.low)) (λ x m h. a.each x m (omega (arith, a.begun))))
