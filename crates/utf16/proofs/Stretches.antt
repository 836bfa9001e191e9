-- Stretches: of units without surrogates, found by their bytes; of characters that have one unit.
--     to_more        a block more
--     plain_list     such units give themselves, and then what the others give
--     short_more, short_list   the same of characters of one unit
use Prim.Native.Nat.{ℕ, zero, suc, ◌+◌, ◌*◌, ◌/◌, ◌≤◌, ◌<◌}
use mathlib.Core.Path.{◌≡◌, refl, ap, ◌∙◌}
use mathlib.Core.Bool.{true, false, ◌&&◌, ◌||◌}
use mathlib.Core.List.{List, [], ◌∷◌, ◌++◌}
use native.Mathlib.Omega.{arith}
use borrow.Author.Tests.{le-leb, lt-leb}
use lib.Dec.{leb}
use lib.ListN.{length, get_or, take, drop}
use Rattle.common.proofs.Kit.{never, by_lt}
use Rattle.common.proofs.Places.{joined}
use Rattle.utf16.specs.declared.ByteOrder.{ByteOrder}
use Rattle.utf16.specs.declared.ByteOrder.TheVariants.{Little, Big}
use Rattle.utf16.specs.Utf16.{first_byte, second_byte, serialised, utf16_of}
use Rattle.utf16.specs.Reading.{unit_of, is_high, is_low, chars_in}
use Rattle.utf16.specs.Promises.{Bytes}
use Rattle.utf16.specs.Inner.{plain_byte, PlainBytes, PlainTo, OneUnit, OneUnitTo}
use Rattle.utf16.proofs.Units.{unit_at}
use Rattle.utf16.proofs.Rows.{row_one, utf16_cons}
use Rattle.utf16.proofs.Pairs.{surrogate_range, neither}
use Rattle.utf16.proofs.Texts.{char_itself}

-- ---- one unit
-- a surrogate has a high byte h from D8 to DF
outside : (h l : ℕ) → l < 256 → plain_byte h ≡ true → leb 0xD800 (h * 256 + l) && leb (h * 256 + l) 0xDFFF ≡ false
outside h l k p =
    by_lt h 0xD8 (λ a. simp (lt-leb 0xD800 (h * 256 + l) (omega arith)))
    (λ a. by_lt 0xDF h
    (λ b. simp (le-leb 0xD800 (h * 256 + l) (omega arith), lt-leb (h * 256 + l) 0xDFFF (omega arith)))
    (λ b. never (simp (le-leb 0xD8 h a, le-leb h 0xDF b) at p)))

plain_unit : (o : ByteOrder) (a b : ℕ) → a < 256 → b < 256 → plain_byte a ≡ true → plain_byte b ≡ true →
    is_high (unit_of o a b) || is_low (unit_of o a b) ≡ false
plain_unit Big a b h g p q = surrogate_range (a * 256 + b) ∙ outside a b g p
plain_unit Little a b h g p q =
    let e : a + b * 256 ≡ b * 256 + a = omega arith in
    rw e (surrogate_range (b * 256 + a) ∙ outside b a h q)

-- ---- by places
pub to_more : (bs : List ℕ) (f i m : ℕ) → Bytes bs → PlainTo bs f i → i + m ≤ length bs / 2 → PlainBytes bs (2 * i) (2 * i + 2 * m) → PlainTo bs f (i + m)
to_more bs f i m k t h p =
    record {
      begun = omega (arith, t.begun);
      inside = h;
      each =
          λ o x l g.
          by_lt x i (λ a. t.each o x l a)
          (λ a.
          rw (unit_at o bs x (omega arith))
          (plain_unit o (get_or bs (2 * x) 0) (get_or bs (2 * x + 1) 0) (k (2 * x)) (k (2 * x + 1)) (p (2 * x) (omega arith) (omega arith))
          (p (2 * x + 1) (omega arith) (omega arith))));
    }

-- ---- what they give
pub plain_list : (m : ℕ) (us : List ℕ) → m ≤ length us → ((x : ℕ) → x < m → is_high (get_or us x 0) || is_low (get_or us x 0) ≡ false) →
    chars_in us ≡ take m us ++ chars_in (drop m us)
plain_list zero us h p = refl
plain_list (suc m) [] h p = absurd (omega arith)
plain_list (suc m) (u ∷ us) h p =
    let n = neither (is_high u) (is_low u) (p 0 (omega arith)) in
    rw (n.1, char_itself u (get_or us 0 0) n.0)
    (ap (λ (l : List ℕ). u ∷ l) (plain_list m us (omega arith) (λ x l. p (suc x) (omega arith))))

-- ---- characters of one unit
pub short_more : (cs : List ℕ) (f i m : ℕ) → OneUnitTo cs f i → i + m ≤ length cs → OneUnit cs i (i + m) → OneUnitTo cs f (i + m)
short_more cs f i m t h p =
    record { begun = omega (arith, t.begun); inside = h; each = joined (λ x. get_or cs x 0 < 0x10000) f i (i + m) t.each p }

-- they are their own units
pub short_list : (o : ByteOrder) (m : ℕ) (cs : List ℕ) → m ≤ length cs → ((x : ℕ) → x < m → get_or cs x 0 < 0x10000) →
    utf16_of o cs ≡ serialised o (take m cs) ++ utf16_of o (drop m cs)
short_list o zero cs h p = refl
short_list o (suc m) [] h p = absurd (omega arith)
short_list o (suc m) (c ∷ cs) h p =
    utf16_cons o c cs
    ∙ rw (row_one c (p 0 (omega arith)))
    (ap (λ (l : List ℕ). first_byte o c ∷ second_byte o c ∷ l) (short_list o m cs (omega arith) (λ x l. p (suc x) (omega arith))))
