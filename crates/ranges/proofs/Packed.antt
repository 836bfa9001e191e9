-- Packed lists. What is stored can be read back, so a piece of a range is a range of the list that the numbers stand for; and the pieces
-- of a range adjoin, so together they rise, and have members, as the range does.
--     unpacked_at, unpacked_last     the range of the number at a place is the one at that place of the lists that the numbers stand for
--     first_back, last_back     a range is read back from its number
--     in_bits, low_bits         where first and length stand, in bits
--     fits                      one number of 32 bits is enough exactly for a range of at most 2,048 characters
--     packed_each               the numbers of a table are those of its ranges, one after the other
--     packed_stands             so a packed list stands for its table: what is known of ranges carries over
--     of32, packed_of32         its numbers have 32 bits
--     packable, packable_of_rises     which tables can be packed: those that rise, for one
--     rises_packed, member_packed     both, of a list that is the packed one of a table that rises
use mathlib.Core.Path.{◌≡◌, refl, sym, ap, ap₂, ◌∙◌}
use mathlib.Core.Bool.{Bool, true, ◌&&◌, ◌||◌, and-false}
use mathlib.Core.List.{List, [], ◌∷◌, ◌++◌, append-nil}
use Prim.Native.Nat.{ℕ, zero, suc, ◌+◌, ◌-◌, ◌*◌, ◌/◌, ◌^◌, ◌≤◌, ◌<◌}
use native.Mathlib.Omega.{arith}
use lib.Bits.{bit_and, bit_or, and_mask, or_shifted}
use lib.Dec.{leb, ltb}
use lib.ListN.{get_or, get_or-map}
use lib.Pow.{low, high}
use borrow.Author.Tests.{le-leb, lt-leb, lt-ltb, le-ltb, leb-true, ltb-true}
use Rattle.common.proofs.Kit.{by_lt, both, both_true}
use Rattle.ranges.specs.declared.Range.{Range}
use Rattle.ranges.specs.Ranges.{member, rises, firsts_of, lasts_of}
use Rattle.ranges.specs.Packed.{packed_range, first_in, last_in, firsts_in, lasts_in, pieces, packed, StandsFor}
use Rattle.ranges.specs.Inner.{range_in}

abbrev first_to_last : ℕ → ℕ → Range
first_to_last f l = record { first = f; last = l }

pub unpacked_at : (q : List ℕ) (i : ℕ) (r : Range) → r ≡ range_in (get_or q i 0)
    → r ≡ first_to_last (get_or (firsts_in q) i 0) (get_or (lasts_in q) i 0)
unfolding first_in last_in
unpacked_at q i r e = e ∙ sym (ap₂ first_to_last (get_or-map first_in q i 0) (get_or-map last_in q i 0))

pub unpacked_last : (q : List ℕ) (i : ℕ) (r : Range) → r ≡ range_in (get_or q i 0) → r.last ≡ get_or (lasts_in q) i 0
unpacked_last q i r e = ap (λ (x : Range). x.last) (unpacked_at q i r e)

-- One range, of which the first has 21 bits.
module _ (f l : ℕ) (h : f < 2 ^ 21) where
  pub first_back : first_in (packed_range f l) ≡ f
  unfolding first_in
  first_back = low (l - f) 21 h

  pub last_back : f ≤ l → last_in (packed_range f l) ≡ l
  unfolding first_in last_in
  last_back o = omega (arith, low (l - f) 21 h, high (l - f) 21 h)

  -- "the first character in the low 21 bits and the length less one above": from f to l there are l + 1 - f characters
  pub in_bits : f ≤ l → packed_range f l ≡ bit_or ((l + 1 - f - 1) * 2 ^ 21) f
  in_bits o = let e : l + 1 - f - 1 ≡ l - f = omega arith in rw e (sym (or_shifted (l - f) 21 f h))

  pub low_bits : bit_and (packed_range f l) 0x1FFFFF ≡ f
  low_bits = and_mask (packed_range f l) 21 ∙ low (l - f) 21 h

  -- "A range longer than 2,048 is stored as several": it has no place in one number of 32 bits, and every other has
  pub fits : ltb (packed_range f l) (2 ^ 32) ≡ ltb (l - f) 2048
  fits =
      by_lt (l - f) 2048 (λ s. lt-ltb (packed_range f l) (2 ^ 32) (omega arith) ∙ sym (lt-ltb (l - f) 2048 s))
      (λ s. le-ltb (packed_range f l) (2 ^ 32) (omega arith) ∙ sym (le-ltb (l - f) 2048 s))

-- A piece from f to m, and what follows it: from n to l.
module _ (f m n l : ℕ) (o : f ≤ m) (e : suc m ≡ n) (u : n ≤ l) where
  -- the piece ends by a bound if the range does
  ends_by : (d : ℕ) (b : Bool) → leb m d && (leb l d && b) ≡ leb l d && b
  ends_by d b = by_lt d l (λ s. simp (lt-leb l d s, and-false)) (λ s. simp (le-leb m d (omega arith)))

  -- the two have the characters of the range
  adjoining : (c : ℕ) (b : Bool) → (leb f c && leb c m) || ((leb n c && leb c l) || b) ≡ (leb f c && leb c l) || b
  adjoining c b =
      by_lt c f (λ s. simp (lt-leb f c s, lt-leb n c (omega arith)))
      (λ s. by_lt m c (λ t. simp (le-leb f c s, lt-leb c m t, le-leb n c (omega arith)))
      (λ t. simp (le-leb f c s, le-leb c m t, le-leb c l (omega arith))))

-- every number has 32 bits
abbrev pub of32 : List ℕ → Bool
of32 [] = true
of32 (n ∷ q) = ltb n (2 ^ 32) && of32 q

-- The pieces of the range from f to l, of which k are full, before the numbers q.
module _ (q : List ℕ) where
  pieces_rise : (k f l m : ℕ) → f + 2048 * k ≤ l → l < 2 ^ 21
      → rises m (firsts_in (pieces k f l ++ q)) (lasts_in (pieces k f l ++ q))
      ≡ leb m f && (leb f l && (leb l 0x10ffff && rises (suc l) (firsts_in q) (lasts_in q)))
  unfolding rises
  pieces_rise zero f l m o h = rw (first_back f l (omega arith), last_back f l (omega arith) (omega arith))
  pieces_rise (suc k) f l m o h =
      rw (
        first_back f (f + 2047) (omega arith),
        last_back f (f + 2047) (omega arith) (omega arith),
        pieces_rise k (f + 2048) l (suc (f + 2047)) (omega arith) h,
        le-leb f (f + 2047) (omega arith),
        le-leb (suc (f + 2047)) (f + 2048) (omega arith),
        le-leb (f + 2048) l (omega arith),
        le-leb f l (omega arith),
      )
      (ap (λ (b : Bool). leb m f && b) (ends_by f (f + 2047) (f + 2048) l (omega arith) (omega arith) (omega arith) 0x10ffff _))

  pieces_member : (k f l c : ℕ) → f + 2048 * k ≤ l → l < 2 ^ 21
      → member (firsts_in (pieces k f l ++ q)) (lasts_in (pieces k f l ++ q)) c ≡ (leb f c && leb c l) || member (firsts_in q) (lasts_in q) c
  unfolding member
  pieces_member zero f l c o h = rw (first_back f l (omega arith), last_back f l (omega arith) (omega arith))
  pieces_member (suc k) f l c o h =
      rw (
        first_back f (f + 2047) (omega arith),
        last_back f (f + 2047) (omega arith) (omega arith),
        pieces_member k (f + 2048) l c (omega arith) h,
      )
      (adjoining f (f + 2047) (f + 2048) l (omega arith) (omega arith) (omega arith) c _)

  pieces_of32 : (k f l : ℕ) → f + 2048 * k ≤ l → l < f + 2048 * k + 2048 → l < 2 ^ 21 → of32 (pieces k f l ++ q) ≡ of32 q
  pieces_of32 zero f l o u h = rw (lt-ltb (packed_range f l) (2 ^ 32) (omega arith))
  pieces_of32 (suc k) f l o u h =
      rw (lt-ltb (packed_range f (f + 2047)) (2 ^ 32) (omega arith)) (pieces_of32 k (f + 2048) l (omega arith) (omega arith) h)

-- each range of a table has a character, and its characters have 21 bits
abbrev pub packable : List (ℕ × ℕ) → Bool
packable [] = true
packable (r ∷ t) = (leb r.0 r.1 && ltb r.1 (2 ^ 21)) && packable t

-- a range is in bounds: it has a character, and its last has 21 bits
bounds : (r : ℕ × ℕ) (t : List (ℕ × ℕ)) → packable (r ∷ t) ≡ true → ((r.0 ≤ r.1) × (r.1 < 2 ^ 21)) × (packable t ≡ true)
bounds r t p =
    let x = both_true (leb r.0 r.1 && ltb r.1 (2 ^ 21)) (packable t) p in
    let y = both_true (leb r.0 r.1) (ltb r.1 (2 ^ 21)) x.0 in
    ((leb-true r.0 r.1 y.0, ltb-true r.1 (2 ^ 21) y.1), x.1)

packed_rise : (t : List (ℕ × ℕ)) → packable t ≡ true → (m : ℕ)
    → rises m (firsts_in (packed t)) (lasts_in (packed t)) ≡ rises m (firsts_of t) (lasts_of t)
unfolding rises
packed_rise [] p m = refl
packed_rise (r ∷ t) p m =
    let b = bounds r t p in
    pieces_rise (packed t) ((r.1 - r.0) / 2048) r.0 r.1 m (omega (arith, b.0.0)) b.0.1
    ∙ rw (packed_rise t b.1 (suc r.1))

packed_member : (t : List (ℕ × ℕ)) → packable t ≡ true → (c : ℕ)
    → member (firsts_in (packed t)) (lasts_in (packed t)) c ≡ member (firsts_of t) (lasts_of t) c
unfolding member
packed_member [] p c = refl
packed_member (r ∷ t) p c =
    let b = bounds r t p in
    pieces_member (packed t) ((r.1 - r.0) / 2048) r.0 r.1 c (omega (arith, b.0.0)) b.0.1 ∙ rw (packed_member t b.1 c)

-- each range is packed by itself
pub packed_each : (r : ℕ × ℕ) (t : List (ℕ × ℕ)) → packed (r ∷ t) ≡ packed (r ∷ []) ++ packed t
packed_each r t = rw (append-nil (pieces ((r.1 - r.0) / 2048) r.0 r.1))

-- "Each list still rises without overlap, and every class answers as before for each character."
pub packed_stands : (t : List (ℕ × ℕ)) → packable t ≡ true → StandsFor t (packed t)
packed_stands t p = record { rise_alike = packed_rise t p; same_members = packed_member t p }

-- "one 32-bit number": every number of a packed list is one
pub packed_of32 : (t : List (ℕ × ℕ)) → packable t ≡ true → of32 (packed t) ≡ true
packed_of32 [] p = refl
packed_of32 (r ∷ t) p =
    let b = bounds r t p in
    pieces_of32 (packed t) ((r.1 - r.0) / 2048) r.0 r.1 (omega (arith, b.0.0)) (omega (arith, b.0.0)) b.0.1
    ∙ packed_of32 t b.1

pub packable_of_rises : (m : ℕ) (t : List (ℕ × ℕ)) → rises m (firsts_of t) (lasts_of t) ≡ true → packable t ≡ true
unfolding rises
packable_of_rises m [] e = refl
packable_of_rises m (r ∷ t) e =
    let x = both_true (leb m r.0) _ e in
    let y = both_true (leb r.0 r.1) _ x.1 in
    let z = both_true (leb r.1 0x10ffff) _ y.1 in
    both
    (both y.0 (lt-ltb r.1 (2 ^ 21) (omega (arith, leb-true r.1 0x10ffff z.0))))
    (packable_of_rises (suc r.1) t z.1)

-- A list that is the packed one of a table that rises: it rises, and its members are the table's.
module _ (t : List (ℕ × ℕ)) (r : rises 0 (firsts_of t) (lasts_of t) ≡ true) {q : List ℕ} (e : q ≡ packed t) where
  pub rises_packed : rises 0 (firsts_in q) (lasts_in q) ≡ true
  rises_packed = rw e ((packed_stands t (packable_of_rises 0 t r)).rise_alike 0 ∙ r)

  pub member_packed : (c : ℕ) → member (firsts_in q) (lasts_in q) c ≡ member (firsts_of t) (lasts_of t) c
  member_packed c = rw e ((packed_stands t (packable_of_rises 0 t r)).same_members c)
