-- Characters as units, and back. The units of characters hold no unpaired surrogate and give the characters (`units_read`, by going
-- through the characters); units without an unpaired surrogate are those of the characters they give (`chars_read`, by going through the
-- units, a pair at once).
--     char_itself       a unit that is no high surrogate gives itself
--     Decodes           bytes are even in number, hold no unpaired surrogate and give these characters
--     decodes_of, encodes_of, encodes_exactly   bytes encode characters exactly where they are even in number, hold no unpaired surrogate and give them
use Prim.Native.Nat.{ℕ, suc, ◌+◌, ◌-◌, ◌*◌, ◌/◌, ◌%◌, ◌≤◌, ◌<◌}
use mathlib.Core.Path.{◌≡◌, refl, sym, ap, ◌∙◌}
use mathlib.Core.Bool.{true, false, ◌&&◌, ◌||◌}
use mathlib.Core.List.{List, [], ◌∷◌}
use mathlib.Core.Logic.{◌↔◌}
use native.Mathlib.Omega.{arith}
use lib.ListN.{length}
use Rattle.common.proofs.Kit.{never, by, by_lt, both_true, both}
use Rattle.scalars.specs.Chars.{is_char, are_chars}
use Rattle.scalars.proofs.Rows.{char_lt, char_gap, char_low, char_high}
use Rattle.utf16.specs.declared.ByteOrder.{ByteOrder}
use Rattle.utf16.specs.Utf16.{units_of, units_all, utf16_of, Encodes}
use Rattle.utf16.specs.Reading.{units_in, is_high, is_low, next, unpaired_from, unpaired_in, char_of, chars_in}
use Rattle.utf16.specs.Promises.{Bytes}
use Rattle.utf16.proofs.Units.{units_back, bytes_back, Sixteen, units_low}
use Rattle.utf16.proofs.Rows.{row_one, row_two, length_serial}
use Rattle.utf16.proofs.Pairs.{neither, high_bounds, low_bounds, high_not_low, high_of, low_of, plain_turn, pair_turn, unpaired_turn}

-- ---- one character
char_plain : (c : ℕ) → is_char c ≡ true → c < 0x10000 → (is_high c ≡ false) × (is_low c ≡ false)
char_plain c s h = (
  by (is_high c) (λ e. absurd (omega (arith, high_bounds c e, char_gap c s (high_bounds c e).0))) (λ e. e),
  by (is_low c) (λ e. absurd (omega (arith, low_bounds c e, char_gap c s (omega (arith, low_bounds c e))))) (λ e. e),
)

plain_char : (u : ℕ) → u < 0x10000 → is_high u ≡ false → is_low u ≡ false → is_char u ≡ true
plain_char u h p q =
    by_lt u 0xD800 (λ a. char_low u a)
    (λ a. by_lt 0xDFFF u (λ b. char_high u (omega arith) (omega arith))
    (λ b. by_lt 0xDBFF u (λ d. never (sym q ∙ low_of u (omega arith) b)) (λ d. never (sym p ∙ high_of u a d))))

pub char_itself : (u after : ℕ) → is_high u ≡ false → char_of u after ≡ u
unfolding char_of
char_itself u after p = rw p

pair_char : (u v : ℕ) → is_high u ≡ true → char_of u v ≡ 0x10000 + u % 0x400 * 0x400 + v % 0x400
unfolding char_of
pair_char u v p = rw p

-- ---- a pair: u = D800 + q and v = DC00 + r, with q = u % 400 and r = v % 400, give c = 10000 + 400 × q + r
module _ (u v : ℕ) (p : is_high u ≡ true) (q : is_low v ≡ true) where
  abbrev c : ℕ
  c = 0x10000 + u % 0x400 * 0x400 + v % 0x400

  pair_units : units_of c ≡ u ∷ v ∷ []
  pair_units =
      let a = high_bounds u p in
      let b = low_bounds v q in
      let d : 0xD800 + (c - 0x10000) / 0x400 ≡ u = omega (arith, a) in
      let e : 0xDC00 + (c - 0x10000) % 0x400 ≡ v = omega (arith, b) in
      row_two c (omega arith) ∙ rw (d, e)

  pair_is_char : is_char c ≡ true
  pair_is_char = char_high c (omega arith) (omega arith)

module _ (c : ℕ) (g : 0x10000 ≤ c) (h : c < 0x110000) where
  abbrev u : ℕ
  u = 0xD800 + (c - 0x10000) / 0x400

  abbrev v : ℕ
  v = 0xDC00 + (c - 0x10000) % 0x400

  units_high : is_high u ≡ true
  units_high = high_of u (omega arith) (omega arith)

  units_are_low : is_low v ≡ true
  units_are_low = low_of v (omega arith) (omega arith)

  units_char : char_of u v ≡ c
  units_char = pair_char u v units_high ∙ omega arith

-- ---- a text
-- what units say of the characters cs, read from place i on
abbrev Give : ℕ → List ℕ → List ℕ → Type 0
Give i us cs = (unpaired_from i 0 us ≡ []) × (chars_in us ≡ cs)

units_read : (cs : List ℕ) (i : ℕ) → are_chars cs ≡ true → Give i (units_all cs) cs
units_read [] i s = (refl, refl)
units_read (c ∷ cs) i s =
    let t = both_true (is_char c) (are_chars cs) s in
    by_lt c 0x10000
    (λ h.
    let n = char_plain c t.0 h in
    let r = units_read cs (suc i) t.1 in
    rw (row_one c h) ((plain_turn i c (units_all cs) n.0 n.1).0 ∙ r.0, rw (n.1, char_itself c (next (units_all cs)) n.0, r.1)))
    (λ g.
    let h = char_lt c t.0 in
    let r = units_read cs (suc (suc i)) t.1 in
    let p = units_high c g h in
    let q = units_are_low c g h in
    rw (row_two c g)
    ((pair_turn i (u c g h) (v c g h) (units_all cs) p q).0 ∙ r.0, rw (high_not_low (u c g h) p, q, units_char c g h, r.1)))

-- the units are those of the characters they give, which are characters
abbrev Written : List ℕ → Type 0
Written us = (units_all (chars_in us) ≡ us) × (are_chars (chars_in us) ≡ true)

plain_written : (u : ℕ) (us : List ℕ) → u < 0x10000 → is_high u ≡ false → is_low u ≡ false → Written us → Written (u ∷ us)
plain_written u us h p q w =
    let e = char_itself u (next us) p in
    rw (q, e, row_one u h) (rw w.0, both (plain_char u h p q) w.1)

pair_written : (u v : ℕ) (us : List ℕ) → is_high u ≡ true → is_low v ≡ true → Written us → Written (u ∷ v ∷ us)
pair_written u v us p q w =
    rw (high_not_low u p, q, pair_char u v p, pair_units u v p q) (rw w.0, both (pair_is_char u v p q) w.1)

no_unpaired : (i u : ℕ) (us : List ℕ) → is_high u || is_low u ≡ true → is_high u && is_low (next us) ≡ false → unpaired_from i 0 (u ∷ us) ≡ [] → ⊥
no_unpaired i u us s n e = let l = sym (unpaired_turn i u us s n) ∙ e in omega (arith, ap length l)

chars_read : (us : List ℕ) (i : ℕ) → Sixteen us → unpaired_from i 0 us ≡ [] → Written us
chars_read [] i k e = (refl, refl)
chars_read (u ∷ []) i k e =
    by (is_high u || is_low u)
    (λ s. by (is_high u && is_low 0)
    (λ t. absurd (omega (arith, low_bounds 0 (both_true (is_high u) (is_low 0) t).1)))
    (λ t. absurd (no_unpaired i u [] s t e)))
    (λ s. let n = neither (is_high u) (is_low u) s in plain_written u [] (k 0) n.0 n.1 (refl, refl))
chars_read (u ∷ v ∷ us) i k e =
    by (is_high u || is_low u)
    (λ s. by (is_high u && is_low v)
    (λ t.
    let b = both_true (is_high u) (is_low v) t in
    pair_written u v us b.0 b.1
    (chars_read us (suc (suc i)) (λ j. k (suc (suc j))) (sym (pair_turn i u v us b.0 b.1).0 ∙ e)))
    (λ t. absurd (no_unpaired i u (v ∷ us) s t e)))
    (λ s.
    let n = neither (is_high u) (is_low u) s in
    plain_written u (v ∷ us) (k 0) n.0 n.1
    (chars_read (v ∷ us) (suc i) (λ j. k (suc j)) (sym (plain_turn i u (v ∷ us) n.0 n.1).0 ∙ e)))

-- ---- bytes
-- the bytes are even in number, hold no unpaired surrogate and give the characters cs
pub record Decodes (o : ByteOrder) (bs cs : List ℕ) : Type 0 where
  pub even : length bs % 2 ≡ 0
  pub paired : unpaired_in (units_in o bs) ≡ []
  pub gives : chars_in (units_in o bs) ≡ cs

module _ (o : ByteOrder) where
  pub decodes_of : (bs cs : List ℕ) → Encodes o bs cs → Decodes o bs cs
  unfolding utf16_of unpaired_in
  decodes_of bs cs e =
      let r = units_read cs 0 e.chars in
      rw e.bytes
      record {
        even = omega (arith, length_serial o (units_all cs));
        paired = rw (units_back o (units_all cs)) r.0;
        gives = rw (units_back o (units_all cs)) r.1;
      }

  pub encodes_of : (bs cs : List ℕ) → Bytes bs → Decodes o bs cs → Encodes o bs cs
  unfolding utf16_of unpaired_in
  encodes_of bs cs k d =
      let w = chars_read (units_in o bs) 0 (units_low o bs k) d.paired in
      rw (← d.gives)
      record { chars = w.1; bytes = sym (rw w.0 (bytes_back o bs k d.even)) }

  pub encodes_exactly : (bs cs : List ℕ) → Bytes bs → Encodes o bs cs ↔ Decodes o bs cs
  encodes_exactly bs cs k = (decodes_of bs cs, encodes_of bs cs k)
