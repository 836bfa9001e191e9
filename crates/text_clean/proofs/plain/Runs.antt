-- Runs of plain bytes and of plain characters, longer and longer from a place on.
--     block_more          a block of plain bytes behind plain ones, and what is left behind it
--     prefix_more         the plain bytes that begin what is left
--     Going               a run of plain characters at the head of a loop: its bytes are the encoding of its characters
--     run_on              plain bytes behind it, or none: each is a character, and its own encoding
--     run_char            a character of a gap behind it
--     part_join           two parts of a list that join
use Prim.Native.Nat.{ℕ, zero, suc, ◌+◌, ◌-◌, ◌≤◌, ◌<◌}
use mathlib.Core.Path.{◌≡◌, refl, sym, ap, ◌∙◌}
use mathlib.Core.Bool.{Bool, true, false, ◌&&◌, ◌||◌}
use mathlib.Core.List.{List, [], ◌∷◌, ◌++◌, append-nil}
use mathlib.Core.Logic.{◌⊎◌, inl, inr, ⊎_elim}
use native.Mathlib.Omega.{arith}
use lib.Dec.{eqb, leb}
use lib.ListN.{length, get_or, take, drop, length-append, length-drop, get_or-append, take-append-drop}
use lib.Seq.{take-add, drop-drop, drop-append_seam, get_or-drop, get_or-append-add}
use Rattle.std.specs.List.{list_all, prefix_len}
use Rattle.std.proofs.lemmas.List.{get_or-take}
use Rattle.std.proofs.lemmas.List.Folds.{length-prefix_len}
use Rattle.std.proofs.lemmas.List.Sums.{prefix_len_passes}
use borrow.Author.Tests.{leb-true, eqb-true, ne_eqb}
use Rattle.common.proofs.Kit.{never, by_lt, both_true, or_cases}
use Rattle.common.proofs.Places.{joined}
use Rattle.ranges.specs.declared.Range.{Range}
use Rattle.ranges.specs.Inner.{in_range}
use Rattle.scalars.specs.Chars.{is_char}
use Rattle.scalars.specs.Utf8.{encode_of, encode_all, begins, utf8_step_of}
use Rattle.scalars.proofs.Rows.{char_low, row1}
use Rattle.scalars.proofs.Steps.{step_exactly}
use Rattle.scalars.proofs.Texts.{step_on, encode_append}
use Rattle.stretch.specs.Stretch.{part, in_gap, in_sought}
use Rattle.stretch.specs.Plain.{Plain, Gap, ascii_or}
use Rattle.stretch.proofs.Clear.{sought_kept}
use Rattle.stretch.proofs.Parts.{part_length, part_at}
use Rattle.text_input_parts.specs.Appended.{last_of}
use Rattle.text_input_parts.proofs.Last.{last_append}
use Rattle.text_clean.specs.Inner.{plain_byte, PlainTo, PlainRun}
use Rattle.std.specs.Prelude.{Some}

-- ---- bytes
all_plain : (bs : List ℕ) → list_all plain_byte bs ≡ true → (k : ℕ) → k < length bs → plain_byte (get_or bs k 0) ≡ true
all_plain [] h k low = absurd (omega arith)
all_plain (b ∷ bs) h zero low = (both_true (plain_byte b) (list_all plain_byte bs) h).0
all_plain (b ∷ bs) h (suc k) low = all_plain bs (both_true (plain_byte b) (list_all plain_byte bs) h).1 k (omega arith)

-- plain bytes ds behind it
further : (bs : List ℕ) (f at n : ℕ) (ds rest : List ℕ) → PlainTo bs f at → drop at bs ≡ ds ++ rest → n ≡ length ds
    → ((k : ℕ) → k < length ds → plain_byte (get_or ds k 0) ≡ true) → PlainTo bs f (at + n)
further bs f at n ds rest a e l h =
    record {
      on = omega (arith, a.on);
      low = omega (arith, a.low, simp (length-append, length-drop) at (ap length e));
      each = joined (λ x. plain_byte (get_or bs x 0) ≡ true) f at (at + n) a.each
          (λ x low high.
          let e₁ : at + (x - at) ≡ x = omega arith in
          let e₂ = get_or-drop at bs (x - at) 0 in
          let e₃ = get_or-append ds rest 0 (x - at) (omega arith) in
          let p = h (x - at) (omega arith) in
          rw (← e₁, ← e₂, e, e₃) p);
    }

-- a block of plain bytes, and what is left behind it
pub block_more : (bs : List ℕ) (f at : ℕ) (block rest : List ℕ) → PlainTo bs f at → drop at bs ≡ block ++ rest → length block ≡ 16
    → list_all plain_byte block ≡ true → PlainTo bs f (at + 16) × (rest ≡ drop (at + 16) bs)
block_more bs f at block rest a e l h = (
  further bs f at 16 block rest a e (sym l) (all_plain block h),
  rw (← drop-drop 16 at bs, e, ← l) (sym (drop-append_seam block rest)),
)

-- the n plain bytes that begin what is left
pub prefix_more : (bs : List ℕ) (f at n : ℕ) → PlainTo bs f at → n ≡ length (take (prefix_len plain_byte (drop at bs)) (drop at bs))
    → PlainTo bs f (at + n)
prefix_more bs f at n a e =
    let d = drop at bs in
    let m = prefix_len plain_byte d in
    further bs f at n (take m d) (drop m d) a (sym (take-append-drop m d)) e
    (λ k low.
    let lt : k < m = omega (arith, length-prefix_len plain_byte d) in
    rw get_or-take (prefix_len_passes plain_byte d k 0 lt))

-- a byte between two others, or 9
between : (lo hi b : ℕ) → (leb lo b && leb b hi) || eqb b 9 ≡ true → ((lo ≤ b) × (b ≤ hi)) ⊎ (b ≡ 9)
between lo hi b h =
    ⊎_elim (λ t. let u = both_true (leb lo b) (leb b hi) t in inl (leb-true lo b u.0, leb-true b hi u.1))
    (λ t. inr (eqb-true b 9 t)) (or_cases (leb lo b && leb b hi) (eqb b 9) h)

-- a plain byte is below 80
low_byte : (b : ℕ) → plain_byte b ≡ true → b < 0x80
unfolding plain_byte
low_byte b h = let c = between _ _ b h in ⊎_elim (λ t. omega arith) (λ t. omega arith) c

-- and no newline
no_line : (b : ℕ) → plain_byte b ≡ true → b ≡ 0x0A → ⊥
unfolding plain_byte
no_line b h e = let c = between _ _ b h in ⊎_elim (λ t. omega arith) (λ t. omega arith) c

second : (a b c : Bool) → b ≡ true → (a || b) || c ≡ true
second true b c h = refl
second false b c h = rw h

-- so it is a plain character
module _ (gap : Range) (g : Gap gap) where
  sought : (b : ℕ) → plain_byte b ≡ true → in_sought (ascii_or gap) b ≡ true
  unfolding plain_byte in_range
  sought b h =
      let c = or_cases _ (eqb b 9) h in
      ⊎_elim (λ t. second (in_range (record { first = 9; last = 0xa }) b) _ (in_gap gap b) t) (λ t. let e : b ≡ 9 = eqb-true _ _ t in rw e) c

  pub plain_byte_lem : (b : ℕ) → plain_byte b ≡ true → (is_char b ≡ true) × Plain b
  plain_byte_lem b h =
      (char_low b (omega (arith, low_byte b h)), sought_kept gap g b (sought b h) (ne_eqb b 0x0A (no_line b h)))

-- ---- lists
pub part_join : (bs : List ℕ) (f i t : ℕ) → f ≤ i → i ≤ t → part f i bs ++ part i t bs ≡ part f t bs
part_join bs f i t l g =
    let e : f + (i - f) ≡ i = omega arith in
    let n : t - f ≡ (i - f) + (t - i) = omega arith in
    rw (n, take-add (i - f) (t - i) (drop f bs), drop-drop (i - f) f bs, e)

encode_ascii : (l : List ℕ) → ((x : ℕ) → x < length l → get_or l x 0 < 0x80) → encode_all l ≡ l
encode_ascii [] h = refl
encode_ascii (b ∷ l) h =
    let e = row1 b (h 0 (omega arith)) in
    let r = encode_ascii l (λ x g. h (suc x) (omega arith)) in
    rw (e, r)

begins_take : (ws bs : List ℕ) → begins ws bs ≡ true → take (length ws) bs ≡ ws
begins_take [] bs h = refl
begins_take (w ∷ ws) [] h = never h
begins_take (w ∷ ws) (b ∷ bs) h =
    let p = both_true (eqb w b) (begins ws bs) h in
    let e = eqb-true w b p.0 in
    let r = begins_take ws bs p.1 in
    rw e (ap (λ (l : List ℕ). b ∷ l) r)

last_at : (l : ℕ) (w : List ℕ) (n : ℕ) → length w ≡ suc n → last_of l w ≡ get_or w n 0
last_at l [] n h = absurd (omega arith)
last_at l (x ∷ []) n h = let e : n ≡ 0 = omega arith in rw e
last_at l (x ∷ y ∷ w) n h =
    let e : n ≡ suc (length w) = omega arith in
    rw e (last_at x (y ∷ w) (length w) refl)

-- each of them is a character, and plain
abbrev Plains : List ℕ → Type 0
Plains cs = (x : ℕ) → x < length cs → (is_char (get_or cs x 0) ≡ true) × Plain (get_or cs x 0)

plains_append : (cs ds : List ℕ) → Plains cs → Plains ds → Plains (cs ++ ds)
plains_append cs ds a b x h =
    by_lt x (length cs) (λ l. rw (get_or-append cs ds 0 x l) (a x l))
    (λ l.
    let k = x - length cs in
    let e : x ≡ length cs + k = omega arith in
    rw (e, get_or-append-add cs ds k 0) (b k (omega (arith, length-append cs ds))))

-- ---- runs
-- the run so far, which has no more characters than bytes before its end
pub record Going (bs : List ℕ) (f at chars last : ℕ) : Type 0 where
  pub run : PlainRun bs f (record { at = at; chars = chars; last = last })
  pub few : chars ≤ at

module _ (bs : List ℕ) (f : ℕ) where
  -- characters ds behind it, at least one
  behind : (at chars last t d : ℕ) (ds : List ℕ) → Going bs f at chars last → at + length ds ≤ t → t ≤ length bs
      → part at t bs ≡ encode_all ds → Plains ds → ((l : ℕ) → last_of l ds ≡ d) → Going bs f t (chars + length ds) d
  behind at chars last t d ds g on low e each last_is =
      let r = g.run in
      record {
        run =
            record {
              on = omega (arith, r.on);
              low = low;
              chars = r.chars ++ ds;
              bytes =
                  sym (part_join bs f at t r.on (omega arith)) ∙ rw (r.bytes, e) (sym (encode_append r.chars ds));
              each = plains_append r.chars ds r.each each;
              count = rw length-append (ap (λ n. n + length ds) r.count);
              last = sym (last_is (last_of 0 r.chars)) ∙ last_append 0 r.chars ds;
            };
        few = omega (arith, g.few);
      }

  module _ (gap : Range) (plain : Gap gap) (at chars last : ℕ) (g : Going bs f at chars last) where
    run_bytes : (t : ℕ) → PlainTo bs at t → at < t → Going bs f t (chars + (t - at)) (get_or bs (t - 1) 0)
    run_bytes t p h =
        let n = part_length bs at t p.on p.low in
        let low : (x : ℕ) → x < length (part at t bs) → plain_byte (get_or (part at t bs) x 0) ≡ true =
        λ x l. rw (part_at bs at t p.on x (omega arith)) (p.each (at + x) (omega arith) (omega arith)) in
        let k : at + (t - 1 - at) ≡ t - 1 = omega arith in
        rw n at
        (behind at chars last t (get_or bs (t - 1) 0) (part at t bs) g (omega arith) p.low
        (sym (encode_ascii (part at t bs) (λ x l. low_byte _ (low x l))))
        (λ x l. plain_byte_lem gap plain _ (low x l))
        (λ l. last_at l (part at t bs) (t - 1 - at) (omega arith) ∙ part_at bs at t p.on (t - 1 - at) (omega arith) ∙ rw k))

    -- plain bytes up to t behind it, or none
    pub run_on : (t a k l : ℕ) → PlainTo bs at t
        → ((at < t) × (a ≡ t) × (k ≡ chars + (t - at)) × (l ≡ get_or bs (t - 1) 0)) ⊎ ((a ≡ at) × (k ≡ chars) × (l ≡ last))
        → (at ≤ a) × Going bs f a k l
    run_on t a k l p (inl e) = (omega (arith, e.0, e.1), rw (e.1, e.2, e.3) (run_bytes t p e.0))
    run_on t a k l p (inr e) = (omega (arith, e.0), rw (e.0, e.1, e.2) g)

    pub run_char : (c next : ℕ) → utf8_step_of bs at ≡ Some (c, next) → in_gap gap c ≡ true → Going bs f next (chars + 1) c
    run_char c next e i =
        let s = (step_exactly bs at c next).0 e in
        let o = step_on bs at c next e in
        let k : next - at ≡ length (encode_of c) = omega (arith, s.1) in
        behind at chars last next c (c ∷ []) g (omega arith) o.1
        (rw (k, append-nil) (begins_take (encode_of c) (drop at bs) s.0.bytes))
        (λ x h. let z : x ≡ 0 = omega arith in rw z (s.0.char, plain c i))
        (λ l. refl)
