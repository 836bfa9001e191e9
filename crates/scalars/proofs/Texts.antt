-- Texts: the longest valid prefix, the two round trips, and the loops that read one.
-- `chars_of` goes on as the step says, so what it gives stands at the front (`runs`); any characters that stand there are
-- a start of it (`starts`), so nothing longer stands there.
--     encode_append            the encoding of joined texts is the joined encodings
--     chars_append, chars_parts   joined characters are characters, and so are the parts of characters
--     longest, longest_only    `chars_of` gives the characters of the longest valid prefix, and nothing else does
--     decode_encode            decoding the encoding of characters gives them
--     encode_decode            encoding what was decoded gives the bytes of the prefix
--     length_decode            no more characters are decoded than there are places
--     Decoding                 what holds at the head of the loops of `valid_prefix` and `decode_utf8`
--     decoding_begin ..        at the start, after a character, and where the places, the characters or the bytes end
use Prim.Native.Nat.{ℕ, zero, suc, ◌+◌, ◌-◌, ◌≤◌, ◌<◌}
use mathlib.Core.Path.{◌≡◌, refl, sym, ap, ◌∙◌}
use mathlib.Core.Bool.{true, ◌&&◌, and_assoc}
use mathlib.Core.List.{List, [], ◌∷◌, ◌++◌, append_assoc, append-nil}
use native.Mathlib.Omega.{arith}
use native.Mathlib.Nat.{zero-add, sub-zero}
use native.Mathlib.Numerals.{add-one}
use borrow.Author.Tests.{eq-eqb, eqb-true}
use lib.Dec.{eqb}
use lib.ListN.{length, take, drop, set, length-append, length-take, length-set}
use lib.Seq.{drop-drop, take_all, sets}
use Rattle.scalars.specs.declared.utf8.Prefix.{Prefix}
use Rattle.scalars.specs.Chars.{is_char, are_chars}
use Rattle.scalars.specs.Utf8.{encode_of, encode_all, begins, Stands, utf8_step_of, on_char, chars_from, chars_of, LongestPrefix, counts_of, decode_of, decode_places}
use Rattle.common.proofs.Kit.{never, both_true, both}
use Rattle.scalars.proofs.Rows.{length_encode}
use Rattle.scalars.proofs.Steps.{begins_long, stands_inside, step_exactly}
use Rattle.std.specs.Prelude.{Option, Some, None}

-- ---- bytes with which a list begins
begins_append : (ws vs bs : List ℕ) → begins (ws ++ vs) bs ≡ begins ws bs && begins vs (drop (length ws) bs)
begins_append [] vs bs = refl
begins_append (w ∷ ws) vs [] = refl
begins_append (w ∷ ws) vs (b ∷ bs) = rw (begins_append ws vs bs) (sym (and_assoc (eqb w b) (begins ws bs) _))

begins_self : (bs : List ℕ) → begins bs bs ≡ true
begins_self [] = refl
begins_self (b ∷ bs) = both (eq-eqb b b refl) (begins_self bs)

begins_take : (ws bs : List ℕ) → begins ws bs ≡ true → ws ≡ take (length ws) bs
begins_take [] bs h = refl
begins_take (w ∷ ws) [] h = never h
begins_take (w ∷ ws) (b ∷ bs) h =
    let p = both_true (eqb w b) (begins ws bs) h in
    let e = eqb-true w b p.0 in
    let r = begins_take ws bs p.1 in
    rw e (ap (λ (l : List ℕ). b ∷ l) r)

-- ---- texts that are joined
pub encode_append : (cs ds : List ℕ) → encode_all (cs ++ ds) ≡ encode_all cs ++ encode_all ds
encode_append [] ds = refl
encode_append (c ∷ cs) ds = rw (append_assoc, encode_append cs ds)

pub chars_append : (cs ds : List ℕ) → are_chars cs ≡ true → are_chars ds ≡ true → are_chars (cs ++ ds) ≡ true
chars_append [] ds h g = g
chars_append (c ∷ cs) ds h g = let k = both_true (is_char c) (are_chars cs) h in both k.0 (chars_append cs ds k.1 g)

pub chars_parts : (cs ds : List ℕ) → are_chars (cs ++ ds) ≡ true → (are_chars cs ≡ true) × (are_chars ds ≡ true)
chars_parts [] ds h = (refl, h)
chars_parts (c ∷ cs) ds h =
    let k = both_true (is_char c) (are_chars (cs ++ ds)) h in
    let q = chars_parts cs ds k.1 in (both k.0 q.0, q.1)

none_of : (cs : List ℕ) → length (encode_all cs) ≡ 0 → cs ≡ []
none_of [] h = refl
none_of (c ∷ cs) h = absurd (omega (arith, length_encode c, simp length-append at h))

-- ---- the longest valid prefix
pub step_on : (bs : List ℕ) (at c next : ℕ) → utf8_step_of bs at ≡ Some (c, next) → (at < next) × (next ≤ length bs)
step_on bs at c next e =
    let s = (step_exactly bs at c next).0 e in
    omega (arith, length_encode c, stands_inside bs at c s.0, s.1)

module _ (bs : List ℕ) where
  -- the characters cs stand at `at`, one after the other
  abbrev Runs : ℕ → List ℕ → Type 0
  Runs at cs = (are_chars cs ≡ true) × (begins (encode_all cs) (drop at bs) ≡ true)

  joins : (at c next : ℕ) (cs : List ℕ) → utf8_step_of bs at ≡ Some (c, next) → Runs next cs → Runs at (c ∷ cs)
  joins at c next cs e r =
      let s = (step_exactly bs at c next).0 e in
      (both s.0.char r.0, rw (begins_append, drop-drop, ← s.1) (both s.0.bytes r.1))

  on : (f at : ℕ) → ((next : ℕ) → Runs next (chars_from f bs next)) → (r : Option (ℕ × ℕ)) → utf8_step_of bs at ≡ r
      → Runs at (on_char r (λ next. chars_from f bs next))
  on f at go (Some (c, next)) e = joins at c next (chars_from f bs next) e (go next)
  on f at go None e = (refl, refl)

  runs : (f at : ℕ) → Runs at (chars_from f bs at)
  runs zero at = (refl, refl)
  runs (suc f) at = on f at (λ next. runs f next) (utf8_step_of bs at) refl

  -- what stands there starts with its first character, and goes on with the others
  module _ (at d : ℕ) (ds : List ℕ) (r : Runs at (d ∷ ds)) where
    parts : (begins (encode_of d) (drop at bs) ≡ true) × (begins (encode_all ds) (drop (at + length (encode_of d)) bs) ≡ true)
    parts = both_true _ _ (rw (begins_append, drop-drop) at r.1)

    first : Stands bs at d
    first = record { char = (both_true (is_char d) (are_chars ds) r.0).0; bytes = parts.0 }

    others : Runs (at + length (encode_of d)) ds
    others = ((both_true (is_char d) (are_chars ds) r.0).1, parts.1)

  starts : (ds : List ℕ) (f at : ℕ) → length bs ≤ f + at → Runs at ds → (es : List ℕ) × (chars_from f bs at ≡ ds ++ es)
  starts [] f at room r = (chars_from f bs at, refl)
  starts (d ∷ ds) zero at room r = absurd (omega (arith, length_encode d, stands_inside bs at d (first at d ds r)))
  starts (d ∷ ds) (suc f) at room r =
      let e = (step_exactly bs at d (at + length (encode_of d))).1 (first at d ds r, refl) in
      let p = starts ds f (at + length (encode_of d)) (omega (arith, length_encode d)) (others at d ds r) in
      (p.0, rw e (ap (λ (l : List ℕ). d ∷ l) p.1))

  size : (cs es : List ℕ) → chars_from (length bs) bs 0 ≡ cs ++ es → length (encode_all (chars_from (length bs) bs 0)) ≡ length (encode_all cs) + length (encode_all es)
  size cs es e = rw (e, encode_append, length-append)

  pub longest : LongestPrefix bs (chars_of bs)
  unfolding chars_of
  longest =
      record {
        chars = (runs (length bs) 0).0;
        starts = (runs (length bs) 0).1;
        most = λ ds v s. let p = starts ds (length bs) 0 (omega arith) (v, s) in omega (arith, size ds p.0 p.1);
      }

  pub longest_only : (cs : List ℕ) → LongestPrefix bs cs → cs ≡ chars_of bs
  unfolding chars_of
  longest_only cs g =
      let p = starts cs (length bs) 0 (omega arith) (g.chars, g.starts) in
      let l = g.most (chars_of bs) longest.chars longest.starts in
      let z : length (encode_all p.0) ≡ 0 = omega (arith, size cs p.0 p.1) in
      sym (p.1 ∙ rw (none_of p.0 z) (append-nil cs))

-- ---- round trips
pub decode_encode : (cs : List ℕ) → are_chars cs ≡ true → chars_of (encode_all cs) ≡ cs
decode_encode cs s =
    sym (longest_only (encode_all cs) cs
    (record { chars = s; starts = begins_self (encode_all cs); most = λ ds v p. begins_long (encode_all ds) (encode_all cs) p }))

pub encode_decode : (bs : List ℕ) → encode_all (chars_of bs) ≡ take (length (encode_all (chars_of bs))) bs
encode_decode bs = begins_take (encode_all (chars_of bs)) bs (longest bs).starts

-- ---- the loops
on_length : (f : ℕ) (bs : List ℕ) → ((next : ℕ) → length (chars_from f bs next) ≤ f) → (r : Option (ℕ × ℕ))
    → length (on_char r (λ next. chars_from f bs next)) ≤ suc f
on_length f bs go (Some (c, next)) = omega (arith, go next)
on_length f bs go None = omega arith

length_from : (f : ℕ) (bs : List ℕ) (at : ℕ) → length (chars_from f bs at) ≤ f
length_from zero bs at = omega arith
length_from (suc f) bs at = on_length f bs (λ next. length_from f bs next) (utf8_step_of bs at)

pub decode_all : (bs : List ℕ) → decode_of bs bs ≡ chars_of bs
unfolding chars_of
decode_all bs = take_all (length bs) (chars_of bs) (length_from (length bs) bs 0)

pub length_decode : (bs out : List ℕ) → length (decode_of bs out) ≤ length out
length_decode bs out = omega (arith, length-take (length out) (chars_of bs))

-- no character comes from a stop on
pub stop_from : (bs : List ℕ) (f at : ℕ) → utf8_step_of bs at ≡ None → chars_from f bs at ≡ []
stop_from bs zero at e = refl
stop_from bs (suc f) at e = rw e

take_none : (n : ℕ) → ◌≡◌ {A = List ℕ} (take n []) []
take_none zero = refl
take_none (suc n) = refl

module _ (bs out₀ : List ℕ) where
  -- what is left to decode after k characters, at the place `at`
  abbrev left : ℕ → ℕ → List ℕ
  left k at = take (length out₀ - k) (chars_from (length bs - k) bs at)

  -- at the head of the loop: what is left leads to the counts of the whole, and storing it to the places
  pub record Decoding (out : List ℕ) (k at : ℕ) : Type 0 where
    pub low : k ≤ at
    pub fits : k ≤ length out₀
    pub same : length out ≡ length out₀
    pub count : k + length (left k at) ≡ length (decode_of bs out₀)
    pub place : at + length (encode_all (left k at)) ≡ length (encode_all (decode_of bs out₀))
    pub places : sets out k (left k at) ≡ decode_places bs out₀

  left_begin : left 0 0 ≡ decode_of bs out₀
  unfolding chars_of
  left_begin = rw (sub-zero, sub-zero)

  left_turn : (k at c next : ℕ) → k < length out₀ → k ≤ at → utf8_step_of bs at ≡ Some (c, next) → left k at ≡ c ∷ left (k + 1) next
  left_turn k at c next h l e =
      let p : length out₀ - k ≡ suc (length out₀ - (k + 1)) = omega arith in
      let q : length bs - k ≡ suc (length bs - (k + 1)) = omega (arith, step_on bs at c next e) in
      rw (p, q, e)

  pub decoding_begin : Decoding out₀ 0 0
  decoding_begin =
      record {
        low = omega arith;
        fits = omega arith;
        same = refl;
        count = rw (left_begin, zero-add);
        place = rw (left_begin, zero-add);
        places = rw left_begin;
      }

  pub decoding_again : (out : List ℕ) (k at c next : ℕ) → Decoding out k at → k < length out → utf8_step_of bs at ≡ Some (c, next)
      → Decoding (set out k c) (k + 1) next
  decoding_again out k at c next d h e =
      let l = left_turn k at c next (omega (arith, d.same)) d.low e in
      let s = (step_exactly bs at c next).0 e in
      record {
        low = omega (arith, d.low, step_on bs at c next e);
        fits = omega (arith, d.same);
        same = length-set out k c ∙ d.same;
        count = omega (arith, simp l at d.count);
        place = omega (arith, s.1, simp (l, length-append) at d.place);
        places = rw add-one (rw (l, add-one) at d.places);
      }

  abbrev pub Stored : List ℕ → ℕ → ℕ → Type 0
  Stored out k at =
      (◌≡◌ {A = Prefix} (record { chars = k; bytes = at }) (counts_of (decode_of bs out₀)))
      × (out ≡ decode_places bs out₀)

  decoding_ended : (out : List ℕ) (k at : ℕ) → Decoding out k at → left k at ≡ [] → Stored out k at
  decoding_ended out k at d h =
      let p : k ≡ length (decode_of bs out₀) = omega (arith, simp h at d.count) in
      let q : at ≡ length (encode_all (decode_of bs out₀)) = omega (arith, simp h at d.place) in
      ((cc), rw h at d.places)

  pub decoding_full : (out : List ℕ) (k at : ℕ) → Decoding out k at → length out ≤ k → Stored out k at
  decoding_full out k at d h =
      let z : length out₀ - k ≡ 0 = omega (arith, d.same, d.fits) in
      decoding_ended out k at d (rw z)

  pub decoding_stop : (out : List ℕ) (k at : ℕ) → Decoding out k at → utf8_step_of bs at ≡ None → Stored out k at
  decoding_stop out k at d e = decoding_ended out k at d (rw (stop_from bs (length bs - k) at e) (take_none (length out₀ - k)))

-- decoding into as many places as there are bytes takes the whole prefix
pub decoding_all : (bs out : List ℕ) (k at : ℕ) → Decoding bs bs out k at → utf8_step_of bs at ≡ None
    → ◌≡◌ {A = Prefix} (record { chars = k; bytes = at }) (counts_of (chars_of bs))
decoding_all bs out k at d e = (decoding_stop bs bs out k at d e).0 ∙ ap counts_of (decode_all bs)
