-- What a fill does, in document 01's words. Characters taken and bytes zeroed are both found by going along a list: what holds of the
-- rest of it holds, one place on, of the whole.
--     fill_order       the order of refusals
--     fill_refused_lem     a refusal answers its number alone, and leaves every byte
--     filled           any other fill: how many are taken, what is filled, what is zeroed
--     taken_only       the words leave no choice of how many are taken
use Prim.Native.Nat.{ℕ, zero, suc, ◌+◌, ◌-◌, ◌≤◌, ◌<◌}
use mathlib.Core.Bool.{Bool, true, false, cond, not}
use mathlib.Core.List.{List, [], ◌∷◌, ◌++◌}
use mathlib.Core.Logic.{◌⊎◌, inl, inr}
use mathlib.Core.Path.{◌≡◌, refl, sym, ap, ◌∙◌}
use native.Mathlib.Omega.{arith}
use borrow.Author.Tests.{ltb-true, ltb-false, le-ltb, leb-true, le-leb}
use lib.Dec.{ltb, leb}
use lib.ListN.{length, get_or, take, drop, length-append, length-drop}
use lib.Seq.{get_or-drop, get_or-append-add, drop-append-add, drop-drop, take-append_seam}
use Rattle.common.specs.Answers.{refusal_in}
use Rattle.common.specs.Order.{◌when◌, first_of}
use Rattle.common.proofs.Kit.{split, by, by_lt, both_true, never}
use Rattle.scalars.specs.Chars.{are_chars}
use Rattle.scalars.specs.Utf8.{encode_of, continuation, encode_all}
use Rattle.scalars.proofs.Rows.{length_encode}
use Rattle.text_input_fill.specs.Fill.{taken_chars, zeroed, FillOutcome, fill_refused, filled_bytes, fill_of}
use Rattle.text_input_fill.specs.Laws.{WhileFour, ZeroedFrom, FilledBy}
use Rattle.text_input_fill.proofs.Filling.{fits}
use Rattle.text_input_fill.proofs.Decoded.{taken_first}

-- ---- refusals
module _ (queue buf : List ℕ) where
  order : (b s : Bool) (o : List ℕ) (n m : FillOutcome) → n.numbers ≡ 7 ∷ [] → m.numbers ≡ 1 ∷ [] →
      (x : FillOutcome) → x.numbers ≡ 0 ∷ o → refusal_in (cond b n (cond s x m)).numbers ≡ first_of (7 when b ∷ 1 when not s ∷ [])
  order true s o n m p q x e = rw p
  order false true o n m p q x e = rw e
  order false false o n m p q x e = rw q

  -- "Order: 7, 1.": "7 a byte buffer under 136."
  pub fill_order : refusal_in (fill_of queue buf).numbers ≡ first_of (7 when ltb (length buf) 136 ∷ 1 when not (are_chars queue) ∷ [])
  unfolding fill_of
  fill_order = order (ltb (length buf) 136) (are_chars queue) _ (fill_refused 7 buf) (fill_refused 1 buf) refl refl _ refl

  abbrev Left : FillOutcome → Type 0
  Left o = 0 < refusal_in o.numbers → (o.numbers ≡ refusal_in o.numbers ∷ []) × (o.bytes ≡ buf)

  -- "1, 2, 7, 8, 9, 10 .. change nothing."
  pub fill_refused_lem : Left (fill_of queue buf)
  unfolding fill_of
  fill_refused_lem =
      split Left (ltb (length buf) 136) (λ e h. (refl, refl))
      (λ e. split Left (are_chars queue) (λ s h. absurd (omega arith)) (λ s h. (refl, refl)))

-- ---- the characters taken
while_four : (free : ℕ) (queue : List ℕ) → WhileFour queue free (length (taken_chars free queue))
while_four free [] = record { first = omega arith; each = λ i h. absurd (omega arith); left = λ h. absurd (omega arith) }
while_four free (c ∷ cs) =
    split (λ (l : List ℕ). WhileFour (c ∷ cs) free (length l)) (ltb free 4)
    (λ e. record { first = omega arith; each = λ i h. absurd (omega arith); left = λ h. omega (arith, ltb-true free 4 e) })
    (λ e. further (ltb-false free 4 e) (while_four (free - length (encode_of c)) cs))
  where
    further : {t : ℕ} → 4 ≤ free → WhileFour cs (free - length (encode_of c)) t → WhileFour (c ∷ cs) free (suc t)
    further {t} room w =
        record {
          first = omega (arith, w.first);
          each = before;
          left = λ h. simp length-append (omega (arith, w.left (omega arith), (length_encode c).1));
        }
      where
        before : (i : ℕ) → i < suc t → length (encode_all (take i (c ∷ cs))) + 4 ≤ free
        before zero h = omega arith
        before (suc i) h = simp length-append (omega (arith, w.each i (omega arith)))

-- were it fewer, at least 4 bytes would be free before the next one
no_fewer : {queue : List ℕ} {room t u : ℕ} → WhileFour queue room t → WhileFour queue room u → u ≤ t
no_fewer {queue} {room} {t} {u} v w =
    by_lt t u (λ h. absurd (omega (arith, w.each t h, v.left (omega (arith, w.first))))) (λ h. h)

pub taken_only : {queue : List ℕ} {room t u : ℕ} → WhileFour queue room t → WhileFour queue room u → t ≡ u
taken_only v w = omega (arith, no_fewer v w, no_fewer w v)

-- ---- the bytes zeroed
length_zeroed : (bs : List ℕ) → length (zeroed bs) ≡ length bs
length_zeroed [] = refl
length_zeroed (b ∷ bs) = split (λ (l : List ℕ). length l ≡ suc (length bs)) (continuation b) (λ e. ap suc (length_zeroed bs)) (λ e. refl)

-- a byte is a continuation byte, or another
within : (b : ℕ) → continuation b ≡ true → (0x80 ≤ b) × (b ≤ 0xBF)
unfolding continuation
within b e = let k = both_true (leb 0x80 b) (leb b 0xBF) e in (leb-true 0x80 b k.0, leb-true b 0xBF k.1)

another : (b : ℕ) → continuation b ≡ false → (b < 0x80) ⊎ (0xBF < b)
unfolding continuation
another b e =
    by_lt b 0x80 (λ h. inl h)
    (λ g. by_lt 0xBF b (λ h. inr h) (λ k. never (sym (rw (le-leb 0x80 b g, le-leb b 0xBF k) at e))))

-- from the first place on
record Zeroed (bs : List ℕ) : Type 0 where
  pub stop : ℕ
  pub law : ZeroedFrom 0 stop bs (zeroed bs)

zeroed_first : (bs : List ℕ) → Zeroed bs
zeroed_first [] =
    record {
      stop = 0;
      law = record { begins = omega arith; ends = omega arith; zeroes = λ i g h. absurd (omega arith); other = λ h. absurd (omega arith); rest = refl };
    }
zeroed_first (b ∷ bs) =
    by (continuation b) (λ e. further e (zeroed_first bs))
    (λ e.
    record {
      stop = 0;
      law = record { begins = omega arith; ends = omega arith; zeroes = λ i g h. absurd (omega arith); other = λ h. another b e; rest = rw e };
    })
  where
    further : continuation b ≡ true → Zeroed bs → Zeroed (b ∷ bs)
    further e z =
        record {
          stop = suc z.stop;
          law = rw e
              (record {
                begins = omega arith;
                ends = omega (arith, z.law.ends);
                zeroes = each;
                other = λ h. z.law.other (omega arith);
                rest = z.law.rest;
              });
        }
      where
        each : (i : ℕ) → 0 ≤ i → i < suc z.stop →
            (0x80 ≤ get_or (b ∷ bs) i 0) × ((get_or (b ∷ bs) i 0 ≤ 0xBF) × (get_or (0 ∷ zeroed bs) i 0 ≡ 0))
        each zero g h = ((within b e).0, ((within b e).1, refl))
        each (suc i) g h = z.law.zeroes i (omega arith) (omega arith)

-- from place n on, behind n bytes
module _ (xs buf : List ℕ) (fit : length xs ≤ length buf) where
  abbrev n : ℕ
  n = length xs

  module _ (z : Zeroed (drop n buf)) where
    at_place : (j : ℕ) → j < z.stop →
        (0x80 ≤ get_or buf (n + j) 0) × ((get_or buf (n + j) 0 ≤ 0xBF) × (get_or (xs ++ zeroed (drop n buf)) (n + j) 0 ≡ 0))
    at_place j h =
        let k = z.law.zeroes j (omega arith) h in
        rw (← get_or-drop n buf j 0, get_or-append-add xs (zeroed (drop n buf)) j 0) k

    zeroed_behind : ZeroedFrom n (n + z.stop) buf (xs ++ zeroed (drop n buf))
    zeroed_behind =
        record {
          begins = omega arith;
          ends = omega (arith, rw length-drop at z.law.ends);
          zeroes = λ i g h. from i g h;
          other = λ h. rw get_or-drop at (z.law.other (rw length-drop (omega arith)));
          rest = drop-append-add xs (zeroed (drop n buf)) z.stop ∙ z.law.rest ∙ drop-drop z.stop n buf;
        }
      where
        from : (i : ℕ) → n ≤ i → i < n + z.stop →
            (0x80 ≤ get_or buf i 0) × ((get_or buf i 0 ≤ 0xBF) × (get_or (xs ++ zeroed (drop n buf)) i 0 ≡ 0))
        from i g h = let e : n + (i - n) ≡ i = omega arith in rw e at (at_place (i - n) (omega arith))

-- ---- both
-- for every queue and buffer that are not refused
pub filled : (queue buf : List ℕ) → 136 ≤ length buf → are_chars queue ≡ true →
    (t n : ℕ) × ((fill_of queue buf).numbers ≡ 0 ∷ t ∷ n ∷ []) × FilledBy queue buf (fill_of queue buf).bytes t n
unfolding fill_of
filled queue buf room s =
    let xs = filled_bytes queue buf in
    let first = taken_first (length buf) queue in
    let z = zeroed_first (drop (length xs) buf) in
    rw (le-ltb (length buf) 136 room, s) (
      length (taken_chars (length buf) queue),
      length xs,
      refl,
      record {
        taken = while_four (length buf) queue;
        count = ap (λ (l : List ℕ). length (encode_all l)) first;
        bytes = take-append_seam xs (zeroed (drop (length xs) buf)) ∙ ap encode_all first;
        same = simp (length-append, length_zeroed, length-drop) (omega (arith, fits (length buf) queue));
        stop = length xs + z.stop;
        zeroed = zeroed_behind xs buf (fits (length buf) queue) z;
      },
    )
