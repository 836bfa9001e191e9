-- What the functions over the record lean on.
--     fits_places             where the places are enough, what is put out fits; few_places, more_places: when they are
--     Running, ..             the loop of `decode`: what is left leads to the same end as the whole
use Prim.Native.Nat.{ℕ, zero, suc, ◌+◌, ◌≤◌, ◌<◌}
use mathlib.Core.Path.{◌≡◌, refl, sym, ◌∙◌}
use mathlib.Core.List.{List, [], ◌∷◌, ◌++◌}
use native.Mathlib.Omega.{arith}
use native.Mathlib.Nat.{zero-add}
use native.Mathlib.Numerals.{add-one}
use borrow.Author.Tests.{lt-ltb, le-ltb}
use lib.ListN.{length, get_or, drop, length-append, drop_of_length-le}
use lib.Seq.{drop-cons, sets, length-sets}
use Rattle.common.proofs.Lists.{sets_append}
use Rattle.utf8_lossy.specs.Machine.{Turn, step_of, outs_of, rest_of, replaced_of}
use Rattle.utf8_lossy.specs.Decode.{Outcome, places_for_bytes, decode_of}
use Rattle.utf8_lossy.proofs.Room.{room_one, replaced_le}

-- ---- the refusal
-- the code's test, by which m places are too few for n bytes, and enough
short : (n m : ℕ) → 0 < n → m ≤ n → m < places_for_bytes n
short zero m h g = absurd (omega arith)
short (suc n) m h g = omega arith

enough : (n m : ℕ) → (0 < n → n < m) → places_for_bytes n ≤ m
enough zero m h = omega arith
enough (suc n) m h = omega arith

pub few_places : (n m : ℕ) → m < places_for_bytes n → (0 < n) × (m ≤ n)
few_places zero m h = absurd (omega arith)
few_places (suc n) m h = omega arith

pub more_places : (n m : ℕ) → places_for_bytes n ≤ m → 0 < n → n < m
more_places zero m h l = absurd (omega arith)
more_places (suc n) m h l = omega arith

fits_by : (n k m : ℕ) → (n ≡ 0 → k ≡ 0) → k ≤ n + 1 → places_for_bytes n ≤ m → k ≤ m
fits_by zero k m z l h = omega (arith, z refl)
fits_by (suc n) k m z l h = omega arith

none_out : (p bs : List ℕ) → length bs ≡ 0 → length (outs_of p bs) ≡ 0
none_out p [] e = refl
none_out p (b ∷ bs) e = absurd (omega arith)

pub fits_places : (p bs out : List ℕ) → places_for_bytes (length bs) ≤ length out → length (outs_of p bs) ≤ length out
fits_places p bs out h = fits_by (length bs) (length (outs_of p bs)) (length out) (none_out p bs) (room_one p bs) h

-- ---- the loop of `decode`
module _ (p bs out₀ : List ℕ) where
  pub record Running (out q : List ℕ) (i k n : ℕ) : Type 0 where
    pub inside : i ≤ length bs
    pub same : length out ≡ length out₀
    pub room : places_for_bytes (length bs) ≤ length out₀
    pub rest : rest_of q (drop i bs) ≡ rest_of p bs
    pub count : k + length (outs_of q (drop i bs)) ≡ length (outs_of p bs)
    pub replaced : n + replaced_of q (drop i bs) ≡ replaced_of p bs
    pub places : sets out k (outs_of q (drop i bs)) ≡ sets out₀ 0 (outs_of p bs)

  pub decode_begin : (0 < length bs → length bs < length out₀) → Running out₀ p 0 0 0
  decode_begin h =
      record {
        inside = omega arith;
        same = refl;
        room = enough (length bs) (length out₀) h;
        rest = refl;
        count = zero-add _;
        replaced = zero-add _;
        places = refl;
      }

  -- a refusal
  pub decode_refused : 0 < length bs → length out₀ ≤ length bs
      → ◌≡◌ {A = Outcome} (record { numbers = 8 ∷ []; next = p; places = out₀ }) (decode_of p bs out₀)
  unfolding decode_of
  decode_refused h f = simp (lt-ltb (length out₀) (places_for_bytes (length bs)) (short (length bs) (length out₀) h f))

  module _ (out q : List ℕ) (i k n : ℕ) (g : Running out q i k n) where
    pub decode_ended : length bs ≤ i
        → ◌≡◌ {A = Outcome} (record { numbers = 0 ∷ k ∷ n ∷ []; next = q; places = out }) (decode_of p bs out₀)
    unfolding decode_of
    decode_ended h =
        let e = drop_of_length-le bs h in
        let a : k ≡ length (outs_of p bs) = omega (arith, simp e at g.count) in
        let b : n ≡ replaced_of p bs = omega (arith, simp e at g.replaced) in
        let r : q ≡ rest_of p bs = rw e at g.rest in
        let s : out ≡ sets out₀ 0 (outs_of p bs) = rw e at g.places in
        simp (le-ltb (length out₀) (places_for_bytes (length bs)) g.room, a, b, r, s)

    module _ (more : i < length bs) (t : Turn) (e : t ≡ step_of q (get_or bs i 0)) where
      outs : outs_of q (drop i bs) ≡ t.out ++ outs_of t.pending (drop (i + 1) bs)
      outs = rw (add-one, drop-cons bs i 0, e)

      sum : replaced_of q (drop i bs) ≡ t.replaced + replaced_of t.pending (drop (i + 1) bs)
      sum = rw (add-one, drop-cons bs i 0, e)

      pub decode_asks : k + length t.out ≤ length out
      decode_asks = omega (arith, fits_places p bs out₀ g.room, g.same, simp (outs, length-append) at g.count)

      pub decode_counts : n + t.replaced < length out₀ + length p
      decode_counts =
          omega (arith, more_places (length bs) (length out₀) g.room (omega arith), replaced_le p bs, simp sum at g.replaced)

      pub decode_again : Running (sets out k t.out) t.pending (i + 1) (k + length t.out) (n + t.replaced)
      decode_again =
          record {
            inside = omega arith;
            same = length-sets out k t.out ∙ g.same;
            room = g.room;
            rest = rw (add-one, e) (rw (drop-cons bs i 0 more) at g.rest);
            count = omega (arith, simp (outs, length-append) at g.count);
            replaced = omega (arith, simp sum at g.replaced);
            places = sym (sets_append t.out (outs_of t.pending (drop (i + 1) bs)) out k) ∙ rw outs at g.places;
          }
