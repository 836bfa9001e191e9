-- Filling bytes, on lists. In both loops what is left leads to the same end as the whole.
--     fits                                         what is encoded fits the buffer
--     Encoding, encode_begin, -asks, -again, -full, -ended   the loop of `encode_queue`
--     filled_is                                    both one after the other are `fill_of`
use Prim.Native.Nat.{ℕ, ◌+◌, ◌-◌, ◌≤◌, ◌<◌}
use mathlib.Core.Path.{◌≡◌, refl, sym, ◌∙◌}
use mathlib.Core.Bool.{true}
use mathlib.Core.List.{List, [], ◌∷◌, ◌++◌}
use native.Mathlib.Omega.{arith}
use native.Mathlib.Nat.{zero-add, sub-zero}
use native.Mathlib.Numerals.{add-one}
use borrow.Author.Tests.{lt-ltb, le-ltb}
use lib.ListN.{length, get_or, take, drop, length-append, drop_of_length-le}
use lib.Seq.{sets, length-sets, drop-cons, drop-append_seam, take-append_seam}
use Rattle.scalars.specs.Chars.{is_char, are_chars}
use Rattle.scalars.specs.Utf8.{encode_of, encode_all}
use Rattle.common.proofs.Kit.{by_lt, both_true}
use Rattle.scalars.proofs.Rows.{length_encode}
use Rattle.std.specs.Prelude.{Ok}
use Rattle.text_input_fill.specs.Fill.{taken_chars, zeroed, fill_outcome, filled_bytes, fill_of}
use Rattle.common.proofs.Lists.{sets_append, sets_first}

pub fits : (free : ℕ) (cs : List ℕ) → length (encode_all (taken_chars free cs)) ≤ free
fits free [] = omega arith
fits free (c ∷ cs) =
    by_lt free 4 (λ h. simp (lt-ltb free 4 h) (omega arith))
    (λ h. simp (le-ltb free 4 h, length-append) (omega (arith, fits (free - length (encode_of c)) cs, (length_encode c).1)))

-- ---- encoding
module _ (queue buf₀ : List ℕ) where
  -- so many characters taken, so many bytes filled, and these bytes
  abbrev pub Encoded : ℕ → ℕ → List ℕ → Type 0
  Encoded i k buf =
      (i ≡ length (taken_chars (length buf₀) queue))
      × ((k ≡ length (filled_bytes queue buf₀)) × (buf ≡ sets buf₀ 0 (filled_bytes queue buf₀)))

  pub record Encoding (buf : List ℕ) (i k : ℕ) : Type 0 where
    pub low : i ≤ length queue
    pub inside : k ≤ length buf₀
    pub same : length buf ≡ length buf₀
    pub valid : are_chars (drop i queue) ≡ true
    pub count : i + length (taken_chars (length buf₀ - k) (drop i queue)) ≡ length (taken_chars (length buf₀) queue)
    pub place : k + length (encode_all (taken_chars (length buf₀ - k) (drop i queue))) ≡ length (filled_bytes queue buf₀)
    pub stored : sets buf k (encode_all (taken_chars (length buf₀ - k) (drop i queue))) ≡ sets buf₀ 0 (filled_bytes queue buf₀)

  pub encode_begin : are_chars queue ≡ true → Encoding buf₀ 0 0
  encode_begin s =
      record { low = omega arith; inside = omega arith; same = refl; valid = s; count = rw (sub-zero, zero-add); place = rw (sub-zero, zero-add); stored = rw sub-zero }

  module _ (buf : List ℕ) (i k : ℕ) (g : Encoding buf i k) where
    done : taken_chars (length buf₀ - k) (drop i queue) ≡ [] → Encoded i k buf
    done e = (omega (arith, simp e at g.count), (omega (arith, simp e at g.place), simp e at g.stored))

    pub encode_ended : length queue ≤ i → Encoded i k buf
    encode_ended h = done (rw (drop_of_length-le queue h))

    pub encode_full : i < length queue → length buf - k < 4 → Encoded i k buf
    encode_full h r = done (rw (drop-cons queue i 0 h, lt-ltb (length buf₀ - k) 4 (rw g.same at r)))

    module _ (more : i < length queue) (room : 4 ≤ length buf - k) where
      abbrev c : ℕ
      c = get_or queue i 0

      char : (is_char c ≡ true) × (are_chars (drop (i + 1) queue) ≡ true)
      char = both_true (is_char c) (are_chars (drop (i + 1) queue)) (rw add-one (rw (drop-cons queue i 0 more) at g.valid))

      pub encode_asks : (is_char c ≡ true) × (k + length (encode_of c) ≤ length buf)
      encode_asks = (char.0, omega (arith, (length_encode c).1))

      turn : taken_chars (length buf₀ - k) (drop i queue) ≡ c ∷ taken_chars (length buf₀ - (k + length (encode_of c))) (drop (i + 1) queue)
      turn =
          let r : length buf₀ - k - length (encode_of c) ≡ length buf₀ - (k + length (encode_of c)) = omega arith in
          rw (add-one, drop-cons queue i 0 more, le-ltb (length buf₀ - k) 4 (rw g.same at room), r)

      pub encode_again : Encoding (sets buf k (encode_of c)) (i + 1) (k + length (encode_of c))
      encode_again =
          record {
            low = omega arith;
            inside = omega (arith, (length_encode c).1, g.same);
            same = length-sets buf k (encode_of c) ∙ g.same;
            valid = char.1;
            count = omega (arith, simp turn at g.count);
            place = omega (arith, simp (turn, length-append) at g.place);
            stored = sym (sets_append (encode_of c) (encode_all (taken_chars (length buf₀ - (k + length (encode_of c))) (drop (i + 1) queue))) buf k) ∙ rw turn at g.stored;
          }

  -- ---- both
  pub filled_is : (t k : ℕ) (b₁ b₂ : List ℕ) → 136 ≤ length buf₀ → are_chars queue ≡ true → Encoded t k b₁
      → b₂ ≡ take k b₁ ++ zeroed (drop k b₁) → fill_outcome (Ok (record { taken = t; bytes = k })) b₂ ≡ fill_of queue buf₀
  unfolding fill_of
  filled_is t k b₁ b₂ room s e q =
      let f : b₁ ≡ filled_bytes queue buf₀ ++ drop (length (filled_bytes queue buf₀)) buf₀ =
      e.1.1 ∙ sets_first (filled_bytes queue buf₀) buf₀ (fits (length buf₀) queue) in
      simp (q, f, e.0, e.1.0, take-append_seam, drop-append_seam, le-ltb (length buf₀) 136 room, s)
