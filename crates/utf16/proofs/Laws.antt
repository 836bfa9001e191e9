-- What reading and writing come to, each for both orders at once: the order is a parameter throughout.
--     reads, writes   what reading and writing answer and leave
--     round_trips     decoding then encoding returns the bytes, and encoding then decoding the characters
--     same_text       a text read from UTF-16 is the text read from UTF-8
use Prim.Native.Nat.{ℕ, ◌*◌, ◌%◌, ◌≤◌, ◌<◌}
use mathlib.Core.Path.{◌≡◌, refl, sym, ap, ◌∙◌}
use mathlib.Core.Bool.{true, false}
use mathlib.Core.List.{List, [], ◌∷◌}
use native.Mathlib.Omega.{arith}
use borrow.Author.Tests.{eq-eqb, ne_eqb, le-ltb, lt-ltb}
use lib.Dec.{eqb}
use lib.ListN.{length, take, length-append, length-take}
use lib.Seq.{sets}
use Rattle.common.specs.Answers.{refusal_in, written_in, wrote_in}
use Rattle.common.proofs.Kit.{by, by_lt}
use Rattle.common.proofs.Lists.{take_first}
use Rattle.scalars.specs.Chars.{are_chars}
use Rattle.scalars.proofs.Texts.{decode_encode}
use Rattle.utf16.specs.declared.ByteOrder.{ByteOrder}
use Rattle.utf16.specs.Utf16.{units_of, utf16_of, Encodes}
use Rattle.utf16.specs.Reading.{units_in, FirstUnpaired, unpaired_in, chars_in}
use Rattle.utf16.specs.Entries.{decode_answer, decode_places, encode_answer, encode_places}
use Rattle.utf16.specs.Promises.{Bytes, BreaksAt, Reads, Writes, RoundTrips, SameText}
use Rattle.utf16.proofs.Units.{length_units, units_take, bytes_take}
use Rattle.utf16.proofs.Rows.{length_serial, length_units_of, utf16_cons}
use Rattle.utf16.proofs.Texts.{Decodes, decodes_of, encodes_of}
use Rattle.utf16.proofs.Places.{first_is, is_first, first_inside, start_paired, longer_unpaired}

module _ (o : ByteOrder) where
  -- ---- reading
  module _ (bs out : List ℕ) where
    abbrev us : List ℕ
    us = units_in o bs

    -- the answer by whether the bytes are odd in number, and by the places of unpaired units
    abbrev Case : List ℕ → List ℕ → Type 0
    Case answer places = (decode_answer o bs out ≡ answer) × (decode_places o bs out ≡ places)

    of_odd : length bs % 2 ≡ 1 → Case (14 ∷ []) out
    unfolding decode_answer decode_places
    of_odd h = rw (eq-eqb (length bs % 2) 1 h) (refl, refl)

    module _ (even : length bs % 2 ≡ 0) where
      not_odd : eqb (length bs % 2) 1 ≡ false
      not_odd = ne_eqb (length bs % 2) 1 (λ e. omega arith)

      of_unpaired : (i : ℕ) (later : List ℕ) → unpaired_in us ≡ i ∷ later → Case (15 ∷ i ∷ []) out
      unfolding decode_answer decode_places
      of_unpaired i later e = rw (not_odd, e) (refl, refl)

      of_room : unpaired_in us ≡ [] → length out < length (chars_in us) → Case (8 ∷ []) out
      unfolding decode_answer decode_places
      of_room e h = rw (not_odd, e, lt-ltb (length out) (length (chars_in us)) h) (refl, refl)

      of_read : unpaired_in us ≡ [] → length (chars_in us) ≤ length out → Case (0 ∷ length (chars_in us) ∷ []) (sets out 0 (chars_in us))
      unfolding decode_answer decode_places
      of_read e h = rw (not_odd, e, le-ltb (length out) (length (chars_in us)) h) (refl, refl)

    -- one of the four
    data Way : Type 0 where
      odd_way : length bs % 2 ≡ 1 → Way
      unpaired_way : length bs % 2 ≡ 0 → (i : ℕ) (later : List ℕ) → unpaired_in us ≡ i ∷ later → Way
      room_way : length bs % 2 ≡ 0 → unpaired_in us ≡ [] → length out < length (chars_in us) → Way
      read_way : length bs % 2 ≡ 0 → unpaired_in us ≡ [] → length (chars_in us) ≤ length out → Way

    by_unpaired : length bs % 2 ≡ 0 → (l : List ℕ) → unpaired_in us ≡ l → Way
    by_unpaired even [] e = by_lt (length out) (length (chars_in us)) (room_way even e) (read_way even e)
    by_unpaired even (i ∷ later) e = unpaired_way even i later e

    way : Way
    way = by_lt (length bs % 2) 1 (λ h. by_unpaired (omega arith) (unpaired_in us) refl) (λ h. odd_way (omega arith))

    -- where the bytes encode characters
    module _ (cs : List ℕ) (e : Encodes o bs cs) where
      decoded : Decodes o bs cs
      decoded = decodes_of o bs cs e

      to_read : length cs ≤ length out → Case (0 ∷ length cs ∷ []) (sets out 0 cs)
      to_read h = let d = decoded in rw d.gives at (of_read d.even d.paired (rw d.gives h))

      to_room : length out < length cs → Case (8 ∷ []) out
      to_room h = let d = decoded in of_room d.even d.paired (rw d.gives h)

    module _ (k : Bytes bs) where
      encoded : length bs % 2 ≡ 0 → unpaired_in us ≡ [] → Encodes o bs (chars_in us)
      encoded even e = encodes_of o bs (chars_in us) k record { even = even; paired = e; gives = refl }

      -- two answers whose numbers differ
      unlike : {P : Type 0} (a b : List ℕ) (m n : ℕ) → decode_answer o bs out ≡ a → decode_answer o bs out ≡ b →
          refusal_in a ≡ m → refusal_in b ≡ n → (m ≡ n → ⊥) → P
      unlike a b m n p q x y d = absurd (d (sym x ∙ ap refusal_in (sym p ∙ q) ∙ y))

      abbrev Read : ℕ → Type 0
      Read n = (cs : List ℕ) × (Encodes o bs cs × ((length cs ≡ n) × (length cs ≤ length out)))

      read_of : Way → (n : ℕ) → decode_answer o bs out ≡ 0 ∷ n ∷ [] → Read n
      read_of (odd_way h) n e = unlike _ _ 14 0 (of_odd h).0 e refl refl (λ z. omega arith)
      read_of (unpaired_way even i later p) n e = unlike _ _ 15 0 (of_unpaired even i later p).0 e refl refl (λ z. omega arith)
      read_of (room_way even p h) n e = unlike _ _ 8 0 (of_room even p h).0 e refl refl (λ z. omega arith)
      read_of (read_way even p h) n e =
          (chars_in us, (encoded even p, (ap written_in (sym (of_read even p h).0 ∙ e), h)))

      odd_of : Way → decode_answer o bs out ≡ 14 ∷ [] → length bs % 2 ≡ 1
      odd_of (odd_way h) e = h
      odd_of (unpaired_way even i later p) e = unlike _ _ 15 14 (of_unpaired even i later p).0 e refl refl (λ z. omega arith)
      odd_of (room_way even p h) e = unlike _ _ 8 14 (of_room even p h).0 e refl refl (λ z. omega arith)
      odd_of (read_way even p h) e = unlike _ _ 0 14 (of_read even p h).0 e refl refl (λ z. omega arith)

      unpaired_of : Way → (i : ℕ) → decode_answer o bs out ≡ 15 ∷ i ∷ [] → (length bs % 2 ≡ 0) × FirstUnpaired us i
      unpaired_of (odd_way h) i e = unlike _ _ 14 15 (of_odd h).0 e refl refl (λ z. omega arith)
      unpaired_of (unpaired_way even j later p) i e =
          let z : j ≡ i = ap written_in (sym (of_unpaired even j later p).0 ∙ e) in
          (even, rw (← z) (first_is us j later p))
      unpaired_of (room_way even p h) i e = unlike _ _ 8 15 (of_room even p h).0 e refl refl (λ z. omega arith)
      unpaired_of (read_way even p h) i e = unlike _ _ 0 15 (of_read even p h).0 e refl refl (λ z. omega arith)

      abbrev Short : Type 0
      Short = (cs : List ℕ) × (Encodes o bs cs × (length out < length cs))

      room_of : Way → decode_answer o bs out ≡ 8 ∷ [] → Short
      room_of (odd_way h) e = unlike _ _ 14 8 (of_odd h).0 e refl refl (λ z. omega arith)
      room_of (unpaired_way even i later p) e = unlike _ _ 15 8 (of_unpaired even i later p).0 e refl refl (λ z. omega arith)
      room_of (room_way even p h) e = (chars_in us, (encoded even p, h))
      room_of (read_way even p h) e = unlike _ _ 0 8 (of_read even p h).0 e refl refl (λ z. omega arith)

      unwritten_of : Way → 0 < refusal_in (decode_answer o bs out) → decode_places o bs out ≡ out
      unwritten_of (odd_way h) r = (of_odd h).1
      unwritten_of (unpaired_way even i later p) r = (of_unpaired even i later p).1
      unwritten_of (room_way even p h) r = (of_room even p h).1
      unwritten_of (read_way even p h) r = let z : 0 < 0 = rw (of_read even p h).0 at r in absurd (omega arith)

      breaks_at : (i : ℕ) → length bs % 2 ≡ 0 → FirstUnpaired us i → BreaksAt o bs i
      breaks_at i even f =
          let l = first_inside us i f in
          let n = length_units o bs in
          record {
            inside = omega arith;
            before = (
              chars_in (units_in o (take (2 * i) bs)),
              encodes_of o (take (2 * i) bs) _ (bytes_take (2 * i) bs k)
                  record { even = rw (length-take (2 * i) bs) (omega arith); paired = rw (units_take o i bs) (start_paired us i f); gives = refl },
            );
            none_longer =
                λ j cs h g e. longer_unpaired us i f j h (rw (units_take o j bs) at (decodes_of o (take (2 * j) bs) cs e).paired);
          }

      pub reads : Reads o bs out
      reads =
          record {
            reads = λ n. (read_of way n, λ r. rw r.1.1.0 at (to_read r.0 r.1.0 r.1.1.1).0);
            places = λ cs e h. (to_read cs e h).1;
            odd = (odd_of way, λ h. (of_odd h).0);
            unpaired = λ i. (unpaired_of way i, λ f. let l = is_first us i f.1 in (of_unpaired f.0 i l.0 l.1).0);
            breaks = λ i e. let p = unpaired_of way i e in breaks_at i p.0 p.1;
            room = (room_of way, λ r. (to_room r.0 r.1.0 r.1.1).0);
            nothing_written = unwritten_of way;
          }

  -- ---- writing
  length_utf16 : (cs : List ℕ) → length (utf16_of o cs) ≤ 4 * length cs
  unfolding utf16_of
  length_utf16 [] = omega arith
  length_utf16 (c ∷ cs) =
      rw (utf16_cons o c cs, length-append)
      (omega (arith, length_utf16 cs, length_serial o (units_of c), length_units_of c))

  module _ (cs buf : List ℕ) where
    -- an accepted write has characters and room
    accepted : refusal_in (encode_answer o cs buf) ≡ 0 → (are_chars cs ≡ true) × (4 * length cs ≤ length buf)
    unfolding encode_answer
    accepted =
        by (are_chars cs)
        (λ s. by_lt (length buf) (4 * length cs)
        (λ h. rw (s, lt-ltb (length buf) (4 * length cs) h) (λ e. absurd (omega (arith, e))))
        (λ h. λ e. (s, h)))
        (λ s. rw s (λ e. absurd (omega (arith, e))))

    -- and answers and leaves this
    written : are_chars cs ≡ true → 4 * length cs ≤ length buf →
        (encode_answer o cs buf ≡ 0 ∷ length (utf16_of o cs) ∷ []) × (encode_places o cs buf ≡ sets buf 0 (utf16_of o cs))
    unfolding encode_answer encode_places
    written s h = rw (s, le-ltb (length buf) (4 * length cs) h) (refl, refl)

    unwritten : 0 < refusal_in (encode_answer o cs buf) → encode_places o cs buf ≡ buf
    unfolding encode_answer encode_places
    unwritten =
        by (are_chars cs)
        (λ s. by_lt (length buf) (4 * length cs)
        (λ h. rw (s, lt-ltb (length buf) (4 * length cs) h) (λ e. refl))
        (λ h. rw (s, le-ltb (length buf) (4 * length cs) h) (λ e. absurd (omega (arith, e)))))
        (λ s. rw s (λ e. refl))

    -- what it wrote is the encoding
    wrote_bytes : are_chars cs ≡ true → 4 * length cs ≤ length buf →
        (refusal_in (encode_answer o cs buf) ≡ 0) × (wrote_in (encode_answer o cs buf) (encode_places o cs buf) ≡ utf16_of o cs)
    wrote_bytes s h =
        let w = written s h in
        rw (w.0, w.1) (refl, take_first (utf16_of o cs) buf _ refl (omega (arith, length_utf16 cs)))

    writes_of : (n : ℕ) → encode_answer o cs buf ≡ 0 ∷ n ∷ [] → (are_chars cs ≡ true) × ((4 * length cs ≤ length buf) × (length (utf16_of o cs) ≡ n))
    writes_of n e =
        let a = accepted (rw e refl) in
        (a.0, (a.1, ap written_in (sym (written a.0 a.1).0 ∙ e)))

    pub writes : Writes o cs buf
    writes =
        record {
          writes = λ n. (writes_of n, λ a. rw a.1.1 at (written a.0 a.1.0).0);
          places = λ s h. (written s h).1;
          nothing_written = unwritten;
        }

  -- ---- there and back
  module _ (bs cs out : List ℕ) (e : Encodes o bs cs) (h : length cs ≤ length out) where
    wrote_chars : (refusal_in (decode_answer o bs out) ≡ 0) × (wrote_in (decode_answer o bs out) (decode_places o bs out) ≡ cs)
    wrote_chars = let r = to_read bs out cs e h in rw (r.0, r.1) (refl, take_first cs out _ refl h)

  -- bytes that are accepted are those of the characters read
  module _ (bs out : List ℕ) (k : Bytes bs) where
    abbrev chars : List ℕ
    chars = wrote_in (decode_answer o bs out) (decode_places o bs out)

    by_way : Way bs out → refusal_in (decode_answer o bs out) ≡ 0 → Encodes o bs chars
    by_way (odd_way h) z = absurd (omega (arith, rw (of_odd bs out h).0 at z))
    by_way (unpaired_way even i later p) z = absurd (omega (arith, rw (of_unpaired bs out even i later p).0 at z))
    by_way (room_way even p h) z = absurd (omega (arith, rw (of_room bs out even p h).0 at z))
    by_way (read_way even p h) z =
        let e = encoded bs out k even p in
        rw (wrote_chars bs (chars_in (units_in o bs)) out e h).1 e

    accepted_bytes : refusal_in (decode_answer o bs out) ≡ 0 → Encodes o bs chars
    accepted_bytes = by_way (way bs out)

  -- "The facts hold for both orders from one proof with the order as a parameter."
  pub round_trips : RoundTrips o
  round_trips =
      record {
        decode_encode =
            λ bs out k z buf room.
            let e = accepted_bytes bs out k z in
            let w = wrote_bytes (chars bs out k) buf e.chars room in
            (w.0, w.1 ∙ sym e.bytes);
        encode_decode =
            λ cs buf z out room.
            let a = accepted cs buf z in
            let w = wrote_bytes cs buf a.0 a.1 in
            wrote_chars (wrote_in (encode_answer o cs buf) (encode_places o cs buf)) cs out record { chars = a.0; bytes = w.1 } room;
      }

  -- ---- beside UTF-8
  pub same_text : (cs : List ℕ) → SameText o cs
  same_text cs bs out e h = (wrote_chars bs cs out e h).1 ∙ sym (decode_encode cs e.chars)
