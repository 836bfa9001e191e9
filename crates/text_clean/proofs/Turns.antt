-- One turn over bytes: the characters that a byte puts out (`take_out`, `take_byte`), and the four ways of `advance`.
-- Idea: whole characters, where nothing is pending, are decoded as they stand, so a turn over them is a run of characters. What a turn
-- needs of places and counts is part of what all that is left needs.
--     Asks, Takes                   what `take_out` asks of characters and answers; first-, second-, two-: of two
--     byte_chars                    what one byte puts out is characters
--     Whole                         the bytes of a turn are whole characters: what these come to is what the bytes come to
--     plain-, line-, char-, byte-   the four ways of `advance`: what each asks of places and counts, and where it leads (`-moves`)
--     then_room_lem, -fits, moves_then  a turn behind a turn: what it asks is what is left, and the two are one
--     behind_asks, -moves           so a line end behind plain characters (`take_line`)
use Prim.Native.Nat.{ℕ, suc, ◌+◌, ◌-◌, ◌≤◌, ◌<◌}
use mathlib.Core.Bool.{Bool, true, false, ◌&&◌, or-true}
use mathlib.Core.List.{List, [], ◌∷◌, ◌++◌, append-nil}
use mathlib.Core.Path.{◌≡◌, refl, sym, ap, subst, ◌∙◌}
use native.Mathlib.Numerals.{add-one}
use native.Mathlib.Omega.{arith}
use borrow.Author.Tests.{eqb-true, ltb-true}
use lib.Dec.{eqb, ltb}
use lib.ListN.{length, get_or, set, drop, length-append, length-drop, get_or-eq_default}
use lib.Seq.{sets, length-sets, drop-cons}
use Rattle.common.proofs.Kit.{never, by, by_lt, both_true}
use Rattle.common.proofs.Lists.{sets_append}
use Rattle.scalars.specs.Chars.{is_char, are_chars}
use Rattle.scalars.proofs.Texts.{encode_append}
use Rattle.scalars.specs.Utf8.{encode_of, encode_all, utf8_step_of}
use Rattle.scalars.proofs.Rows.{row1, length_encode}
use Rattle.ranges.specs.declared.Range.{Range}
use Rattle.stretch.specs.Stretch.{part}
use Rattle.stretch.specs.Plain.{Plain, Gap}
use Rattle.stretch.proofs.Parts.{cut, part_length, part_at, part_one}
use Rattle.utf8_lossy.specs.declared.Out.{Out}
use Rattle.utf8_lossy.specs.declared.Out.TheVariants.{Two}
use Rattle.utf8_lossy.specs.declared.Pending.TheVariants.{Nothing as NoBytes}
use Rattle.utf8_lossy.specs.Machine.{Turn, step_of, outs_of, rest_of, replaced_of}
use Rattle.utf8_lossy.specs.Decode.{chars_out}
use Rattle.utf8_lossy.proofs.Reading.{text}
use Rattle.utf8_lossy.proofs.Room.{are_chars_lem}
use Rattle.utf8_lossy.proofs.Texts.{Comes, char_decoded, step_char, step_next, step_rest, step_bytes}
use Rattle.text_input.specs.declared.Options.{Options}
use Rattle.text_input.specs.Inner.{grounded}
use Rattle.text_input_parts.specs.Appended.{last_of}
use Rattle.text_clean.specs.declared.text.Text.{Text}
use Rattle.text_clean.specs.declared.text.Tally.{Tally}
use Rattle.text_clean.specs.declared.text.Taken.{Taken}
use Rattle.text_clean.specs.declared.plain.PlainEnd.{PlainEnd}
use Rattle.text_clean.specs.declared.Cleaner.{Cleaner}
use Rattle.text_clean.specs.declared.Moved.{Moved}
use Rattle.text_clean.specs.declared.Ran.{Ran}
use Rattle.text_clean.specs.Text.{Passed, take_of, joined, passed_of}
use Rattle.text_clean.specs.Inner.{Fits, tallied, taken_by, ready_for, passed_text, ended_text, PlainRun, line_end_at, LineAsks, line_moved, line_stored, is_nothing, Course, course_of, passes, gives, leads, Reached, ran_in, ran_by, Moves}
use Rattle.text_clean.proofs.Append.{tally_is, course_is, passed_one, gives_append, leads_append, fits_first}
use Rattle.text_clean.proofs.plain.Runs.{part_join}
use Rattle.text_clean.proofs.Ready.{plainly, ready_for_lem, ready_ground, plain_passed, plain_chars, line_end, newline_passed, crlf_passed}
use Rattle.std.specs.Prelude.{Some}

-- ---- records by their parts
taken_is : {m n : ℕ} {t u : Text} {x y : Tally} → m ≡ n → t ≡ u → x ≡ y →
    ◌≡◌ {A = Taken} (record { at = m; text = t; tally = x }) (record { at = n; text = u; tally = y })
taken_is h g f = λ i. record { at = h i; text = g i; tally = f i }

pub reached_is : {m n : ℕ} {s t : Course} → m ≡ n → s ≡ t → ◌≡◌ {A = Reached} (record { written = m; course = s }) (record { written = n; course = t })
reached_is h g = λ i. record { written = h i; course = g i }

-- ---- none, one and two characters
module _ (p : List ℕ) (o : Options) (lines : Bool) (t : Text) (k : ℕ) (tally : Tally) (places : List ℕ) where
  -- what `take_out` asks of them
  pub record Asks (cs : List ℕ) : Type 0 where
    pub chars : are_chars cs ≡ true
    pub room : k + length (encode_all (passed_of p o lines t cs).out) ≤ length places
    pub fits : Fits (taken_by k tally (length cs) (passed_of p o lines t cs)).tally

  -- and what it answers and leaves
  abbrev pub Takes : List ℕ → Taken → List ℕ → Type 0
  Takes cs r after =
      (r ≡ taken_by k tally (length cs) (passed_of p o lines t cs)) × (after ≡ sets places k (encode_all (passed_of p o lines t cs).out))

  -- the same of one character
  abbrev pub AsksOne : ℕ → Type 0
  AsksOne c =
      (is_char c ≡ true)
      × ((k + length (encode_all (take_of p o lines t c).out) ≤ length places) × Fits (taken_by k tally 1 (take_of p o lines t c)).tally)

  abbrev pub TakesOne : ℕ → Taken → List ℕ → Type 0
  TakesOne c r after = (r ≡ taken_by k tally 1 (take_of p o lines t c)) × (after ≡ sets places k (encode_all (take_of p o lines t c).out))

module _ (p : List ℕ) (o : Options) (lines : Bool) (t : Text) (k : ℕ) (tally : Tally) (places : List ℕ) (x : Out) (c d : ℕ) (e : x ≡ Two c d) where
  abbrev u : Passed
  u = take_of p o lines t c

  abbrev v : Passed
  v = take_of p o lines u.next d

  two_is : passed_of p o lines t (c ∷ d ∷ []) ≡ joined u v
  two_is = ap (joined u) (passed_one p o lines u.next d)

  two_length : length (encode_all (joined u v).out) ≡ length (encode_all u.out) + length (encode_all v.out)
  two_length = ap length (encode_append u.out v.out) ∙ length-append (encode_all u.out) (encode_all v.out)

  module _ (a : Asks p o lines t k tally places (chars_out x)) where
    both_asks : (is_char c ≡ true) × (is_char d ≡ true)
        × (k + length (encode_all u.out) + length (encode_all v.out) ≤ length places)
        × Fits (taken_by k tally 2 (joined u v)).tally
    both_asks =
        let b = subst (λ (y : Out). Asks p o lines t k tally places (chars_out y)) e a in
        let s = both_true (is_char c) (is_char d && true) b.chars in
        let n = subst (λ (y : Passed). k + length (encode_all y.out) ≤ length places) two_is b.room in (
          s.0,
          (both_true (is_char d) true s.1).0,
          omega (arith, n, two_length),
          subst (λ (y : Passed). Fits (taken_by k tally 2 y).tally) two_is b.fits,
        )

    pub first_asks : AsksOne p o lines t k tally places c
    first_asks =
        let b = both_asks in
        let f = b.3 in (
          b.0,
          (
            omega (arith, b.2),
            record {
              read = omega (arith, f.read);
              replaced = f.replaced;
              dropped = omega (arith, f.dropped);
              lost = omega (arith, f.lost);
            },
          ),
        )

    pub second_asks : (first : Taken) (mid : List ℕ) → TakesOne p o lines t k tally places c first mid →
        AsksOne p o lines first.text first.at first.tally mid d
    second_asks first mid h =
        let b = both_asks in
        let f = b.3 in
        rw (h.0, h.1) (
          b.1,
          (
            rw length-sets b.2,
            record {
              read = omega (arith, f.read);
              replaced = f.replaced;
              dropped = omega (arith, f.dropped);
              lost = omega (arith, f.lost);
            },
          ),
        )

  pub two_takes : (first : Taken) (mid : List ℕ) → TakesOne p o lines t k tally places c first mid →
      (r : Taken) (after : List ℕ) → TakesOne p o lines first.text first.at first.tally mid d r after →
      Takes p o lines t k tally places (chars_out x) r after
  two_takes first mid h r after =
      rw (h.0, h.1)
      (λ g.
      subst (λ (y : Out). Takes p o lines t k tally places (chars_out y) r after) (sym e) (
        g.0 ∙ taken_is (omega (arith, two_length)) refl (tally_is (omega arith) refl (omega arith) (omega arith)) ∙ ap (taken_by k tally 2) (sym two_is),
        g.1 ∙ sym (sets_append (encode_all u.out) (encode_all v.out) places k) ∙ ap (sets places k) (sym (encode_append u.out v.out))
            ∙ ap (λ (y : Passed). sets places k (encode_all y.out)) (sym two_is),
      ))

-- ---- one byte
-- what it puts out is characters
pub byte_chars : (p : List ℕ) (b : ℕ) (x : Turn) → x ≡ step_of p b → are_chars x.out ≡ true
byte_chars p b x e = rw e (rw append-nil at (are_chars_lem p (b ∷ [])))

newline_bytes : encode_all (0x0A ∷ []) ≡ 0x0A ∷ []
newline_bytes = rw (row1 0x0A (omega arith))

-- ---- what a part needs, of what is left
module _ (p : List ℕ) (o : Options) (lines : Bool) (s : Course) (bytes : List ℕ) (i : ℕ) (out : List ℕ) (k : ℕ) where
  abbrev pub Room : Type 0
  Room = k + length (gives p o lines s (drop i bytes)) ≤ length out

  abbrev pub Counted : Type 0
  Counted = Fits (leads p o lines s (drop i bytes)).tally

  part_room : (j : ℕ) → i ≤ j → Room → k + length (gives p o lines s (part i j bytes)) ≤ length out
  part_room j on room =
      let ns = part i j bytes in
      let e = ap (gives p o lines s) (cut bytes i j on) ∙ gives_append p o lines s ns (drop j bytes) in
      let n = ap length e ∙ length-append (gives p o lines s ns) (gives p o lines (leads p o lines s ns) (drop j bytes)) in
      omega (arith, room, n)

  part_fits : (j : ℕ) → i ≤ j → Counted → Fits (leads p o lines s (part i j bytes)).tally
  part_fits j on f =
      fits_first p o lines s (part i j bytes) (drop j bytes)
      (subst (λ (l : List ℕ). Fits (leads p o lines s l).tally) (cut bytes i j on) f)

  -- ---- whole characters
  -- the bytes from i up to j are the characters cs, where nothing is pending, and these come to x
  pub record Whole (j : ℕ) (cs : List ℕ) (x : Passed) : Type 0 where
    pub on : i < j
    pub low : j ≤ length bytes
    pub nothing : s.pending ≡ []
    pub decoded : Comes [] (part i j bytes) cs [] 0
    pub comes : passed_of p o lines s.text cs ≡ x

  module _ (j : ℕ) (cs : List ℕ) (x : Passed) (w : Whole j cs x) where
    whole_outs : outs_of s.pending (part i j bytes) ≡ cs
    whole_outs = ap (λ (q : List ℕ). outs_of q (part i j bytes)) w.nothing ∙ w.decoded.0

    whole_passes : passes p o lines s (part i j bytes) ≡ x
    whole_passes = ap (passed_of p o lines s.text) whole_outs ∙ w.comes

    whole_gives : gives p o lines s (part i j bytes) ≡ encode_all x.out
    whole_gives = ap (λ (z : Passed). encode_all z.out) whole_passes

    whole_leads : leads p o lines s (part i j bytes)
        ≡ record { pending = []; text = x.next; tally = tallied s.tally (length cs) x.dropped x.lost }
    whole_leads =
        let q = whole_passes in
        let m = ap (λ (l : List ℕ). replaced_of l (part i j bytes)) w.nothing ∙ w.decoded.2 in
        course_is (ap (λ (l : List ℕ). rest_of l (part i j bytes)) w.nothing ∙ w.decoded.1) (ap (λ (z : Passed). z.next) q)
        (tally_is (omega (arith, ap length whole_outs)) (omega (arith, m)) (omega (arith, ap (λ (z : Passed). z.dropped) q))
        (omega (arith, ap (λ (z : Passed). z.lost) q)))

    whole_room : Room → k + length (encode_all x.out) ≤ length out
    whole_room room = omega (arith, part_room j (omega (arith, w.on)) room, ap length whole_gives)

    whole_fits : Counted → Fits (tallied s.tally (length cs) x.dropped x.lost)
    whole_fits f = subst (λ (z : Course). Fits z.tally) whole_leads (part_fits j (omega (arith, w.on)) f)

    whole_moves : (m : Moved) (after : List ℕ) → m.at ≡ j → m.written ≡ k + length (encode_all x.out) →
        course_of m.next m.tally ≡ record { pending = []; text = x.next; tally = tallied s.tally (length cs) x.dropped x.lost } →
        after ≡ sets out k (encode_all x.out) → Gap m.gap → Moves p o lines s bytes i out k m after
    whole_moves m after e f c a g =
        record {
          on = omega (arith, w.on);
          low = omega (arith, w.low);
          written = rw e (f ∙ ap (λ (l : List ℕ). k + length l) (sym whole_gives));
          course = rw e (c ∙ sym whole_leads);
          places = rw e (a ∙ ap (sets out k) (sym whole_gives));
          gap = g;
        }

  -- ---- the four ways
  module _ (here : i < length bytes) (nothing : is_nothing s.pending ≡ true) where
    none_is : (l : List ℕ) → is_nothing l ≡ true → l ≡ []
    none_is [] h = refl
    none_is (b ∷ l) h = never h

    -- a character
    char_whole : (c j : ℕ) → utf8_step_of bytes i ≡ Some (c, j) → Whole j (c ∷ []) (take_of p o lines s.text c)
    char_whole c j e =
        let n = step_next bytes i c j e in
        let l = length_encode c in
        let m = ap length (step_rest bytes i c j e) ∙ length-append (encode_of c) (drop j bytes) in
        record {
          on = omega (arith, n, l.0);
          low = omega (arith, n, m, length-drop i bytes);
          nothing = none_is s.pending nothing;
          decoded = subst (λ (l : List ℕ). Comes [] l (c ∷ []) [] 0) (sym (step_bytes bytes i c j e)) (char_decoded c (step_char bytes i c j e));
          comes = passed_one p o lines s.text c;
        }

    module _ (c j : ℕ) (e : utf8_step_of bytes i ≡ Some (c, j)) where
      pub char_asks : Room → Counted → AsksOne p o lines s.text k s.tally out c
      char_asks room f =
          let w = char_whole c j e in
          (step_char bytes i c j e, (whole_room j (c ∷ []) _ w room, whole_fits j (c ∷ []) _ w f))

      pub char_moves : (r : Taken) (after : List ℕ) → TakesOne p o lines s.text k s.tally out c r after → (gap : Range) → Gap gap →
          Moves p o lines s bytes i out k (record { at = j; written = r.at; next = record { pending = NoBytes; text = r.text }; tally = r.tally; gap = gap })
          after
      char_moves r after h gap g =
          whole_moves j (c ∷ []) _ (char_whole c j e) _ after refl (ap (λ (z : Taken). z.at) h.0)
          (ap (λ (z : Taken). record { pending = []; text = z.text; tally = z.tally }) h.0) h.1 g

    module _ (ready : ready_for s.text (get_or bytes i 0) ≡ true) where
      -- a run of plain characters
      plain_some : (j : ℕ) (cs : List ℕ) → i < j → j ≤ length bytes → part i j bytes ≡ encode_all cs →
          ((x : ℕ) → x < length cs → (is_char (get_or cs x 0) ≡ true) × Plain (get_or cs x 0)) → Whole j cs (plainly s.text cs (last_of 0 cs))
      plain_some j [] on low e h = absurd (omega (arith, part_length bytes i j (omega arith) low, ap length e))
      plain_some j (c ∷ cs) on low e h =
          let z : i + 0 ≡ i = omega arith in
          let f = ap (λ (l : List ℕ). get_or l 0 0) (sym e) ∙ part_at bytes i j (omega arith) 0 (omega arith) ∙ ap (λ (n : ℕ). get_or bytes n 0) z in
          record {
            on = on;
            low = low;
            nothing = none_is s.pending nothing;
            decoded = subst (λ (l : List ℕ). Comes [] l (c ∷ cs) [] 0) (sym e) (text (c ∷ cs) (plain_chars (c ∷ cs) h));
            comes = plain_passed p o lines cs c s.text (ready_for_lem s.text (get_or bytes i 0) c cs ready f) (λ x l. (h x l).1);
          }

      plain_whole : (e : PlainEnd) (r : PlainRun bytes i e) → i < e.at →
          Whole e.at r.chars (plainly s.text r.chars (last_of 0 r.chars))
      plain_whole e r on = plain_some e.at r.chars on r.low r.bytes r.each

      module _ (e : PlainEnd) (r : PlainRun bytes i e) (on : i < e.at) where
        pub plain_room : Room → k + length (part i e.at bytes) ≤ length out
        plain_room room = omega (arith, whole_room e.at r.chars _ (plain_whole e r on) room, ap length r.bytes)

        pub plain_fits : Counted → Fits (tallied s.tally e.chars 0 0)
        plain_fits f = rw r.count (whole_fits e.at r.chars _ (plain_whole e r on) f)

        pub plain_moves : (next : Text) → next ≡ passed_text s.text e.last → (tally : Tally) → tally ≡ tallied s.tally e.chars 0 0 →
            (after : List ℕ) → after ≡ sets out k (part i e.at bytes) → (gap : Range) → Gap gap →
            Moves p o lines s bytes i out k (record { at = e.at; written = k + (e.at - i); next = record { pending = NoBytes; text = next }; tally = tally; gap = gap })
            after
        plain_moves next h tally f after a gap g =
            let n = part_length bytes i e.at (omega arith) r.low in
            whole_moves e.at r.chars _ (plain_whole e r on) _ after refl (omega (arith, n, ap length r.bytes))
            (course_is refl (h ∙ ap (passed_text s.text) r.last) (f ∙ ap (λ (x : ℕ). tallied s.tally x 0 0) r.count))
            (a ∙ ap (sets out k) r.bytes) g

      -- a line end
      line_whole : (w : ℕ) → w ≡ line_end_at bytes i → 0 < w →
          (cs : List ℕ) × (length cs ≡ w) × Whole (i + w) cs (line_end s.text lines)
      line_whole w =
          by (eqb (get_or bytes i 0) 0x0A) (λ a. rw a (λ e h. newline w e (eqb-true (get_or bytes i 0) 0x0A a)))
          (λ a. by (eqb (get_or bytes i 0) 0x0D && eqb (get_or bytes (i + 1) 0) 0x0A)
          (λ b. let c = both_true (eqb (get_or bytes i 0) 0x0D) (eqb (get_or bytes (i + 1) 0) 0x0A) b in
          rw (a, b) (λ e h. crlf w e (eqb-true _ _ c.0) (eqb-true _ _ c.1)))
          (λ b. rw (a, b) (λ e h. absurd (omega arith))))
        where
          g : (grounded s.text.input.state ≡ true) × (s.text.cr ≡ false)
          g = ready_ground s.text (get_or bytes i 0) ready

          newline : (w : ℕ) → w ≡ 1 → get_or bytes i 0 ≡ 0x0A →
              (cs : List ℕ) × (length cs ≡ w) × Whole (i + w) cs (line_end s.text lines)
          newline w e a =
              rw e (
                0x0A ∷ [],
                refl,
                record {
                  on = omega arith;
                  low = omega arith;
                  nothing = none_is s.pending nothing;
                  decoded = subst (λ (l : List ℕ). Comes [] l (0x0A ∷ []) [] 0) (sym (part_one bytes i here ∙ ap (λ (b : ℕ). b ∷ []) a)) (refl, refl, refl);
                  comes = newline_passed p o lines s.text g.0 g.1;
                },
              )

          crlf : (w : ℕ) → w ≡ 2 → get_or bytes i 0 ≡ 0x0D → get_or bytes (i + 1) 0 ≡ 0x0A →
              (cs : List ℕ) × (length cs ≡ w) × Whole (i + w) cs (line_end s.text lines)
          crlf w e a b =
              let m : i + 1 < length bytes =
              by_lt (i + 1) (length bytes) (λ h. h) (λ h. absurd (omega (arith, sym b ∙ get_or-eq_default bytes 0 h))) in
              let n : i + 2 - i ≡ 2 = omega arith in
              let d : get_or bytes (suc i) 0 ≡ 0x0A = rw add-one at b in
              let q : part i (i + 2) bytes ≡ 0x0D ∷ 0x0A ∷ [] =
              rw (n, drop-cons bytes i 0 here, drop-cons bytes (suc i) 0 (omega arith), a, d) in
              rw e (
                0x0D ∷ 0x0A ∷ [],
                refl,
                record {
                  on = omega arith;
                  low = omega arith;
                  nothing = none_is s.pending nothing;
                  decoded = subst (λ (l : List ℕ). Comes [] l (0x0D ∷ 0x0A ∷ []) [] 0) (sym q) (refl, refl, refl);
                  comes = crlf_passed p o lines s.text g.0 g.1;
                },
              )

      module _ (w : ℕ) (e : w ≡ line_end_at bytes i) (some : 0 < w) where
        pub line_room : Room → k < length out
        line_room room =
            let x = line_whole w e some in
            omega (arith, whole_room (i + w) x.0 _ x.2 room, ap length newline_bytes)

        pub line_low : i + w ≤ length bytes
        line_low = (line_whole w e some).2.low

        pub line_fits : Counted → Fits (tallied s.tally w 0 0)
        line_fits f =
            let x = line_whole w e some in
            subst (λ (n : ℕ). Fits (tallied s.tally n 0 0)) x.1 (whole_fits (i + w) x.0 _ x.2 f)

        pub line_moves : (next : Text) → next ≡ ended_text s.text lines → (tally : Tally) → tally ≡ tallied s.tally w 0 0 →
            (after : List ℕ) → after ≡ set out k 0x0A → (gap : Range) → Gap gap →
            Moves p o lines s bytes i out k (record { at = i + w; written = k + 1; next = record { pending = NoBytes; text = next }; tally = tally; gap = gap })
            after
        line_moves next h tally f after a gap g =
            let x = line_whole w e some in
            whole_moves (i + w) x.0 _ x.2 _ after refl (omega (arith, ap length newline_bytes))
            (course_is refl h (f ∙ ap (λ (n : ℕ). tallied s.tally n 0 0) (sym x.1)))
            (a ∙ ap (sets out k) (sym newline_bytes)) g

  -- a byte
  module _ (here : i < length bytes) where
    pub byte_room : Room → k + length (gives p o lines s (get_or bytes i 0 ∷ [])) ≤ length out
    byte_room room = rw (part_one bytes i here) at (part_room (i + 1) (omega arith) room)

    pub byte_fits : Counted → Fits (leads p o lines s (get_or bytes i 0 ∷ [])).tally
    byte_fits f = subst (λ (l : List ℕ). Fits (leads p o lines s l).tally) (part_one bytes i here) (part_fits (i + 1) (omega arith) f)

    pub byte_moves : (gap : Range) → Gap gap → (r : Ran) → ran_in r ≡ ran_by p o lines k s (get_or bytes i 0 ∷ []) →
        (after : List ℕ) → after ≡ sets out k (gives p o lines s (get_or bytes i 0 ∷ [])) →
        Moves p o lines s bytes i out k (record { at = i + 1; written = r.written; next = r.next; tally = r.tally; gap = gap }) after
    byte_moves gap g r e after a =
        let q = sym (part_one bytes i here) in
        record {
          on = omega arith;
          low = omega arith;
          written = ap (λ (z : Reached). z.written) e ∙ ap (λ (l : List ℕ). k + length (gives p o lines s l)) q;
          course = ap (λ (z : Reached). z.course) e ∙ ap (leads p o lines s) q;
          places = a ∙ ap (λ (l : List ℕ). sets out k (gives p o lines s l)) q;
          gap = g;
        }

-- past the end no line end stands
past_end : (bytes : List ℕ) (i : ℕ) → length bytes ≤ i → line_end_at bytes i ≡ 0
past_end bytes i h = rw (get_or-eq_default bytes 0 h)

-- ---- a turn behind a turn
module _ (p : List ℕ) (o : Options) (lines : Bool) (s : Course) (bytes : List ℕ) (i : ℕ) (out : List ℕ) (k : ℕ) (m : Moved) (mid : List ℕ)
    (v : Moves p o lines s bytes i out k m mid) where
  -- the bytes of the first, what they give, and where they lead
  abbrev ns : List ℕ
  ns = part i m.at bytes

  abbrev given : List ℕ
  given = gives p o lines s ns

  abbrev led : Course
  led = course_of m.next m.tally

  then_gives : (l : List ℕ) → gives p o lines s (ns ++ l) ≡ given ++ gives p o lines led l
  then_gives l = gives_append p o lines s ns l ∙ ap (λ (z : Course). given ++ gives p o lines z l) (sym v.course)

  then_leads : (l : List ℕ) → leads p o lines s (ns ++ l) ≡ leads p o lines led l
  then_leads l = leads_append p o lines s ns l ∙ ap (λ (z : Course). leads p o lines z l) (sym v.course)

  then_room_lem : Room p o lines s bytes i out k → Room p o lines led bytes m.at mid m.written
  then_room_lem room =
      let rest = drop m.at bytes in
      let e = ap (gives p o lines s) (cut bytes i m.at (omega (arith, v.on))) ∙ then_gives rest in
      let n = ap length e ∙ length-append given (gives p o lines led rest) in
      let l = ap length v.places ∙ length-sets out k given in
      omega (arith, room, n, l, v.written)

  then_fits : Counted p o lines s bytes i out k → Counted p o lines led bytes m.at mid m.written
  then_fits f =
      let e = ap (leads p o lines s) (cut bytes i m.at (omega (arith, v.on))) ∙ then_leads (drop m.at bytes) in
      subst (λ (z : Course). Fits z.tally) e f

  moves_then : (n : Moved) (after : List ℕ) → Moves p o lines led bytes m.at mid m.written n after → Moves p o lines s bytes i out k n after
  moves_then n after w =
      let ms = part m.at n.at bytes in
      let q = part_join bytes i m.at n.at (omega (arith, v.on)) (omega (arith, w.on)) in
      let g = ap (gives p o lines s) (sym q) ∙ then_gives ms in
      record {
        on = omega (arith, v.on, w.on);
        low = w.low;
        written = omega (arith, w.written, v.written, ap length g ∙ length-append given (gives p o lines led ms));
        course = w.course ∙ sym (then_leads ms) ∙ ap (leads p o lines s) q;
        places =
            w.places ∙ ap (λ (l : List ℕ). sets l m.written (gives p o lines led ms)) v.places
            ∙ ap (λ (x : ℕ). sets (sets out k given) x (gives p o lines led ms)) v.written
            ∙ sym (sets_append given (gives p o lines led ms) out k) ∙ ap (sets out k) (sym g);
        gap = w.gap;
      }

  -- ---- a line end behind plain characters, the last of them c
  module _ (t : Text) (c : ℕ) (e : m.next ≡ record { pending = NoBytes; text = passed_text t c }) where
    none_behind : is_nothing led.pending ≡ true
    none_behind = rw e

    ready_behind : ready_for led.text (get_or bytes m.at 0) ≡ true
    ready_behind = rw e (or-true (ltb (get_or bytes m.at 0) 0x80))

    line_here : 0 < line_end_at bytes m.at → m.at < length bytes
    line_here h = by_lt m.at (length bytes) (λ l. l) (λ l. absurd (omega (arith, h, past_end bytes m.at l)))

    pub behind_asks : Room p o lines s bytes i out k → Counted p o lines s bytes i out k →
        LineAsks (line_end_at bytes m.at) bytes m.at mid m.written m.tally
    behind_asks room f =
        record {
          low = λ h. line_low p o lines led bytes m.at mid m.written (line_here h) none_behind ready_behind _ refl h;
          room = λ h. line_room p o lines led bytes m.at mid m.written (line_here h) none_behind ready_behind _ refl h (then_room_lem room);
          fits = λ h. line_fits p o lines led bytes m.at mid m.written (line_here h) none_behind ready_behind _ refl h (then_fits f);
        }

    behind_by : (w : ℕ) → w ≡ line_end_at bytes m.at → (after : List ℕ) → after ≡ line_stored w mid m.written →
        Moves p o lines s bytes i out k (line_moved w m.next.text lines m.at m.gap m.written m.tally) after
    behind_by w q after =
        by (ltb 0 w)
        (λ h. rw h
        (λ a.
        let some : 0 < w = ltb-true 0 w h in
        let here = line_here (omega (arith, some, q)) in
        moves_then _ after
        (line_moves p o lines led bytes m.at mid m.written here none_behind ready_behind w q some _ refl _ refl after a m.gap v.gap)))
        (λ h. rw h (λ a. rw (a, sym (ap (λ (z : Cleaner). z.pending) e)) v))

    pub behind_moves : (r : Moved) → r ≡ line_moved (line_end_at bytes m.at) m.next.text lines m.at m.gap m.written m.tally →
        (after : List ℕ) → after ≡ line_stored (line_end_at bytes m.at) mid m.written → Moves p o lines s bytes i out k r after
    behind_moves r q after a = subst (λ (z : Moved). Moves p o lines s bytes i out k z after) (sym q) (behind_by _ refl after a)
