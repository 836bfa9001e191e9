-- What the loop of `run` and the calls lean on.
--     left_room, left_fits, moved, ran    the loop: what is left leads to the same end (`stretch`, proofs/Way.antt)
--     clean_room, clean_counts, cleaned      `clean`
--     take_asks, close_asks, finished        `finish`
use Prim.Native.Nat.{ℕ, zero, suc, ◌+◌, ◌≤◌, ◌<◌}
use mathlib.Core.Bool.{Bool, true, false}
use mathlib.Core.List.{List, [], ◌∷◌}
use mathlib.Core.Path.{◌≡◌, refl, sym, ap, subst, ◌∙◌}
use native.Mathlib.Omega.{arith}
use borrow.Author.Tests.{le-ltb, ltb-false}
use lib.ListN.{length, drop, length-append}
use lib.Seq.{sets, length-sets}
use Rattle.common.proofs.Lists.{sets_append}
use Rattle.scalars.specs.Utf8.{encode_all}
use Rattle.scalars.proofs.Texts.{encode_append}
use Rattle.page.specs.Page.{accepted}
use Rattle.stretch.specs.Stretch.{part}
use Rattle.stretch.proofs.Parts.{cut}
use Rattle.stretch.proofs.Way.{Going, again, ended}
use Rattle.utf8_lossy.specs.declared.Out.{Out}
use Rattle.utf8_lossy.specs.declared.Pending.TheVariants.{Nothing}
use Rattle.utf8_lossy.specs.Machine as decoder
use Rattle.utf8_lossy.specs.Decode.{pending_of, chars_out}
use Rattle.utf8_lossy.proofs.Room.{pending_short, finish_chars_lem}
use Rattle.text_input.specs.declared.Options.{Options}
use Rattle.text_clean.specs.declared.text.Text.{Text}
use Rattle.text_clean.specs.declared.text.Tally.{Tally}
use Rattle.text_clean.specs.declared.text.Taken.{Taken}
use Rattle.text_clean.specs.declared.Cleaner.{Cleaner}
use Rattle.text_clean.specs.declared.Counts.{Counts}
use Rattle.text_clean.specs.declared.Moved.{Moved}
use Rattle.text_clean.specs.declared.Ran.{Ran}
use Rattle.text_clean.specs.Text.{Passed, passed_of, closed_of}
use Rattle.text_clean.specs.Clean.{Outcome, outcome, places_for_bytes, clean_of, finish_passed, finish_of}
use Rattle.text_clean.specs.Inner.{no_tally, Fits, replaced_more, counts_of, taken_by, is_short, Course, course_of, gives, leads, Reached, ran_in, ran_by, Moves}
use Rattle.text_clean.proofs.Append.{tally_is, course_is, clean_way}
use Rattle.text_clean.proofs.Room.{bit_le, passed_dropped, passed_lost, counts_fit, bytes_room, last_room}
use Rattle.text_clean.proofs.Turns.{reached_is, Asks, Takes}
use Rattle.std.specs.Prelude.{Ok}

-- ---- the loop of `run`
module _ (p : List ℕ) (o : Options) (lines : Bool) (bytes places₀ : List ℕ) (r₀ : Cleaner) (places : List ℕ) (r : Cleaner) (t : Tally) (k i : ℕ)
    (g : Going (clean_way p o lines) bytes 0 places₀ (course_of r₀ no_tally) places (course_of r t) k i) where
  abbrev s₀ : Course
  s₀ = course_of r₀ no_tally

  abbrev s : Course
  s = course_of r t

  pub left_room : length (gives p o lines s₀ bytes) ≤ length places₀ → k + length (gives p o lines s (drop i bytes)) ≤ length places
  left_room room = omega (arith, g.count, g.same)

  pub left_fits : Fits (leads p o lines s₀ bytes).tally → Fits (leads p o lines s (drop i bytes)).tally
  left_fits f = subst (λ (x : Course). Fits x.tally) (sym g.next) f

  pub moved : (m : Moved) (after : List ℕ) → Moves p o lines s bytes i places k m after →
      Going (clean_way p o lines) bytes 0 places₀ s₀ after (course_of m.next m.tally) m.written m.at
  moved m after v =
      again (clean_way p o lines) bytes 0 places₀ s₀ places s k i g (part i m.at bytes) m.at (cut bytes i m.at (omega (arith, v.on))) v.low after
      (course_of m.next m.tally) m.written v.written v.course v.places

  pub ran : length bytes ≤ i →
      (◌≡◌ {A = Reached} (record { written = k; course = s }) (ran_by p o lines 0 s₀ bytes)) × (places ≡ sets places₀ 0 (gives p o lines s₀ bytes))
  ran past =
      let e = ended (clean_way p o lines) bytes 0 places₀ s₀ places s k i g past in
      let q : s ≡ leads p o lines s [] = course_is refl refl (tally_is (omega arith) (omega arith) (omega arith) (omega arith)) in
      (reached_is (omega (arith, e.0)) (q ∙ e.1.0), e.1.1)

-- ---- `clean`
outcome_is : {a b c d : List ℕ} {t u : Text} {x y : List ℕ} → a ≡ b → c ≡ d → t ≡ u → x ≡ y →
    ◌≡◌ {A = Outcome} (record { numbers = a; pending = c; text = t; places = x }) (record { numbers = b; pending = d; text = u; places = y })
outcome_is h g f e = λ i. record { numbers = h i; pending = g i; text = f i; places = e i }

numbers_are : {a b c d e f g h i j : ℕ} → a ≡ b → c ≡ d → e ≡ f → g ≡ h → i ≡ j →
    ◌≡◌ {A = List ℕ} (0 ∷ a ∷ c ∷ e ∷ g ∷ i ∷ []) (0 ∷ b ∷ d ∷ f ∷ h ∷ j ∷ [])
numbers_are u v w x y = λ n. 0 ∷ u n ∷ v n ∷ w n ∷ x n ∷ y n ∷ []

module _ (r : Cleaner) (p : List ℕ) (o : Options) (lines : Bool) (bs places : List ℕ) where
  module _ (right : accepted p ≡ true) where
    module _ (enough : is_short (length bs) (length places) ≡ false) where
      pub clean_room : length (gives p o lines (course_of r no_tally) bs) ≤ length places
      clean_room = omega (arith, bytes_room p o lines r no_tally bs, ltb-false (length places) (places_for_bytes (length bs)) enough)

      few_bytes : (n : ℕ) → places_for_bytes n ≤ length places → length places < 18446744073709551616 → n < 9223372036854775808
      few_bytes zero h l = omega arith
      few_bytes (suc n) h l = omega arith

      pub clean_counts : length places < 18446744073709551616 → Fits (leads p o lines (course_of r no_tally) bs).tally
      clean_counts l = counts_fit p o lines r bs (few_bytes (length bs) (ltb-false (length places) (places_for_bytes (length bs)) enough) l)

      pub cleaned : (x : Ran) → ran_in x ≡ ran_by p o lines 0 (course_of r no_tally) bs →
          (after : List ℕ) → after ≡ sets places 0 (gives p o lines (course_of r no_tally) bs) →
          (c : Counts) → c ≡ counts_of x.written x.tally → outcome (record { answer = Ok c; next = x.next }) after ≡ clean_of r p o lines bs places
      unfolding clean_of
      cleaned x e after a c q =
          let n = ap (λ (y : Reached). y.written) e in
          let m = ap (λ (y : Reached). y.course.tally.read) e in
          let l = ap (λ (y : Reached). y.course.tally.replaced) e in
          let d = ap (λ (y : Reached). y.course.tally.dropped) e in
          let w = ap (λ (y : Reached). y.course.tally.lost) e in
          simp (right, enough)
          (outcome_is
          (numbers_are (ap (λ (y : Counts). y.written) q ∙ omega (arith, n)) (ap (λ (y : Counts). y.read) q ∙ omega (arith, m))
          (ap (λ (y : Counts). y.replaced) q ∙ omega (arith, l)) (ap (λ (y : Counts). y.dropped) q ∙ omega (arith, d))
          (ap (λ (y : Counts). y.lost) q ∙ omega (arith, w)))
          (ap (λ (y : Reached). y.course.pending) e) (ap (λ (y : Reached). y.course.text) e) a)

-- ---- `finish`
module _ (r : Cleaner) (p : List ℕ) (o : Options) (eof : Bool) (places : List ℕ) where
  module _ (right : accepted p ≡ true) where
    -- the bytes cut off, the characters for them, what these come to, and the end of the text
    abbrev rest : List ℕ
    rest = pending_of r.pending

    abbrev cs : List ℕ
    cs = decoder.finish_of rest

    abbrev x : Passed
    x = passed_of p o false r.text cs

    abbrev y : Passed
    y = closed_of x.next eof

    finish_short : (l : List ℕ) → length (decoder.finish_of l) ≤ 1
    finish_short [] = omega arith
    finish_short (a ∷ l) = omega arith

    last_length : length (encode_all (finish_passed r p o eof).out) ≡ length (encode_all x.out) + length (encode_all y.out)
    last_length = ap length (encode_append x.out y.out) ∙ length-append (encode_all x.out) (encode_all y.out)

    -- what is counted before the first character
    module _ (t q : Tally) (n : ℕ) (none : t ≡ no_tally) (size : n ≡ length rest) where
      module _ (tally : q ≡ replaced_more t n) (enough : 8 ≤ length places) (chars : Out) (out : chars_out chars ≡ cs) where
        first : q ≡ replaced_more no_tally (length rest)
        first = tally ∙ rw (none, size)

        pub take_asks : Asks p o false r.text 0 q places (chars_out chars)
        take_asks =
            rw (first, out)
            record {
              chars = finish_chars_lem rest;
              room = omega (arith, last_room r p o eof, last_length);
              fits = record {
                read = omega (arith, finish_short rest);
                replaced = omega (arith, pending_short r.pending);
                dropped = omega (arith, finish_short rest, passed_dropped p o false r.text cs);
                lost = omega (arith, finish_short rest, passed_lost p o false r.text cs, bit_le r.text.cr);
              };
            }

        module _ (a : Taken) (mid : List ℕ) (took : Takes p o false r.text 0 q places (chars_out chars) a mid) where
          given : Takes p o false r.text 0 (replaced_more no_tally (length rest)) places cs a mid
          given = rw (first, out) at took

          pub close_asks : (a.at + length (encode_all (closed_of a.text eof).out) ≤ length mid)
              × Fits (taken_by a.at a.tally 0 (closed_of a.text eof)).tally
          close_asks =
              let g = given in
              rw (g.0, g.1) (
                rw length-sets (omega (arith, last_room r p o eof, last_length)),
                record {
                  read = omega (arith, finish_short rest);
                  replaced = omega (arith, pending_short r.pending);
                  dropped = omega (arith, finish_short rest, passed_dropped p o false r.text cs);
                  lost = omega (arith, finish_short rest, passed_lost p o false r.text cs, bit_le r.text.cr);
                },
              )

          pub finished : (b : Taken) (after : List ℕ) → b ≡ taken_by a.at a.tally 0 (closed_of a.text eof) →
              after ≡ sets mid a.at (encode_all (closed_of a.text eof).out) → (c : Counts) → c ≡ counts_of b.at b.tally →
              outcome (record { answer = Ok c; next = record { pending = Nothing; text = b.text } }) after ≡ finish_of r p o eof places
          unfolding finish_of
          finished b after =
              rw (given.0, given.1)
              (λ e h c d.
              simp (right, le-ltb (length places) 8 enough)
              (rw (d, e, h)
              (outcome_is (numbers_are (omega (arith, last_length)) (omega arith) (omega arith) (omega arith) (omega arith)) refl refl
              (sym (sets_append (encode_all x.out) (encode_all y.out) places 0) ∙ ap (sets places 0) (sym (encode_append x.out y.out))))))
