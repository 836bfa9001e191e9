-- The order of the refusals of a clean and of a finish, with their numbers and conditions written out, and what each refusal and each
-- success leaves; for every record, page, options, bytes and places. Idea: a call is refused, and gives record and places back, or stores
-- what it appends, which fits.
--     clean_order, finish_order      the order of refusals
--     clean_leaves, finish_leaves    what a clean, a finish leaves
--     counts_told                    an answer's counts are its fields, by their names
use Prim.Native.Nat.{ℕ, zero, suc, ◌+◌, ◌*◌, ◌≤◌}
use mathlib.Core.Bool.{Bool, true, false, cond, not, ◌&&◌}
use mathlib.Core.List.{List, [], ◌∷◌}
use mathlib.Core.Path.{◌≡◌, refl, sym, ap, ◌∙◌}
use native.Mathlib.Omega.{arith}
use lib.Dec.{eqb, ltb}
use lib.ListN.{length}
use borrow.Author.Tests.{lt-ltb, le-ltb, eqb-true}
use Rattle.common.specs.Answers.{refusal_in}
use Rattle.common.specs.Order.{◌when◌, first_of}
use Rattle.common.proofs.Kit.{never, split, by_lt}
use Rattle.common.proofs.Lists.{drop_sets}
use Rattle.scalars.specs.Utf8.{encode_all}
use Rattle.page.specs.Page.{accepted}
use Rattle.utf8_lossy.specs.Decode.{pending_of}
use Rattle.utf8_lossy.specs.Machine as decoder
use Rattle.text_input.specs.declared.Options.{Options}
use Rattle.text_input.proofs.Meaning.{ends_start}
use Rattle.text_clean.specs.declared.text.Text.{Text}
use Rattle.text_clean.specs.declared.Cleaner.{Cleaner}
use Rattle.text_clean.specs.declared.Counts.{Counts}
use Rattle.text_clean.specs.Text.{Passed, begun, take_of, passed_of}
use Rattle.text_clean.specs.Clean.{Outcome, refusal_of, places_for_bytes, chars_in, clean_of, finish_passed, finish_of}
use Rattle.text_clean.specs.Calls.{total_of, totals_of}
use Rattle.text_clean.specs.Inner.{no_tally}
use Rattle.text_clean.specs.Refusals.{CleanLeaves, FinishLeaves}
use Rattle.text_clean.proofs.Room.{by_take, bytes_room, last_room}
use Rattle.std.specs.Prelude.{Ok}

-- ---- the places that n bytes need
short_is : (n room : ℕ) → ltb room (places_for_bytes n) ≡ ltb 0 n && ltb room (3 * n + 13)
short_is zero room = le-ltb room 0 (omega arith)
short_is (suc n) room = rw (lt-ltb 0 (suc n) (omega arith))

order_by : (page short : Bool) → cond (eqb (cond (not page) 2 0) 0) (cond short 8 0) (cond (not page) 2 0) ≡ first_of (2 when not page ∷ 8 when short ∷ [])
order_by true short = refl
order_by false short = refl

-- room by the refusal's number
room_by : (page : Bool) (needed room : ℕ) →
    eqb (cond (eqb (cond (not page) 2 0) 0) (cond (ltb room needed) 8 0) (cond (not page) 2 0)) 0 ≡ true → needed ≤ room
room_by true needed room h = by_lt room needed (λ l. never (rw (lt-ltb room needed l) at h)) (λ l. l)
room_by false needed room h = never h

module _ (r : Cleaner) (p : List ℕ) (o : Options) (lines : Bool) (bs places : List ℕ) where
  abbrev no : ℕ
  no = refusal_of p (places_for_bytes (length bs)) (length places)

  answered : refusal_in (clean_of r p o lines bs places).numbers ≡ no
  unfolding clean_of
  answered = split (λ (s : Outcome). refusal_in s.numbers ≡ no) (eqb no 0) (λ e. sym (eqb-true no 0 e)) (λ e. refl)

  -- 2, then 8
  pub clean_order : refusal_in (clean_of r p o lines bs places).numbers
      ≡ first_of (2 when not (accepted p) ∷ 8 when (ltb 0 (length bs) && ltb (length places) (3 * length bs + 13)) ∷ [])
  clean_order =
      answered
      ∙ order_by (accepted p) (ltb (length places) (places_for_bytes (length bs)))
      ∙ ap (λ b. first_of (2 when not (accepted p) ∷ 8 when b ∷ [])) (short_is (length bs) (length places))

  written_fits : eqb no 0 ≡ true → length (encode_all (passed_of p o lines r.text (chars_in r bs)).out) ≤ length places
  written_fits e =
      omega (arith, bytes_room p o lines r no_tally bs, room_by (accepted p) (places_for_bytes (length bs)) (length places) e)

  most : (n : ℕ) → places_for_bytes n ≤ 3 * n + 13
  most zero = omega arith
  most (suc n) = omega arith

  pub clean_leaves : CleanLeaves r bs places (clean_of r p o lines bs places)
  unfolding clean_of
  clean_leaves =
      split (CleanLeaves r bs places) (eqb no 0)
      (λ e.
      let out : List ℕ = encode_all (passed_of p o lines r.text (chars_in r bs)).out in
      record {
        nothing = λ h. never h;
        empty = λ z. rw z (record { pending = refl; text = refl; places_are = refl }, refl);
        room = omega (arith, bytes_room p o lines r no_tally bs, most (length bs));
        fits = written_fits e;
        past = drop_sets (length out) places 0 out (omega arith);
      })
      (λ e.
      record {
        nothing = λ h. record { pending = refl; text = refl; places_are = refl };
        empty = λ z. (record { pending = refl; text = refl; places_are = refl }, refl);
        room = omega arith;
        fits = omega arith;
        past = refl;
      })

-- ---- the chance to drop U+FEFF: a character never gives it back, where no line ends by it
module _ (p : List ℕ) (o : Options) where
  spent_take : (t : Text) (c : ℕ) → (take_of p o false t c).next.input.at_start ≡ false
  spent_take t c =
      by_take (λ (x : Passed). x.next.input.at_start ≡ false) p o false t c refl (λ l. never l) (ends_start p o (begun t.input) (c ∷ []))

  spent_passed : (t : Text) (cs : List ℕ) → t.input.at_start ≡ false → (passed_of p o false t cs).next.input.at_start ≡ false
  spent_passed t [] h = h
  spent_passed t (c ∷ cs) h = spent_passed (take_of p o false t c).next cs (spent_take t c)

module _ (r : Cleaner) (p : List ℕ) (o : Options) (eof : Bool) (places : List ℕ) where
  abbrev none : ℕ
  none = refusal_of p 8 (length places)

  told : refusal_in (finish_of r p o eof places).numbers ≡ none
  unfolding finish_of
  told = split (λ (s : Outcome). refusal_in s.numbers ≡ none) (eqb none 0) (λ e. sym (eqb-true none 0 e)) (λ e. refl)

  -- 2, then 8
  pub finish_order : refusal_in (finish_of r p o eof places).numbers
      ≡ first_of (2 when not (accepted p) ∷ 8 when ltb (length places) 8 ∷ [])
  finish_order = told ∙ order_by (accepted p) (ltb (length places) 8)

  last_fits : eqb none 0 ≡ true → length (encode_all (finish_passed r p o eof).out) ≤ length places
  last_fits e = omega (arith, last_room r p o eof, room_by (accepted p) 8 (length places) e)

  pub finish_leaves : FinishLeaves r places (finish_of r p o eof places)
  unfolding finish_of
  finish_leaves =
      split (FinishLeaves r places) (eqb none 0)
      (λ e.
      let out : List ℕ = encode_all (finish_passed r p o eof).out in
      record {
        nothing = λ h. never h;
        none = λ h. refl;
        counted = λ h. refl;
        expects = λ h. refl;
        chance = λ z. ap (λ (q : List ℕ). (passed_of p o false r.text (decoder.finish_of q)).next.input.at_start) z;
        spent = λ h. spent_passed p o r.text (decoder.finish_of (pending_of r.pending)) h;
        eight = last_room r p o eof;
        fits = last_fits e;
        past = drop_sets (length out) places 0 out (omega arith);
      })
      (λ e.
      record {
        nothing = λ h. record { pending = refl; text = refl; places_are = refl };
        none = λ h. never (sym e ∙ h);
        counted = λ h. never (sym e ∙ h);
        expects = λ h. never (sym e ∙ h);
        chance = λ z. refl;
        spent = λ h. h;
        eight = omega arith;
        fits = omega arith;
        past = refl;
      })

-- ---- an answer's counts, by the names of its fields
pub counts_told : (c : Counts) (next : Cleaner) (places : List ℕ) →
    totals_of (record { returned = record { answer = Ok c; next = next }; places = places } ∷ [])
    ≡ record { written = c.written; read = c.read; replaced = c.replaced; dropped = c.dropped; lost = c.lost }
unfolding total_of
counts_told c next places =
    let written : c.written + 0 ≡ c.written = omega arith in
    let read : c.read + 0 ≡ c.read = omega arith in
    let replaced : c.replaced + 0 ≡ c.replaced = omega arith in
    let dropped : c.dropped + 0 ≡ c.dropped = omega arith in
    let lost : c.lost + 0 ≡ c.lost = omega arith in
    λ i. record { written = written i; read = read i; replaced = replaced i; dropped = dropped i; lost = lost i }
