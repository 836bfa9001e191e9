-- The order of the refusals of a scan and of a finish, with document 01's numbers written out, and what each refusal and each success
-- leaves; for every record, page, options, chunk and places. Idea: a call is refused, and gives record and places back, or stores
-- what it appends, which fits.
--     scan_order, finish_order      the order of refusals
--     scan_leaves, finish_leaves    what a scan, a finish leaves
--     taken_leaves                  what a call leaves that takes a chunk as a scan does, whatever it is refused by
use Prim.Native.Nat.{ℕ, ◌+◌, ◌*◌, ◌≤◌}
use mathlib.Core.Bool.{Bool, cond, not, ◌&&◌}
use mathlib.Core.List.{List, [], ◌∷◌}
use mathlib.Core.Path.{◌≡◌, refl, sym, ◌∙◌}
use native.Mathlib.Omega.{arith}
use lib.Dec.{eqb, ltb}
use lib.ListN.{length, drop}
use borrow.Author.Tests.{eqb-true, ltb-false}
use Rattle.common.specs.Answers.{refusal_in}
use Rattle.common.specs.Order.{◌when◌, first_of}
use Rattle.common.proofs.Kit.{never, split}
use Rattle.common.proofs.Lists.{drop_sets}
use Rattle.scalars.specs.Chars.{are_chars}
use Rattle.page.specs.Page.{accepted}
use Rattle.text_input_parts.specs.Refusals.{places_for_chunk}
use Rattle.text_input_parts.proofs.Passed.{passed}
use Rattle.text_input_parts.proofs.Order.{refusal_order}
use Rattle.text_input.specs.declared.Options.{Options}
use Rattle.text_input.specs.declared.TextInput.{TextInput}
use Rattle.text_input.specs.Scan.{Outcome, refused, written, skipped, opened, scan_refusal, scan_chars, scan_next, scan_of, finish_chars, finish_of}
use Rattle.text_input.specs.Refusals.{ScanLeaves, FinishLeaves}
use Rattle.text_input.proofs.Meaning.{ends_start, ends_count}
use Rattle.text_input.proofs.Room.{scan_room, finish_room}

module _ (r : TextInput) (p : List ℕ) (o : Options) (chunk queue : List ℕ) where
  abbrev no : ℕ
  no = scan_refusal r.count p chunk (length queue)

  answered : refusal_in (scan_of r p o chunk queue).numbers ≡ no
  unfolding scan_of
  answered = split (λ (s : Outcome). refusal_in s.numbers ≡ no) (eqb no 0) (λ e. sym (eqb-true no 0 e)) (λ e. refl)

  -- "Order: 2, 1, 10, 8."
  pub scan_order : refusal_in (scan_of r p o chunk queue).numbers
      ≡ first_of (
      2 when not (accepted p) ∷ 1 when not (are_chars chunk) ∷ 10 when ltb 4294967295 (r.count + length chunk)
      ∷ 8 when (ltb 0 (length chunk) && ltb (length queue) (3 * length chunk + 1)) ∷ []
      )
  scan_order = answered ∙ refusal_order r.count (accepted p) (are_chars chunk) (length chunk) (length queue)

  -- what an accepted scan appends has room
  chars_fit : no ≡ 0 → length (scan_chars p o r chunk) ≤ length queue
  chars_fit e =
      let h = passed r.count (accepted p) (are_chars chunk) (length chunk) (places_for_chunk (length chunk)) (length queue) e in
      omega (arith, scan_room p o r chunk, h.1)

  -- a call that is refused by n and then gives record and places back, or stores what a scan appends, where it fits
  pub taken_leaves : (n : ℕ) → (n ≡ 0 → length (scan_chars p o r chunk) ≤ length queue) →
      ScanLeaves r chunk queue (cond (eqb n 0) (written (scan_next p o r chunk) (scan_chars p o r chunk) queue) (refused r n queue))
  taken_leaves n f =
      split (ScanLeaves r chunk queue) (eqb n 0)
      (λ e.
      record {
        nothing = λ h. never h;
        spends = λ h. ends_start p o (opened r (length chunk)) (drop (skipped r chunk) chunk);
        counts = λ h. ends_count p o (opened r (length chunk)) (drop (skipped r chunk) chunk);
        fits = f (eqb-true n 0 e);
        past = drop_sets (length (scan_chars p o r chunk)) queue 0 (scan_chars p o r chunk) (omega arith);
      })
      (λ e.
      record {
        nothing = λ h. (refl, refl);
        spends = λ h. never (rw e at h);
        counts = λ h. never (rw e at h);
        fits = omega arith;
        past = refl;
      })

  pub scan_leaves : ScanLeaves r chunk queue (scan_of r p o chunk queue)
  unfolding scan_of
  scan_leaves = taken_leaves no chars_fit

module _ (r : TextInput) (eof : Bool) (queue : List ℕ) where
  -- "Free places needed: 2."
  pub finish_order : refusal_in (finish_of r eof queue).numbers ≡ first_of (8 when ltb (length queue) 2 ∷ [])
  unfolding finish_of
  finish_order =
      split (λ (s : Outcome). refusal_in s.numbers ≡ first_of (8 when ltb (length queue) 2 ∷ [])) (ltb (length queue) 2)
      (λ e. rw e) (λ e. rw e)

  pub finish_leaves : FinishLeaves r queue (finish_of r eof queue)
  unfolding finish_of
  finish_leaves =
      split (FinishLeaves r queue) (ltb (length queue) 2)
      (λ e.
      record {
        nothing = λ h. (refl, refl);
        expects = λ h. never h;
        chance = refl;
        count = refl;
        two = omega arith;
        fits = omega arith;
        past = refl;
      })
      (λ e.
      record {
        nothing = λ h. never h;
        expects = λ h. refl;
        chance = refl;
        count = refl;
        two = finish_room r eof;
        fits = omega (arith, finish_room r eof, ltb-false (length queue) 2 e);
        past = drop_sets (length (finish_chars r eof)) queue 0 (finish_chars r eof) (omega arith);
      })
