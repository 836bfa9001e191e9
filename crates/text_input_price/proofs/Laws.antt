-- Asking and committing against the plain scan: specs/Laws.antt. Idea: scan and commit are the same call but for the places that they need;
-- with enough places each is refused where asking is (`with_room` of text_input_parts), and else gives the same characters and record.
--     asks       what asking answers
--     commits    what a commit returns and leaves, by what asking answered
use Prim.Native.Nat.{ℕ, zero, suc, ◌+◌, ◌*◌, ◌≤◌}
use mathlib.Core.Bool.{Bool, true, false, cond}
use mathlib.Core.List.{List, [], ◌∷◌}
use mathlib.Core.Path.{◌≡◌, refl, sym, ap, ◌∙◌}
use native.Mathlib.Omega.{arith}
use lib.Dec.{eqb}
use lib.ListN.{length, take}
use lib.Seq.{sets}
use borrow.Author.Tests.{eqb-true, eq-eqb}
use Rattle.common.specs.Answers.{refusal_in, written_in}
use Rattle.common.proofs.Kit.{split}
use Rattle.common.proofs.Lists.{take_first}
use Rattle.scalars.specs.Chars.{are_chars}
use Rattle.page.specs.Page.{accepted}
use Rattle.text_input_parts.specs.Refusals.{places_for_chunk, chunk_refusal}
use Rattle.text_input_parts.proofs.Order.{order_of}
use Rattle.text_input_parts.proofs.Passed.{passed, with_room}
use Rattle.text_input.specs.declared.Options.{Options}
use Rattle.text_input.specs.declared.TextInput.{TextInput}
use Rattle.text_input.specs.Scan.{Outcome, refused, written, scan_chars, scan_next, scan_of}
use Rattle.text_input.proofs.Refusals.{taken_leaves}
use Rattle.text_input.proofs.Room.{scan_room}
use Rattle.text_input_price.specs.Price.{places_filled, ask_refusal, ask_of, commit_refusal, commit_of}
use Rattle.text_input_price.specs.Laws.{Enough, Asks, SameResult, Commits, AskLaw, CommitLaw}
use Rattle.text_input_price.proofs.Calls.{priced, commit_refused, commit_fewer, commit_fits}

-- enough for a scan is what its chunk needs
enough_for : (chunk places : List ℕ) → Enough chunk places → places_for_chunk (length chunk) ≤ length places
enough_for [] places e = omega arith
enough_for (c ∷ cs) places e = e

-- a chunk needs 3 × n + 1 places at most, and none where it is empty
places_most : (n : ℕ) → places_for_chunk n ≤ 3 * n + 1
places_most zero = omega arith
places_most (suc n) = omega arith

places_none : (n : ℕ) → n ≡ 0 → places_for_chunk n ≡ 0
places_none n e = rw e

module _ (r : TextInput) (p : List ℕ) (o : Options) (chunk : List ℕ) where
  abbrev no : ℕ
  no = ask_refusal r.count p chunk

  abbrev out : List ℕ
  out = scan_chars p o r chunk

  -- a call that is refused by n, or stores what a scan appends: a scan or a commit, by its refusal's number
  abbrev taken : ℕ → List ℕ → Outcome
  taken n places = cond (eqb n 0) (written (scan_next p o r chunk) out places) (refused r n places)

  scan_is : (places : List ℕ) → Enough chunk places → scan_of r p o chunk places ≡ taken no places
  unfolding scan_of
  scan_is places e =
      ap (λ n. taken n places)
      (with_room r.count (accepted p) (are_chars chunk) (length chunk) (places_for_chunk (length chunk)) (length places) (enough_for chunk places e))

  -- ---- asking
  numbers_are : (places : List ℕ) → ask_of r p o chunk ≡ (taken no places).numbers
  unfolding ask_of
  numbers_are places = by_test (eqb no 0)
    where
      by_test : (b : Bool) → cond b (0 ∷ length out ∷ []) (no ∷ []) ≡ (cond b (written (scan_next p o r chunk) out places) (refused r no places)).numbers
      by_test true = refl
      by_test false = refl

  refusal_is : refusal_in (ask_of r p o chunk) ≡ no
  unfolding ask_of
  refusal_is = split (λ (ns : List ℕ). refusal_in ns ≡ no) (eqb no 0) (λ e. sym (eqb-true no 0 e)) (λ e. refl)

  filled_most : written_in (ask_of r p o chunk) ≤ places_for_chunk (length chunk)
  unfolding ask_of
  filled_most =
      split (λ (ns : List ℕ). written_in ns ≤ places_for_chunk (length chunk)) (eqb no 0) (λ e. scan_room p o r chunk) (λ e. omega arith)

  asks_here : Asks r p o chunk (ask_of r p o chunk)
  asks_here =
      record {
        as_scan = λ places e. numbers_are places ∙ ap (λ (s : Outcome). s.numbers) (sym (scan_is places e));
        order = refusal_is ∙ unfold chunk_refusal in refl;
        most = omega (arith, filled_most, places_most (length chunk));
        none = λ e. omega (arith, filled_most, places_none (length chunk) e);
      }

  -- ---- a commit
  -- what is written where it fits
  wrote_is : (places : List ℕ) → length out ≤ length places → take (length out) (sets places 0 out) ≡ out
  wrote_is places h = take_first out places (length out) refl h

  fits : (places : List ℕ) → Enough chunk places → length out ≤ length places
  fits places e = omega (arith, scan_room p o r chunk, enough_for chunk places e)

  module _ (queue : List ℕ) where
    abbrev left : Outcome
    left = commit_of r p o chunk queue

    abbrev number : ℕ
    number = commit_refusal r p o chunk (length queue)

    same : (n : ℕ) → ask_of r p o chunk ≡ 0 ∷ n ∷ [] → n ≤ length queue → (places : List ℕ) → Enough chunk places →
        SameResult left (scan_of r p o chunk places)
    same n h l places e =
        let g = priced r p o chunk n h in
        let s : scan_of r p o chunk places ≡ written (scan_next p o r chunk) out places = scan_is places e ∙ rw (eq-eqb no 0 g.0) in
        rw (commit_fits r p o chunk queue n h l, s)
        record {
          answer = refl;
          next = refl;
          wrote = wrote_is queue (omega (arith, g.1)) ∙ sym (wrote_is places (fits places e));
        }

    -- with enough places a commit is refused where asking is
    is_taken : Enough chunk queue → left ≡ taken no queue
    unfolding commit_of
    is_taken e =
        ap (λ n. taken n queue)
        (with_room r.count (accepted p) (are_chars chunk) (length chunk) (places_filled p o r chunk) (length queue) (fits queue e))

    order_is : refusal_in left.numbers ≡ number
    unfolding commit_of
    order_is =
        split (λ (s : Outcome). refusal_in s.numbers ≡ number) (eqb (number) 0)
        (λ e. sym (eqb-true (number) 0 e)) (λ e. refl)

    commits_here : Commits r p o chunk (ask_of r p o chunk) queue left
    commits_here =
        record {
          as_scan = same;
          fewer = commit_fewer r p o chunk queue;
          as_asked = commit_refused r p o chunk queue;
          order = order_is ∙ order_of r.count (accepted p) (are_chars chunk) (length chunk) (places_filled p o r chunk) (length queue);
          leaves =
              unfold commit_of in
              taken_leaves r p o chunk queue (number)
              (λ e. (passed r.count (accepted p) (are_chars chunk) (length chunk) (places_filled p o r chunk) (length queue) e).1);
          is_scan = λ e. is_taken e ∙ sym (scan_is queue e);
        }

pub asks : AskLaw
asks r p o chunk = asks_here r p o chunk

pub commits : CommitLaw
commits r p o chunk queue = commits_here r p o chunk queue
