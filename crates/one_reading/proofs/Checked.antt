-- The check of a run says yes to the queue of a stream that is finished once, as end of file, and a plain writer takes what gets yes. The
-- queue holds what a writer lets through, begins with a start and ends with 0A, or is empty (proofs/Demand.antt); these are the check's
-- rules, place by place, and what a plain writer asks for (`passes_plain` of text_output).
--     queue_gets_yes     the queue of such a stream gets yes
--     yes_passes         a run that gets yes passes a plain writer
--     worked_gets_yes    the queue of the worked list of calls gets yes
--     marked_as_scanner  start and end faults are where the scanner puts 34F
--     refused_as_scan    pages and values are refused as by a scan
use Prim.Native.Nat.{ℕ, zero, suc, ◌+◌, ◌*◌, ◌≤◌, ◌<◌}
use mathlib.Core.Bool.{Bool, true, false, not, cond, ◌&&◌, and-false}
use mathlib.Core.Logic.{inl, inr}
use mathlib.Core.List.{List, [], ◌∷◌}
use mathlib.Core.Path.{◌≡◌, refl, sym, ap, ◌∙◌}
use native.Mathlib.Omega.{arith}
use lib.Dec.{eqb, ltb}
use lib.ListN.{length, get_or}
use borrow.Author.Tests.{eqb-true, eqb-false, eq-eqb, ne_eqb, not-true, le-ltb}
use Rattle.common.specs.Answers.{refusal_in}
use Rattle.common.specs.Order.{◌when◌, first_of}
use Rattle.common.proofs.Kit.{by, both, both_true}
use Rattle.scalars.specs.Chars.{are_chars}
use Rattle.page.specs.Page.{accepted}
use Rattle.text_utils.specs.Classes.{basic_text_start, basic_text_end}
use Rattle.text_utils.proofs.Classes.{end_newline}
use Rattle.check_char.specs.Check.{reason_of, all}
use Rattle.check_run.specs.declared.FaultKind.TheVariants.{Start, End, Newline}
use Rattle.check_run.specs.Rules.{Rules, Before, First}
use Rattle.check_run.specs.Check.{yes_numbers, check_run_of, Says}
use Rattle.check_run.proofs.Laws.{says}
use Rattle.check_run.proofs.Answers.{check_run_order}
use Rattle.text_input.specs.Pieces.{start_mark, end_mark}
use Rattle.text_input.proofs.Refusals.{scan_order}
use Rattle.text_output.proofs.Writable.{writable}
use Rattle.text_output.proofs.Passing.{starts_well, ends_well, passes_plain}
use Rattle.one_reading.specs.Calls.{queue_of}
use Rattle.one_reading.specs.Cases.{page, options}
use Rattle.one_reading.specs.Worked.{calls, seen}
use Rattle.one_reading.specs.Checked.{QueueGetsYes, YesPasses, MarkedAsScanner, RefusedAsScan}
use Rattle.one_reading.proofs.Worked.{worked}
use Rattle.one_reading.proofs.Demand.{queue_chars, queue_writable, queue_starts, queue_ends}

-- ---- a list, place by place
all_at : (f : ℕ → Bool) (w : List ℕ) → all f w ≡ true → (i : ℕ) → i < length w → f (get_or w i 0) ≡ true
all_at f [] h i l = absurd (omega arith)
all_at f (x ∷ w) h zero l = (both_true (f x) (all f w) h).0
all_at f (x ∷ w) h (suc i) l = all_at f w (both_true (f x) (all f w) h).1 i (omega arith)

starts_at : (p w : List ℕ) → starts_well p w ≡ true → 0 < length w → basic_text_start p (get_or w 0 0) ≡ true
starts_at p [] h l = absurd (omega arith)
starts_at p (x ∷ w) h l = h

ends_at : (w : List ℕ) (b : Bool) → ends_well b w ≡ true → (i : ℕ) → i + 1 ≡ length w → get_or w i 0 ≡ 0x0A
ends_at [] b h i l = absurd (omega arith)
ends_at (x ∷ []) b h zero l = eqb-true x 0x0A h
ends_at (x ∷ []) b h (suc i) l = absurd (omega arith)
ends_at (x ∷ y ∷ w) b h zero l = absurd (omega arith)
ends_at (x ∷ y ∷ w) b h (suc i) l = ends_at (y ∷ w) (eqb x 0x0A) h i (omega arith)

-- the other way
all_of : (f : ℕ → Bool) (w : List ℕ) → ((i : ℕ) → i < length w → f (get_or w i 0) ≡ true) → all f w ≡ true
all_of f [] h = refl
all_of f (x ∷ w) h = both (h 0 (omega arith)) (all_of f w (λ i l. h (suc i) (omega arith)))

starts_of : (p w : List ℕ) → (0 < length w → basic_text_start p (get_or w 0 0) ≡ true) → starts_well p w ≡ true
starts_of p [] h = refl
starts_of p (x ∷ w) h = h (omega arith)

ends_of : (w : List ℕ) → ((i : ℕ) → i + 1 ≡ length w → get_or w i 0 ≡ 0x0A) → ends_well true w ≡ true
ends_of [] h = refl
ends_of (x ∷ []) h = eq-eqb x 0x0A (h 0 (omega arith))
ends_of (x ∷ y ∷ w) h = ends_of (y ∷ w) (λ i l. h (suc i) (omega arith))

-- ---- the rules
goes_by : (c : ℕ) → writable c ≡ true → (reason_of c ≡ 0) × (c ≡ 0x1B → ⊥)
goes_by c h =
    let x = both_true (eqb (reason_of c) 0) (not (eqb c 0x1B)) h in
    (eqb-true (reason_of c) 0 x.0, eqb-false c 0x1B (not-true _ x.1))

module _ (p w : List ℕ) (goes : all writable w ≡ true) (starts : starts_well p w ≡ true) (ends : ends_well true w ≡ true) where
  rules : Rules p w
  rules =
      record {
        all_accepted = λ i l. (goes_by _ (all_at writable w goes i l)).0;
        none_escape = λ i l. (goes_by _ (all_at writable w goes i l)).1;
        first_start = starts_at p w starts;
        last_end = λ i l. rw (ends_at w true ends i l) end_newline;
        last_newline = ends_at w true ends;
      }

pub queue_gets_yes : QueueGetsYes
queue_gets_yes page good options calls once seen saw none =
    (says page (queue_of seen)).rules_yes good (queue_chars page good options calls once seen saw)
    (rules page (queue_of seen) (queue_writable page good options calls once seen saw none) (queue_starts page good options calls once seen saw) (queue_ends page good options calls once seen saw))

pub worked_gets_yes : check_run_of page (queue_of seen) ≡ yes_numbers
worked_gets_yes = queue_gets_yes page worked.good options calls worked.once seen worked.saw worked.none

-- ---- what gets yes
-- a page and a run that are not refused
not_refused : (a c : Bool) → first_of (2 when not a ∷ 1 when not c ∷ []) ≡ 0 → (a ≡ true) × (c ≡ true)
not_refused true true h = (refl, refl)
not_refused true false h = absurd (omega arith)
not_refused false c h = absurd (omega arith)

writes : (c : ℕ) → reason_of c ≡ 0 → (c ≡ 0x1B → ⊥) → writable c ≡ true
writes c a n = both (eq-eqb (reason_of c) 0 a) (rw (ne_eqb c 0x1B n))

pub yes_passes : YesPasses
yes_passes page run e =
    let ok = not_refused (accepted page) (are_chars run) (sym (check_run_order page run) ∙ ap refusal_in e) in
    let r = (says page run).yes_rules e in
    passes_plain page ok.0 run ok.1 (all_of writable run (λ i l. writes _ (r.all_accepted i l) (r.none_escape i l)))
    (starts_of page run r.first_start) (ends_of run r.last_newline)

-- ---- 34F
module _ (p : List ℕ) where
  no_start_mark : (w : List ℕ) → (0 < length w → basic_text_start p (get_or w 0 0) ≡ true) → start_mark p w ≡ []
  unfolding start_mark
  no_start_mark [] h = refl
  no_start_mark (x ∷ w) h = rw (h (omega arith))

  a_start_mark : (w : List ℕ) → 0 < length w → basic_text_start p (get_or w 0 0) ≡ false → start_mark p w ≡ 0x34F ∷ []
  unfolding start_mark
  a_start_mark [] l h = absurd (omega arith)
  a_start_mark (x ∷ w) l h = rw h

-- b: whether the last character is an end
end_mark_by : (b : Bool) (w : List ℕ) (i : ℕ) → i + 1 ≡ length w → basic_text_end (get_or w i 0) ≡ b → end_mark w ≡ cond b [] (0x34F ∷ [])
unfolding end_mark
end_mark_by b [] i l h = absurd (omega arith)
end_mark_by b (x ∷ []) zero l h = rw h
end_mark_by b (x ∷ []) (suc i) l h = absurd (omega arith)
end_mark_by b (x ∷ y ∷ w) zero l h = absurd (omega arith)
end_mark_by b (x ∷ y ∷ w) (suc i) l h = end_mark_by b (y ∷ w) i (omega arith) h

no_end_mark : (w : List ℕ) → ((i : ℕ) → i + 1 ≡ length w → basic_text_end (get_or w i 0) ≡ true) → end_mark w ≡ []
unfolding end_mark
no_end_mark [] h = refl
no_end_mark (x ∷ w) h = end_mark_by true (x ∷ w) (length w) (omega arith) (h (length w) (omega arith))

module _ (page run : List ℕ) where
  -- a newline fault that is the first leaves a first that is a start, and a last that is an end
  module _ (place : ℕ) (f : First page run place Newline) where
    begins : 0 < length run → basic_text_start page (get_or run 0 0) ≡ true
    begins l =
        by (basic_text_start page (get_or run 0 0)) (λ e. e)
        (λ e. absurd (f.no_earlier 0 Start (earlier place (omega arith)) (refl, (l, e))))
      where
        earlier : (n : ℕ) → 0 ≤ n → Before 0 Start n Newline
        earlier zero l = inr (refl, omega arith)
        earlier (suc n) l = inl (omega arith)

    ends : (i : ℕ) → i + 1 ≡ length run → basic_text_end (get_or run i 0) ≡ true
    ends i l =
        by (basic_text_end (get_or run i 0)) (λ e. e)
        (λ e. absurd (f.no_earlier i End (inr (omega (arith, f.is.0), omega arith)) (l, e)))

  pub marked_as_scanner : MarkedAsScanner page run (check_run_of page run)
  marked_as_scanner =
      record {
        start = λ place e. let b = (said.fault_first place Start e).is in a_start_mark page run (omega (arith, b.1.0)) (rw b.0 at b.1.1);
        end = λ place e. let b = (said.fault_first place End e).is in end_mark_by false run place b.0 b.1;
        newline =
            λ place e.
            let f = said.fault_first place Newline e in
            (no_start_mark page run (begins place f), no_end_mark run (ends place f));
        yes = λ e. let r = said.yes_rules e in (no_start_mark page run r.first_start, no_end_mark run r.last_end);
      }
    where
      said : Says page run (check_run_of page run)
      said = says page run

-- ---- refusals
-- by whether the page is right (a) and the values are characters (c), where the count (n) and the places (m) are enough
same_first : (a c n m : Bool) → n ≡ false → m ≡ false →
    first_of (2 when not a ∷ 1 when not c ∷ []) ≡ first_of (2 when not a ∷ 1 when not c ∷ 10 when n ∷ 8 when m ∷ [])
same_first a c n m e f = rw (e, f)

pub refused_as_scan : RefusedAsScan
refused_as_scan page run r options places counted fits =
    check_run_order page run
    ∙ same_first (accepted page) (are_chars run) (ltb 4294967295 (r.count + length run)) (ltb 0 (length run) && ltb (length places) (3 * length run + 1)) (le-ltb _ _ counted) (rw (le-ltb _ _ fits) (and-false (ltb 0 (length run))))
    ∙ sym (scan_order r page options run places)
