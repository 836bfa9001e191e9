-- What each refusal leaves, for every record, page, input and places. Each answer of a definition lists its number, and so every sentence
-- that does not speak of this number asks for nothing, by computing.
--     write_leaves, write_bytes_leaves    what a write of characters, of bytes leaves
--     flush_leaves, close_leaves          what a flush, a close leaves
--     second_closes                       a second close after one refused by 11, 12 or 13 succeeds
use Prim.Native.Nat.{ℕ, ◌+◌}
use mathlib.Core.Bool.{true, false, not, ◌&&◌}
use mathlib.Core.List.{List, [], ◌∷◌}
use mathlib.Core.Path.{◌≡◌, refl, sym}
use native.Mathlib.Omega.{arith}
use lib.Dec.{eqb, ltb}
use lib.ListN.{length, drop, get_or}
use lib.Seq.{sets}
use Rattle.scalars.specs.Chars.{are_chars}
use Rattle.scalars.specs.Utf8.{chars_of}
use Rattle.common.proofs.Kit.{never, split, both_true}
use Rattle.common.proofs.Lists.{drop_sets}
use Rattle.text_utils.specs.Classes.{basic_text_start}
use Rattle.text_output.specs.declared.Ground.TheVariants.{Newline, ZwjOrPrepend, Other}
use Rattle.text_output.specs.declared.State.{State}
use Rattle.text_output.specs.declared.State.TheVariants.{Ground, Esc, Csi}
use Rattle.text_output.specs.declared.TextOutput.{TextOutput}
use Rattle.text_output.specs.Writer.{Given, Machine, machine_of, writer_with, sound, refused_by, abandoned_by}
use Rattle.text_output.specs.Step.{Stepped, goes, stops}
use Rattle.text_output.specs.Write.{run_in, ended_by, written_by, write_refusal, refused_write, unless_refused, chars_refusal, write_str_refusal, write_str_of, bytes_refusal, write_bytes_refusal, write_of}
use Rattle.text_output.specs.Close.{expecting, flush_in, flush_of, close_in, close_of}
use Rattle.text_output.specs.Refusals.{Call, write, flush, close, refusal_in, filled_in, one_of, is_close, is_quiet, is_other, is_sparing, Leaves, SecondCloses}
use Rattle.text_output.proofs.Early.{refusal_by_lem, bytes_by}
use Rattle.text_output.proofs.Steps.{StepRefusal, four, six, Holds, mode_refuses}
use Rattle.text_output.proofs.Answers.{four_fails}

-- ---- the three kinds of answer
module _ (call : Call) (w : TextOutput) (places : List ℕ) where
  -- the places past those that are handed out or kept are unchanged
  abbrev Past : Given → List ℕ → Type 0
  Past g after = drop (filled_in g) after ≡ drop (filled_in g) places

  -- a refusal that changes nothing
  quiet : (n : ℕ) → is_other call n ≡ false → eqb n 5 ≡ false → is_close call && not (eqb n 9) ≡ false →
      Leaves call w places (record { given = refused_by n w; places = places })
  quiet n other five again =
      record {
        nothing = λ e. (refl, (refl, refl));
        after_newline = λ e. never (rw other at e);
        expectation_stays = λ e. refl;
        spent_by_5 = λ e. never (rw five at e);
        set_by_close = λ e. never (rw again at e);
        kept_stay = λ e. (refl, refl);
        past_stay = refl;
      }

  -- a refusal that tells the caller to abandon, of the writer before it is put after a newline
  loud : (n : ℕ) (values : List ℕ) (v : TextOutput) (after : List ℕ) → is_quiet call n ≡ false →
      (is_sparing call n ≡ true → v.expect_starter ≡ w.expect_starter) →
      (eqb n 5 ≡ true → v.expect_starter ≡ false) →
      (is_close call && not (eqb n 9) ≡ true → v.expect_starter ≡ true) →
      (one_of (3 ∷ 11 ∷ 12 ∷ 13 ∷ []) n ≡ true → (v.kept ≡ w.kept) × (after ≡ places)) →
      Past (abandoned_by (n ∷ values) v) after → Leaves call w places (record { given = abandoned_by (n ∷ values) v; places = after })
  loud n values v after other sparing five again kept past =
      record {
        nothing = λ e. never (rw other at e);
        after_newline = λ e. (refl, (refl, refl));
        expectation_stays = sparing;
        spent_by_5 = five;
        set_by_close = again;
        kept_stay = kept;
        past_stay = past;
      }

  -- a success: of the sentences on refusals only that on close speaks of it
  handed : (numbers : List ℕ) (next : TextOutput) (after : List ℕ) → get_or numbers 0 0 ≡ 0 →
      (is_close call ≡ true → next.expect_starter ≡ true) →
      Past (record { numbers = numbers; abandon = false; next = next }) after →
      Leaves call w places (record { given = record { numbers = numbers; abandon = false; next = next }; places = after })
  handed numbers next after zero again past =
      record {
        nothing = λ e. never (rw zero at e);
        after_newline = λ e. never (rw zero at e);
        expectation_stays = λ e. never (rw zero at e);
        spent_by_5 = λ e. never (rw zero at e);
        set_by_close = λ e. again (both_true (is_close call) _ e).0;
        kept_stay = λ e. never (rw zero at e);
        past_stay = past;
      }

-- ---- a flush and a close
module _ (w : TextOutput) (places : List ℕ) where
  flush_in_lem : (s : State) → Leaves flush w places (record { given = flush_in s w; places = places })
  flush_in_lem (Ground Newline) = handed flush w places [] (expecting w) places refl (λ e. refl) refl
  flush_in_lem (Ground ZwjOrPrepend) =
      loud flush w places 11 [] w places refl (λ e. refl) (λ e. never e) (λ e. never e) (λ e. (refl, refl)) refl
  flush_in_lem (Ground Other) = handed flush w places [] (expecting w) places refl (λ e. refl) refl
  flush_in_lem Esc = quiet flush w places 13 refl refl refl
  flush_in_lem Csi = quiet flush w places 13 refl refl refl

  pub flush_leaves : Leaves flush w places (record { given = flush_of w; places = places })
  unfolding flush_of
  flush_leaves =
      split (λ (g : Given). Leaves flush w places (record { given = g; places = places })) (sound (machine_of w)) (λ e. flush_in_lem w.state)
      (λ e. quiet flush w places 9 refl refl refl)

  closed_by : (n : ℕ) → is_quiet close n ≡ false → is_sparing close n ≡ false → eqb n 5 ≡ false →
      Leaves close w places (record { given = abandoned_by (n ∷ []) (expecting w); places = places })
  closed_by n other sparing five =
      loud close w places n [] (expecting w) places other (λ e. never (rw sparing at e)) (λ e. never (rw five at e)) (λ e. refl)
      (λ e. (refl, refl)) refl

  close_in_lem : (s : State) → Leaves close w places (record { given = close_in s w; places = places })
  close_in_lem (Ground Newline) = handed close w places [] (expecting w) places refl (λ e. refl) refl
  close_in_lem (Ground ZwjOrPrepend) = closed_by 11 refl refl refl
  close_in_lem (Ground Other) = closed_by 12 refl refl refl
  close_in_lem Esc = closed_by 13 refl refl refl
  close_in_lem Csi = closed_by 13 refl refl refl

  pub close_leaves : Leaves close w places (record { given = close_of w; places = places })
  unfolding close_of
  close_leaves =
      split (λ (g : Given). Leaves close w places (record { given = g; places = places })) (sound (machine_of w)) (λ e. close_in_lem w.state)
      (λ e. quiet close w places 9 refl refl refl)

-- ---- a second close
second_in_lem : (w : TextOutput) (s : State) → one_of (11 ∷ 12 ∷ 13 ∷ []) (refusal_in (close_in s w)) ≡ true →
    (close_of (close_in s w).next).numbers ≡ []
unfolding close_of
second_in_lem w (Ground Newline) e = never e
second_in_lem w (Ground ZwjOrPrepend) e = refl
second_in_lem w (Ground Other) e = refl
second_in_lem w Esc e = refl
second_in_lem w Csi e = refl

pub second_closes : (w : TextOutput) → SecondCloses w
unfolding close_of
second_closes w =
    split (λ (g : Given). one_of (11 ∷ 12 ∷ 13 ∷ []) (refusal_in g) ≡ true → (close_of g.next).numbers ≡ []) (sound (machine_of w))
    (λ s. second_in_lem w w.state) (λ s e. never e)

-- ---- a write
-- a number by which a write is refused before its steps, other than 3, speaks of no change; 3 does
abbrev IsInput : ℕ → Type 0
IsInput n = (eqb n 0 ≡ false) → (eqb n 3 ≡ false) → (is_other write n ≡ false) × (eqb n 5 ≡ false)

-- 9, 2 and 8 are such
refusal_quiet : (w : TextOutput) (p : List ℕ) (values n room : ℕ) → IsInput values → IsInput (write_refusal w p values n room)
refusal_quiet = refusal_by_lem IsInput (λ a b. never (sym a)) (λ a b. (refl, refl)) (λ a b. (refl, refl)) (λ a b. (refl, refl))

module _ (w : TextOutput) (places : List ℕ) where
  -- a refused step
  stopped_leaves : {n : List ℕ} → StepRefusal n → (v : TextOutput) (after : List ℕ) → v.expect_starter ≡ w.expect_starter →
      drop v.kept after ≡ drop v.kept places → Leaves write w places (record { given = abandoned_by n v; places = after })
  stopped_leaves (four {reason}) v after h past =
      loud write w places 4 reason v after refl (λ q. h) (λ q. never q) (λ q. never q) (λ q. never q) (rw (four_fails reason) past)
  stopped_leaves six v after h past =
      loud write w places 6 [] v after refl (λ q. h) (λ q. never q) (λ q. never q) (λ q. never q) past

  -- how a write ends, by its steps
  ended_leaves : (p : List ℕ) (s : Stepped) → Holds (λ (m : Machine). Unit {0}) s → Leaves write w places (ended_by p w s places)
  ended_leaves p (goes xs m) h =
      let k = w.kept + length xs in
      let after = sets places w.kept xs in
      let past = drop_sets k places w.kept xs (omega arith) in
      split (λ (g : Given). Leaves write w places (record { given = g; places = after }))
      (w.expect_starter && (ltb 0 k && not (basic_text_start p (get_or after 0 0))))
      (λ e. loud write w places 5 [] (writer_with w.mode false k m) after refl (λ q. never q) (λ q. refl) (λ q. never q) (λ q. never q) past)
      (λ e. handed write w places (0 ∷ k ∷ []) _ after refl (λ q. never q) past)
  ended_leaves p (stops xs m n) h =
      let k = w.kept + length xs in
      stopped_leaves h.1 (writer_with w.mode w.expect_starter k m) _ refl (drop_sets k places w.kept xs (omega arith))

  -- refused by 3
  three_leaves : Leaves write w places (record { given = refused_write 3 w; places = places })
  three_leaves =
      record {
        nothing = λ e. never e;
        after_newline = λ e. (refl, (refl, refl));
        expectation_stays = λ e. refl;
        spent_by_5 = λ e. never e;
        set_by_close = λ e. never e;
        kept_stay = λ e. (refl, refl);
        past_stay = refl;
      }

  -- refused before its steps, or not
  unless_leaves : (n : ℕ) (p chars : List ℕ) → IsInput n → Leaves write w places (unless_refused n w places (written_by w p chars places))
  unfolding written_by
  unless_leaves n p chars q =
      split (Leaves write w places) (eqb n 0)
      (λ e. ended_leaves p (run_in w.mode p (machine_of w) chars) (mode_refuses p w.mode (machine_of w) chars))
      (λ e.
      split (λ (g : Given). Leaves write w places (record { given = g; places = places })) (eqb n 3)
      (λ t. three_leaves)
      (λ t. quiet write w places n (q e t).0 (q e t).1 refl))

  pub write_leaves : (p chars : List ℕ) → Leaves write w places (write_str_of w p chars places)
  unfolding write_str_of
  write_leaves p chars =
      unless_leaves (write_str_refusal w p chars (length places)) p chars
      (refusal_quiet w p (chars_refusal chars) (length chars) (length places)
      (split IsInput (are_chars chars) (λ e a b. never (sym a)) (λ e a b. (refl, refl))))

  pub write_bytes_leaves : (p bytes : List ℕ) → Leaves write w places (write_of w p bytes places).outcome
  unfolding write_of
  write_bytes_leaves p bytes =
      let cs = chars_of bytes in
      unless_leaves (write_bytes_refusal w p bytes (length places)) p cs
      (refusal_quiet w p (bytes_refusal (length bytes) (length cs)) (length cs) (length places)
      (bytes_by IsInput (λ a b. never (sym a)) (λ a b. never (sym b)) (length bytes) (length cs)))
