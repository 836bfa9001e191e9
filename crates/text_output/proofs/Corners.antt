-- What else each call leaves. Idea: each step leaves the state that the last character says, or is in an escape, and only color lets a step
-- enter one; the calls go by their cases.
--     write_corners, write_bytes_corners    what a write of characters, of bytes leaves
--     write_takes                           how many bytes a write takes
--     write_prefix                          .. and of which characters it is a write
--     flush_corners, close_corners          what a flush, a close leaves
--     abandon_corners                       what abandon leaves
--     opens, opens_with                     a record as first made, and the character that BOM mode hands out
--     opens_encoded                         .. and its bytes in UTF-8
use Prim.Native.Nat.{ℕ, ◌+◌, ◌<◌}
use mathlib.Core.Bool.{true, false, not, ◌&&◌}
use mathlib.Core.List.{List, [], ◌∷◌, ◌++◌, append-nil}
use mathlib.Core.Path.{◌≡◌, refl, sym, ◌∙◌}
use native.Mathlib.Omega.{arith}
use lib.Dec.{eqb, ltb}
use lib.ListN.{length, take, get_or}
use lib.Seq.{sets}
use borrow.Author.Tests.{eqb-true, eqb-false, ne_eqb}
use Rattle.common.proofs.Kit.{never, split}
use Rattle.ranges.specs.Ranges.{member}
use Rattle.scalars.specs.Utf8.{encode_of, chars_of}
use Rattle.scalars.proofs.Texts.{longest_only}
use Rattle.text_utils.specs.Classes.{basic_text_start, basic_text_end}
use Rattle.text_output.specs.declared.Ground.TheVariants.{Newline, ZwjOrPrepend, Other}
use Rattle.text_output.specs.declared.State.{State}
use Rattle.text_output.specs.declared.State.TheVariants.{Ground as Grounded, Esc, Csi}
use Rattle.text_output.specs.declared.Mode.{Mode}
use Rattle.text_output.specs.declared.Mode.TheVariants.{Plain, Crlf, Color}
use Rattle.text_output.specs.declared.Step.{Step}
use Rattle.text_output.specs.declared.TextOutput.{TextOutput}
use Rattle.text_output.specs.Writer.{Given, Outcome, Machine, machine_of, fresh, byte_order_mark, sound, escape_limit}
use Rattle.text_output.specs.Step.{Stepped, goes, stops, behind, and_then, ground_of, holding, is_color, in_sequence, asked_in, done_by, write_step_of, steps_of}
use Rattle.text_output.specs.Write.{run_of, parts, put_crlf, more_parts, parts_of, run_in, ended_by, written_by, unless_refused, write_str_refusal, write_str_of, write_bytes_refusal, succeeds, write_of}
use Rattle.text_output.specs.Close.{flush_in, flush_of, close_in, close_of, abandon_of}
use Rattle.text_output.specs.Refusals.{refusal_in}
use Rattle.text_output.specs.Orders.{in_escape, lets_color}
use Rattle.text_output.specs.Corners.{Opens, said_by, said_last, WriteLeaves, Takes, WritesPrefix, EndLeaves, Abandons}
use Rattle.text_output.proofs.Answers.{four_fails}
use Rattle.text_output.proofs.Steps.{Grows, opened, begun, longer, refusal_first, four, six, Holds, mode_holds, mode_refuses}
use Rattle.text_output.proofs.Escapes.{color_is}

-- ---- what stands last
-- from a state, where the steps all go on and end outside an escape
abbrev Last : State → Stepped → Type 0
Last s (goes xs m) = in_escape m.state ≡ false → m.state ≡ said_last s xs
Last s (stops xs m n) = Unit {0}

-- what the last of some characters says hangs on no state before them
last_append : (s : State) (xs : List ℕ) (y : ℕ) (ys : List ℕ) → said_last s (xs ++ y ∷ ys) ≡ said_last (Grounded (said_by y)) ys
last_append s [] y ys = refl
last_append s (x ∷ xs) y ys = last_append (Grounded (said_by x)) xs y ys

-- `m`, which ends an escape, is an end and no newline
said_m : said_by 0x6D ≡ Other
unfolding basic_text_end member
said_m = refl

asked_last : (mode : Mode) (m : Machine) (s : State) (c : ℕ) → Last s (done_by (asked_in s mode m.held c) m c)
unfolding ground_of
asked_last mode m (Grounded g) c =
    split (λ (a : Step). Last (Grounded g) (done_by a m c)) (eqb c 0x1B)
    (λ q. split (λ (a : Step). Last (Grounded g) (done_by a m c)) (is_color mode) (λ k e. never (sym e)) (λ k. tt))
    (λ q e. refl)
asked_last mode m Esc c = split (λ (a : Step). Last Esc (done_by a m c)) (eqb c 0x5B) (λ q e. never (sym e)) (λ q. tt)
asked_last mode m Csi c =
    split (λ (a : Step). Last Csi (done_by a m c)) (in_sequence c)
    (λ q.
    split (λ (a : Step). Last Csi (done_by a m c)) (ltb m.held escape_limit)
    (λ k.
    split (λ (a : Step). Last Csi (done_by a m c)) (eqb c 0x6D)
    (λ l e. rw (last_append Csi (take m.held m.escape) c [], eqb-true c 0x6D l, said_m)) (λ l e. never (sym e)))
    (λ k. tt))
    (λ q. tt)

step_last : (mode : Mode) (m : Machine) (error : List ℕ) (c : ℕ) → Last m.state (write_step_of mode m error c)
unfolding write_step_of
step_last mode m error c = split (Last m.state) (eqb c 0x1A) (λ q. tt) (λ q. asked_last mode m m.state c)

-- from s by xs to t, and by ys to u
join_last : (s t u : State) (xs ys : List ℕ) → (in_escape t ≡ false → t ≡ said_last s xs) → u ≡ said_last t ys → in_escape u ≡ false →
    u ≡ said_last s (xs ++ ys)
join_last s t u xs [] f g e = rw append-nil (g ∙ f (rw g at e))
join_last s t u xs (y ∷ ys) f g e = g ∙ sym (last_append s xs y ys)

behind_last : (s t : State) (xs : List ℕ) (r : Stepped) → (in_escape t ≡ false → t ≡ said_last s xs) → Last t r → Last s (behind xs r)
behind_last s t xs (goes ys m) f g = λ e. join_last s t m.state xs ys f (g e) e
behind_last s t xs (stops ys m n) f g = tt

then_last : (s : State) (r : Stepped) (more : Machine → Stepped) → Last s r → ((m : Machine) → Last m.state (more m)) →
    Last s (and_then r more)
then_last s (goes xs m) more f g = behind_last s m.state xs (more m) f (g m)
then_last s (stops xs m n) more f g = tt

module _ (mode : Mode) where
  steps_last : (cs : List ℕ) (m : Machine) (error : List ℕ) → Last m.state (steps_of mode m error cs)
  unfolding steps_of
  steps_last [] m error = λ e. refl
  steps_last (c ∷ cs) m error =
      then_last m.state (write_step_of mode m error c) (λ next. steps_of mode next error cs) (step_last mode m error c)
      (λ next. steps_last cs next error)

  module _ (p : List ℕ) where
    run_last : (m : Machine) (chars : List ℕ) → Last m.state (run_of mode p m chars)
    unfolding run_of
    run_last m chars = steps_last _ m _

    more_last : (rest : List (List ℕ)) (m : Machine) → Last m.state (more_parts mode p m rest)
    unfolding more_parts
    more_last [] m = λ e. refl
    more_last (part ∷ rest) m =
        then_last m.state (put_crlf m) (λ next. and_then (run_of mode p next part) (λ after. more_parts mode p after rest)) (λ e. refl)
        (λ next.
        then_last next.state (run_of mode p next part) (λ after. more_parts mode p after rest) (run_last next part)
        (λ after. more_last rest after))

    parts_last : (ps : List (List ℕ)) (m : Machine) → Last m.state (parts_of mode p m ps)
    parts_last [] m = λ e. refl
    parts_last (part ∷ rest) m =
        then_last m.state (run_of mode p m part) (λ after. more_parts mode p after rest) (run_last m part) (λ after. more_last rest after)

mode_last : (p : List ℕ) (mode : Mode) (m : Machine) (chars : List ℕ) → Last m.state (run_in mode p m chars)
mode_last p Plain m chars = run_last Plain p m chars
mode_last p Crlf m chars = parts_last Crlf p (parts chars) m
mode_last p Color m chars = run_last Color p m chars

-- ---- who enters an escape
abbrev Outside : Machine → Type 0
Outside m = in_escape m.state ≡ false

-- a character more is held in an escape, or by a color writer
hold_outside : (mode : Mode) → lets_color mode ≡ false → (m : Machine) (s t : State) (c : ℕ) → m.state ≡ s → Grows mode s m.held t →
    Outside m → Outside (holding m t c)
hold_outside mode h m (Grounded g) (Grounded _) c e x7 i = elim x7 [ ]
hold_outside mode h m (Grounded g) Csi c e x7 i = elim x7 [ ]
hold_outside mode h m Esc (Grounded _) c e x8 i = elim x8 [ ]
hold_outside mode h m Esc Esc c e x8 i = elim x8 [ ]
hold_outside mode h m Csi (Grounded _) c e x9 i = elim x9 [ ]
hold_outside mode h m Csi Esc c e x9 i = elim x9 [ ]
hold_outside mode h m (Grounded g) Esc c e (opened k) i = never (sym h ∙ sym (color_is mode) ∙ k)
hold_outside mode h m Esc Csi c e begun i = never (sym (rw e at i))
hold_outside mode h m Csi Csi c e (longer low) i = never (sym (rw e at i))

-- ---- a write
not_zero : (n : ℕ) → 0 < n → eqb n 0 ≡ false
not_zero n h = ne_eqb n 0 (λ z. omega arith)

module _ (w : TextOutput) where
  -- the steps of a write of these characters
  abbrev steps_for : List ℕ → List ℕ → Stepped
  steps_for p chars = run_in w.mode p (machine_of w) chars

  outside : (p chars : List ℕ) → lets_color w.mode ≡ false → in_escape w.state ≡ false → Holds Outside (steps_for p chars)
  outside p chars h i = mode_holds Outside w.mode (λ m g j. refl) (hold_outside w.mode h) p (machine_of w) chars i

  -- how it ends, by its steps
  ended_corners : (p places : List ℕ) (s : Stepped) → Holds (λ (m : Machine). Unit {0}) s → Last w.state s →
      (lets_color w.mode ≡ false → in_escape w.state ≡ false → Holds Outside s) → WriteLeaves w s (ended_by p w s places).given
  ended_corners p places (goes xs m) h l o =
      let after = sets places w.kept xs in
      split (WriteLeaves w (goes xs m))
      (w.expect_starter && (ltb 0 (w.kept + length xs) && not (basic_text_start p (get_or after 0 0))))
      (λ e.
      record {
        spends = λ z. absurd (omega arith);
        stays = λ z. absurd (omega arith);
        stands_last = λ z. absurd (omega arith);
        no_escape = λ c i. refl;
        same_mode = refl;
      })
      (λ e. record { spends = λ z. refl; stays = λ z. refl; stands_last = λ z. l; no_escape = o; same_mode = refl })
  ended_corners p places (stops xs m n) (h, r) l o =
      record {
        spends = λ z. absurd (omega (arith, refusal_first r, z));
        stays = λ z. absurd (omega (arith, refusal_first r, z));
        stands_last = λ z. absurd (omega (arith, refusal_first r, z));
        no_escape = λ c i. refl;
        same_mode = refl;
      }

  -- refused before its steps, or not
  unless_corners : (n : ℕ) (p chars places : List ℕ) →
      WriteLeaves w (steps_for p chars) (unless_refused n w places (written_by w p chars places)).given
  unfolding written_by
  unless_corners n p chars places =
      split (λ (o : Outcome). WriteLeaves w (steps_for p chars) o.given) (eqb n 0)
      (λ e.
      ended_corners p places (steps_for p chars) (mode_refuses p w.mode (machine_of w) chars) (mode_last p w.mode (machine_of w) chars)
      (outside p chars))
      (λ e.
      split (WriteLeaves w (steps_for p chars)) (eqb n 3)
      (λ t.
      record {
        spends = λ z. absurd (omega arith);
        stays = λ z. absurd (omega arith);
        stands_last = λ z. absurd (omega arith);
        no_escape = λ c i. refl;
        same_mode = refl;
      })
      (λ t.
      record {
        spends = λ z. absurd (eqb-false n 0 e z);
        stays = λ z. absurd (eqb-false n 0 e z);
        stands_last = λ z. absurd (eqb-false n 0 e z);
        no_escape = λ c i. i;
        same_mode = refl;
      }))

  pub write_corners : (p chars places : List ℕ) → WriteLeaves w (steps_for p chars) (write_str_of w p chars places).given
  unfolding write_str_of
  write_corners p chars places = unless_corners (write_str_refusal w p chars (length places)) p chars places

  pub write_bytes_corners : (p bytes places : List ℕ) →
      WriteLeaves w (steps_for p (chars_of bytes)) (write_of w p bytes places).outcome.given
  unfolding write_of
  write_bytes_corners p bytes places = unless_corners (write_bytes_refusal w p bytes (length places)) p (chars_of bytes) places

  -- ---- how many bytes are taken
  -- an answer is one of success where it lists 0 first
  abbrev Lists : Given → Type 0
  Lists g = succeeds g.numbers ≡ eqb (refusal_in g) 0

  ended_lists : (p places : List ℕ) (s : Stepped) → Holds (λ (m : Machine). Unit {0}) s → Lists (ended_by p w s places).given
  ended_lists p places (goes xs m) h =
      let after = sets places w.kept xs in
      split Lists (w.expect_starter && (ltb 0 (w.kept + length xs) && not (basic_text_start p (get_or after 0 0)))) (λ e. refl) (λ e. refl)
  ended_lists p places (stops xs m _) (h, four {reason}) = four_fails reason
  ended_lists p places (stops xs m _) (h, six) = refl

  unless_lists : (n : ℕ) (p chars places : List ℕ) → Lists (unless_refused n w places (written_by w p chars places)).given
  unfolding written_by
  unless_lists n p chars places =
      split (λ (o : Outcome). Lists o.given) (eqb n 0)
      (λ e. ended_lists p places (steps_for p chars) (mode_refuses p w.mode (machine_of w) chars))
      (λ e. split Lists (eqb n 3) (λ t. refl) (λ t. sym e))

  pub write_takes : (p bytes places : List ℕ) → Takes bytes (write_of w p bytes places)
  unfolding write_of
  write_takes p bytes places =
      let lists = unless_lists (write_bytes_refusal w p bytes (length places)) p (chars_of bytes) places in
      record {
        all = λ z cs l. rw (lists, z, longest_only bytes cs l);
        none = λ h. rw (lists, not_zero _ h);
      }

  -- no prefix holds a value that is no character
  pub write_prefix : (p bytes places : List ℕ) → WritesPrefix w p bytes places
  unfolding write_of write_str_of
  write_prefix p bytes places cs l h = rw (← (longest_only bytes cs l), h, l.chars)

-- ---- a flush and a close
module _ (w : TextOutput) where
  -- a success
  done_corners : (g : Given) → g.next.expect_starter ≡ true → g.abandon ≡ false → g.next.state ≡ w.state →
      g.next.held ≡ w.held → g.next.mode ≡ w.mode → EndLeaves w g
  done_corners g e a s h m = record { expects = λ z. e; stays = λ z. a; same_state = λ z. (s, h); same_mode = m }

  -- a refusal
  refused_corners : (g : Given) → 0 < refusal_in g → g.next.mode ≡ w.mode → EndLeaves w g
  refused_corners g h m =
      record { expects = λ z. absurd (omega arith); stays = λ z. absurd (omega arith); same_state = λ z. absurd (omega arith); same_mode = m }

  flush_in_lem : (s : State) → EndLeaves w (flush_in s w)
  flush_in_lem (Grounded Newline) = done_corners _ refl refl refl refl refl
  flush_in_lem (Grounded ZwjOrPrepend) = refused_corners _ (omega arith) refl
  flush_in_lem (Grounded Other) = done_corners _ refl refl refl refl refl
  flush_in_lem Esc = refused_corners _ (omega arith) refl
  flush_in_lem Csi = refused_corners _ (omega arith) refl

  pub flush_corners : EndLeaves w (flush_of w)
  unfolding flush_of
  flush_corners = split (EndLeaves w) (sound (machine_of w)) (λ e. flush_in_lem w.state) (λ e. refused_corners _ (omega arith) refl)

  close_in_lem : (s : State) → EndLeaves w (close_in s w)
  close_in_lem (Grounded Newline) = done_corners _ refl refl refl refl refl
  close_in_lem (Grounded ZwjOrPrepend) = refused_corners _ (omega arith) refl
  close_in_lem (Grounded Other) = refused_corners _ (omega arith) refl
  close_in_lem Esc = refused_corners _ (omega arith) refl
  close_in_lem Csi = refused_corners _ (omega arith) refl

  pub close_corners : EndLeaves w (close_of w)
  unfolding close_of
  close_corners = split (EndLeaves w) (sound (machine_of w)) (λ e. close_in_lem w.state) (λ e. refused_corners _ (omega arith) refl)

  -- ---- abandon
  pub abandon_corners : Abandons w (abandon_of w)
  unfolding abandon_of
  abandon_corners = record { expectation_stays = refl; after_newline = (refl, refl); same_mode = refl }

-- ---- opening
pub opens : (mode : Mode) → Opens mode (fresh mode)
opens mode = record { in_mode = refl; expects = refl; after_newline = (refl, refl) }

-- "FEFF is handed out on opening"
pub opens_with : byte_order_mark ≡ 0xFEFF
opens_with = refl

-- the bytes of the mark in the last example of RFC 3629, section 7
pub opens_encoded : encode_of byte_order_mark ≡ 0xEF ∷ 0xBB ∷ 0xBF ∷ []
unfolding encode_of
opens_encoded = refl
