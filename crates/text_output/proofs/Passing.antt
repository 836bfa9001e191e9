-- A queue of writable characters that begins with a start and ends with 0A passes a fresh plain writer in one write, and the writer
-- then closes. Idea: isolation puts in 34F alone, which is writable and a start, and none behind a last 0A, which is assigned.
-- proofs/Modes.antt has the other modes.
--     starts_well           the first character is a start, if there is one
--     ends_well             the last character is 0A; b where there is none
--     starts_isolated      a run that starts well starts well isolated
--     ends_isolated        a run that ends well ends well isolated
--     ends_on_newline      after characters that end well a newline stands last
--     lines_go             from after a newline, the steps of one run of writable characters that end well lead there again
--     write_runs           a write that 9, 2, 1 and 8 let through ends as its steps led
--     Handed, hands_out    what stands in the first places is handed out if it starts well
--     Closes, closes_on_newline    after a newline a close succeeds
--     isolated_fits        a run isolated fits the room of a write
--     passes_by            a queue passes in a mode if its steps hand out characters that start well, fit, and end after a newline
--     passes_as_one        such a queue passes in a mode that isolates it as one run
--     passes_plain         such a queue passes a plain writer
use Prim.Native.Nat.{ℕ, ◌*◌, ◌≤◌}
use mathlib.Core.Path.{◌≡◌, refl, ◌∙◌}
use mathlib.Core.Bool.{Bool, true, false, ◌||◌, and-false}
use mathlib.Core.List.{List, [], ◌∷◌, ◌++◌}
use native.Mathlib.Nat.{zero-add}
use native.Mathlib.Omega.{arith}
use lib.Dec.{eqb}
use lib.ListN.{length, drop}
use lib.Seq.{take-append_seam}
use borrow.Author.Tests.{eqb-true, le-ltb}
use Rattle.scalars.specs.Chars.{are_chars}
use Rattle.common.proofs.Lists.{sets_first}
use Rattle.page.specs.Page.{accepted}
use Rattle.page.proofs.PageLaws.{facts_of_accepted}
use Rattle.text_utils.specs.Classes.{basic_text_start}
use Rattle.text_utils.proofs.Classes.{start_joiner}
use Rattle.check_char.specs.Check.{all}
use Rattle.isolate_unassigned.specs.Meaning.{to_isolate, got_before, gets_after, joiner, isolated_after, isolated, PutIn, none, kept, put}
use Rattle.isolate_unassigned.proofs.Laws.{length_isolate, isolate_puts_in}
use Rattle.text_output.specs.declared.Ground.{Ground}
use Rattle.text_output.specs.declared.Ground.TheVariants.{Newline}
use Rattle.text_output.specs.declared.State.TheVariants.{Ground as Grounded}
use Rattle.text_output.specs.declared.Mode.{Mode}
use Rattle.text_output.specs.declared.Mode.TheVariants.{Plain}
use Rattle.text_output.specs.declared.TextOutput.{TextOutput}
use Rattle.text_output.specs.Writer.{Given, Machine, machine_of, fresh_machine, fresh, sound, on_ground}
use Rattle.text_output.specs.Step.{goes, ground_of, ground_after}
use Rattle.text_output.specs.Write.{run_of, run_in, hand_out, ended_by, written_by, places_for_write, write_refusal, write_str_of}
use Rattle.text_output.specs.Close.{close_of}
use Rattle.text_output.specs.Passing.{PassesIn}
use Rattle.text_output.proofs.Writable.{writable, isolated_goes}

-- ---- how a run starts and ends
-- the first is a start, if there is one
abbrev pub starts_well : List ℕ → List ℕ → Bool
starts_well p [] = true
starts_well p (x ∷ w) = basic_text_start p x

-- the last is 0A; b where there is none
abbrev pub ends_well : Bool → List ℕ → Bool
ends_well b [] = b
ends_well b (x ∷ w) = ends_well (eqb x 0x0A) w

module _ (p : List ℕ) (a : accepted p ≡ true) where
  starts_put_in : {cs ds : List ℕ} → PutIn cs ds → starts_well p cs ≡ true → starts_well p ds ≡ true
  starts_put_in none h = refl
  starts_put_in (kept r) h = h
  starts_put_in (put r) h = start_joiner p a

  pub starts_isolated : (cs : List ℕ) → starts_well p cs ≡ true → starts_well p (isolated p cs) ≡ true
  starts_isolated cs = starts_put_in (isolate_puts_in p cs)

  newline_assigned : (c : ℕ) → eqb c 0x0A ≡ true → to_isolate p c ≡ false
  unfolding to_isolate
  newline_assigned c e = rw (eqb-true c 0x0A e, (facts_of_accepted p a).assigned_0a)

  -- what is put in before a character does not change how characters end
  joiner_ends : (put : Bool) (b : Bool) (c : ℕ) (ds : List ℕ) → ends_well b (joiner put ++ c ∷ ds) ≡ ends_well (eqb c 0x0A) ds
  joiner_ends true b c ds = refl
  joiner_ends false b c ds = refl

  -- behind characters of which the nearest got no 34F if it is 0A
  after_ends : (cs before : List ℕ) (b : Bool) → (b ≡ true → got_before p before ≡ false) → ends_well b cs ≡ true →
      ends_well b (isolated_after p before cs) ≡ true
  after_ends [] before b f h = rw (f h) h
  after_ends (c ∷ cs) before b f h =
      joiner_ends (gets_after p before c || got_before p (c ∷ before)) b c (isolated_after p (c ∷ before) cs)
      ∙ after_ends cs (c ∷ before) (eqb c 0x0A) (λ e. rw (newline_assigned c e)) h

  pub ends_isolated : (cs : List ℕ) → ends_well true cs ≡ true → ends_well true (isolated p cs) ≡ true
  unfolding isolated
  ends_isolated cs = after_ends cs [] true (λ e. refl)

pub ends_on_newline : (cs : List ℕ) (g : Ground) (b : Bool) → (b ≡ true → g ≡ Newline) → ends_well b cs ≡ true →
    ground_after g cs ≡ Newline
unfolding ground_of
ends_on_newline [] g b f h = f h
ends_on_newline (c ∷ cs) g b f h = ends_on_newline cs (ground_of c) (eqb c 0x0A) (λ e. rw e) h

-- ---- the write
pub lines_go : (mode : Mode) (p : List ℕ) → accepted p ≡ true → (cs : List ℕ) (m : Machine) → m.state ≡ Grounded Newline → m.held ≡ 0 →
    all writable cs ≡ true → ends_well true cs ≡ true → run_of mode p m cs ≡ goes (isolated p cs) (on_ground m Newline)
lines_go mode p a cs m s n f l =
    rw (ends_on_newline (isolated p cs) Newline true (λ t. refl) (ends_isolated p a cs l)) at (isolated_goes mode p cs m Newline s n f)

pub write_runs : (w : TextOutput) (p cs places : List ℕ) → sound (machine_of w) ≡ true → accepted p ≡ true → are_chars cs ≡ true →
    places_for_write w (length cs) ≤ length places → write_str_of w p cs places ≡ ended_by p w (run_in w.mode p (machine_of w) cs) places
unfolding write_str_of write_refusal written_by
write_runs w p cs places s a c room = rw (s, a, c, le-ltb (length places) (places_for_write w (length cs)) room)

-- an answer that hands out k characters, where the steps left m
pub record Handed (m : Machine) (k : ℕ) (answer : Given) : Type 0 where
  pub number : answer.numbers ≡ 0 ∷ k ∷ []
  pub stays : answer.abandon ≡ false
  pub state : answer.next.state ≡ m.state
  pub held : answer.next.held ≡ m.held

pub hands_out : (p : List ℕ) (mode : Mode) (expect : Bool) (m : Machine) (xs rest : List ℕ) → starts_well p xs ≡ true →
    Handed m (length xs) (hand_out p mode expect m (length xs) (xs ++ rest))
hands_out p mode expect m [] rest h = simp and-false (record { number = refl; stays = refl; state = refl; held = refl })
hands_out p mode expect m (x ∷ xs) rest h = simp (h, and-false) (record { number = refl; stays = refl; state = refl; held = refl })

-- ---- the close
pub record Closes (answer : Given) : Type 0 where
  pub number : answer.numbers ≡ []
  pub stays : answer.abandon ≡ false

pub closes_on_newline : (w : TextOutput) → w.state ≡ Grounded Newline → w.held ≡ 0 → Closes (close_of w)
unfolding close_of
closes_on_newline w s n = record { number = rw (s, n) refl; stays = rw (s, n) refl }

-- ---- both
pub isolated_fits : (p cs : List ℕ) → length (isolated p cs) ≤ 3 * length cs
isolated_fits p [] = omega (arith, length_isolate p [])
isolated_fits p (c ∷ cs) = omega (arith, length_isolate p (c ∷ cs))

pub passes_by : (m : Mode) (p q xs : List ℕ) → accepted p ≡ true → are_chars q ≡ true → starts_well p xs ≡ true →
    length xs ≤ 3 * length q → run_in m p fresh_machine q ≡ goes xs fresh_machine → PassesIn m p q xs
passes_by m p q xs a c s fits go places room wrote w closed d =
    let rest = drop (length xs) places in
    let runs = write_runs (fresh m) p q places refl a c (omega arith) in
    let stored = sets_first xs places (omega arith) in
    let handed = hands_out p m true fresh_machine xs rest s in
    rw (d, w)
    (record {
      number = rw (runs, go, zero-add, stored) handed.number;
      characters = rw (runs, go, stored) (take-append_seam xs rest);
      closes = rw (runs, go, zero-add, stored) (closes_on_newline _ handed.state handed.held).number;
      write_stays = rw (runs, go, zero-add, stored) handed.stays;
      close_stays = rw (runs, go, zero-add, stored) (closes_on_newline _ handed.state handed.held).stays;
    })

-- a mode whose run is one run, isolated as a whole
pub passes_as_one : (m : Mode) (p : List ℕ) → accepted p ≡ true → (q : List ℕ) →
    are_chars q ≡ true → all writable q ≡ true → starts_well p q ≡ true → ends_well true q ≡ true →
    run_in m p fresh_machine q ≡ run_of m p fresh_machine q → PassesIn m p q (isolated p q)
passes_as_one m p a q c f s l one =
    passes_by m p q (isolated p q) a c (starts_isolated p a q s) (isolated_fits p q) (one ∙ lines_go m p a q fresh_machine refl refl f l)

pub passes_plain : (p : List ℕ) → accepted p ≡ true → (q : List ℕ) →
    are_chars q ≡ true → all writable q ≡ true → starts_well p q ≡ true → ends_well true q ≡ true → PassesIn Plain p q (isolated p q)
passes_plain p a q c f s l = passes_as_one Plain p a q c f s l refl
