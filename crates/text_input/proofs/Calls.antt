-- What an accepted call may rely on, and that answer, record and places are then the definition's.
--     skip_le                     a chunk has what is skipped of it
--     Asked                       a scan that is asked for, and the number of its refusal
--     refused_is                  its outcome where it is refused
--     right_page, counts, from_le, enough, accepted_is
--                                 where it is accepted: the page is, the count stays within its limit, the chunk has what is skipped,
--                                 what it appends has room, and its outcome
--     ending_chars_lem, ending_next   what a finish appends, and the record after it
--     finish_refused, finish_enough, finished_is
--                                 a finish
use mathlib.Core.Path.{◌≡◌, sym, ◌∙◌}
use mathlib.Core.Bool.{Bool, true, false, cond, not, ◌&&◌, ◌||◌}
use mathlib.Core.List.{List, [], ◌∷◌, ◌++◌}
use Prim.Native.Nat.{ℕ, suc, ◌+◌, ◌≤◌, ◌<◌}
use native.Mathlib.Nat.{zero-add}
use native.Mathlib.Omega.{arith}
use borrow.Author.Tests.{eq-eqb, ne_eqb, lt-ltb, le-ltb}
use lib.Dec.{eqb}
use lib.ListN.{length, drop}
use lib.Seq.{sets}
use Rattle.scalars.specs.Chars.{are_chars}
use Rattle.common.proofs.Kit.{split}
use Rattle.page.specs.Page.{accepted}
use Rattle.text_input.specs.declared.State.TheVariants.{Ground}
use Rattle.text_input.specs.declared.Options.{Options}
use Rattle.text_input.specs.declared.TextInput.{TextInput}
use Rattle.text_input_parts.specs.Appended.{lead_chars, last_of, end_mark_of, newline_of}
use Rattle.text_input_parts.specs.Refusals.{max_count, places_for_chunk}
use Rattle.text_input.specs.Scan.{run_of, scan_refusal, leading_bom, skipped, opened, Outcome, outcome, refused, scan_of, pending_of, after_line, finish_chars, finish_next, finish_of}
use Rattle.text_input.specs.declared.Ran.{Ran}
use Rattle.text_input.specs.declared.Ending.{Ending}
use Rattle.text_input.specs.Inner.{outs, ran_by, ending_chars}
use Rattle.text_input_parts.proofs.Last.{last_three}
use Rattle.text_input_parts.proofs.Passed.{ChunkPassed, passed}
use Rattle.text_input.proofs.Room.{part_room, finish_room}
use Rattle.std.specs.Prelude.{Ok, Option}

-- ---- a scan
bom_le : (cs : List ℕ) → leading_bom cs ≤ length cs
bom_le [] = omega arith
bom_le (c ∷ cs) = one (eqb c 0xFEFF)
  where
    one : (b : Bool) → cond b 1 0 ≤ suc (length cs)
    one true = omega arith
    one false = omega arith

pub skip_le : (r : TextInput) (chunk : List ℕ) → skipped r chunk ≤ length chunk
skip_le r chunk = split (λ n. n ≤ length chunk) r.at_start (λ h. bom_le chunk) (λ h. omega arith)

-- a scan that is asked for, and the number of its refusal
pub record Asked : Type 0 where
  pub r : TextInput
  pub page : List ℕ
  pub options : Options
  pub chunk : List ℕ
  pub queue : List ℕ
  pub no : ℕ
  pub is : no ≡ scan_refusal r.count page chunk (length queue)

abbrev pub whole : Asked → Outcome
whole a = scan_of a.r a.page a.options a.chunk a.queue

module _ (a : Asked) where
  pub refused_is : (a.no ≡ 0 → ⊥) → refused a.r a.no a.queue ≡ whole a
  unfolding scan_of
  refused_is h = rw (← a.is, ne_eqb a.no 0 h)

  module _ (z : a.no ≡ 0) where
    told : ChunkPassed a.r.count (accepted a.page) (are_chars a.chunk) (length a.chunk)
        × (places_for_chunk (length a.chunk) ≤ length a.queue)
    told =
        passed a.r.count (accepted a.page) (are_chars a.chunk) (length a.chunk) (places_for_chunk (length a.chunk))
        (length a.queue) (sym a.is ∙ z)

    pub right_page : accepted a.page ≡ true
    right_page = told.0.right_page

    pub counts : a.r.count + length a.chunk ≤ max_count
    counts = told.0.counts

    module _ (from : ℕ) (f : from ≡ skipped a.r a.chunk) where
      pub from_le : from ≤ length a.chunk
      from_le = rw f (skip_le a.r a.chunk)

      module _ (first : TextInput) (g : first ≡ opened a.r (length a.chunk)) where
        pub enough : length (outs a.page a.options first (drop from a.chunk)) ≤ length a.queue
        enough = omega (arith, part_room a.page a.options first from a.chunk, told.1)

        pub accepted_is : (ran : Ran) (q : List ℕ) →
            (ran ≡ ran_by 0 (run_of a.page a.options first (drop from a.chunk)))
            × (q ≡ sets a.queue 0 (outs a.page a.options first (drop from a.chunk)))
            → outcome (record { answer = Ok ran.written; next = ran.next }) q ≡ whole a
        unfolding scan_of
        accepted_is ran q h = rw (← a.is, eq-eqb a.no 0 z, h.0, h.1, zero-add, f, g)

-- ---- a finish
module _ (r : TextInput) (eof : Bool) (lead mark newline : Option ℕ) (last : ℕ) (line : Bool)
    (h₁ : lead ≡ pending_of r.state) (h₂ : last ≡ last_of r.last (lead_chars lead)) (h₃ : mark ≡ end_mark_of last)
    (h₄ : line ≡ after_line r.state) (h₅ : newline ≡ newline_of (eof && not line)) where
  pub ending_chars_lem : lead_chars lead ++ (lead_chars mark ++ lead_chars newline) ≡ finish_chars r eof
  ending_chars_lem = rw (h₅, h₃, h₂, h₁, h₄)

  pub ending_next : (l₂ l₃ : ℕ) → l₂ ≡ last_of last (lead_chars mark) → l₃ ≡ last_of l₂ (lead_chars newline) →
      record { state = Ground (eof || line); expect_starter = true; at_start = r.at_start; last = l₃; count = r.count }
      ≡ finish_next r eof
  ending_next l₂ l₃ h₆ h₇ =
      let l : l₃ ≡ last_of r.last (finish_chars r eof) =
      rw (h₇, h₆, h₂) (last_three r.last (lead_chars lead) (lead_chars mark) (lead_chars newline) ∙ rw ending_chars_lem) in
      rw (l, h₄)

module _ (r : TextInput) (eof : Bool) (queue : List ℕ) where
  pub finish_refused : length queue < 2 → refused r 8 queue ≡ finish_of r eof queue
  unfolding finish_of
  finish_refused h = rw (lt-ltb (length queue) 2 h)

  module _ (room : 2 ≤ length queue) (e : Ending) (h : (ending_chars e ≡ finish_chars r eof) × (e.next ≡ finish_next r eof)) where
    pub finish_enough : length (ending_chars e) ≤ length queue
    finish_enough = rw h.0 (omega (arith, finish_room r eof))

    pub finished_is : (k : ℕ) (q : List ℕ) → (k ≡ length (ending_chars e)) × (q ≡ sets queue 0 (ending_chars e)) →
        outcome (record { answer = Ok k; next = e.next }) q ≡ finish_of r eof queue
    unfolding finish_of
    finished_is k q g = rw (le-ltb (length queue) 2 room, g.0, g.1, h.0, h.1)
