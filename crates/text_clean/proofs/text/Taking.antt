-- One character of a text and its end, as the code has them: by the parts of a step or an ending, stored one after the other.
--     byte_bit                 1 for yes
--     ended_chars              what ends a text is characters
--     mark_is, mark_taken      a leading U+FEFF
--     counts_fit, lead_asks, image_asks    any other character: what it asks of the counts and the places
--     line_asks                the same of the end of its line behind it
--     step_taken, line_taken   what it comes to, without such an end and with it
use Prim.Native.Nat.{ℕ, ◌+◌, ◌≤◌}
use mathlib.Core.Path.{◌≡◌, refl, ap, ◌∙◌}
use mathlib.Core.Bool.{Bool, true, false, cond, ◌&&◌}
use mathlib.Core.List.{List, [], ◌∷◌, ◌++◌, append-nil}
use native.Mathlib.Nat.{add-zero}
use native.Mathlib.Omega.{arith}
use lib.Dec.{eqb}
use mir.Val.{bool_byte}
use lib.ListN.{length, length-append}
use lib.Seq.{sets}
use Rattle.common.proofs.Kit.{both}
use Rattle.scalars.specs.Chars.{is_char, are_chars}
use Rattle.scalars.specs.Utf8.{encode_all}
use Rattle.scalars.proofs.Texts.{encode_append, chars_append, chars_parts}
use Rattle.text_input.specs.declared.Options.{Options}
use Rattle.text_input.specs.declared.Ending.{Ending}
use Rattle.text_input.specs.declared.TextInput.{TextInput}
use Rattle.text_input.specs.declared.step.Step.{Step}
use Rattle.text_input.specs.Step.{scan_step_of, out_chars}
use Rattle.text_input.specs.Scan.{finish_chars}
use Rattle.text_input.specs.Inner.{ending_chars}
use Rattle.text_input_parts.specs.Appended.{lead_chars, image_chars}
use Rattle.text_input.proofs.Clean.{run_chars, finish_chars_lem}
use Rattle.text_clean.specs.declared.text.Text.{Text}
use Rattle.text_clean.specs.declared.text.Tally.{Tally}
use Rattle.text_clean.specs.declared.text.Taken.{Taken}
use Rattle.text_clean.specs.Text.{Passed, bit, fresh_text, begun, in_escape, lost_before, mark_of, stepped_of, line_of, take_of, closed_of}
use Rattle.text_clean.specs.Inner.{Fits, tallied, taken_by}
use Rattle.text_clean.proofs.Stored.{Asks, Stored, asks_first, asks_then, stored_then}

-- 1 for yes, as `usize::from` has it
pub byte_bit : (b : Bool) → bool_byte b ≡ bit b
byte_bit true = refl
byte_bit false = refl

nothing_more : (t : Tally) → tallied t 0 0 0 ≡ t
nothing_more t = simp add-zero

-- an answer and the places are what x comes to
abbrev Is : ℕ → Tally → ℕ → Passed → List ℕ → Taken → List ℕ → Type 0
Is k tally n x out r m = (r ≡ taken_by k tally n x) × (m ≡ sets out k (encode_all x.out))

-- ---- the end of a text
pub ended_chars : (e : Ending) (t : TextInput) (eof : Bool) → ending_chars e ≡ finish_chars t eof
    → (are_chars (lead_chars e.lead) ≡ true) × (are_chars (lead_chars e.mark) ≡ true) × (are_chars (lead_chars e.newline) ≡ true)
ended_chars e t eof h =
    let m = lead_chars e.mark ++ lead_chars e.newline in
    let p = chars_parts (lead_chars e.lead) m (rw h (finish_chars_lem t eof)) in
    let q = chars_parts (lead_chars e.mark) (lead_chars e.newline) p.1 in
    (p.0, q.0, q.1)

-- ---- a character
module _ (p : List ℕ) (o : Options) (lines : Bool) (t : Text) (c : ℕ) where
  abbrev is_mark : Bool
  is_mark = t.input.at_start && eqb c 0xFEFF

  abbrev is_line : Bool
  is_line = lines && eqb c 0x0A

  pub mark_is : is_mark ≡ true → take_of p o lines t c ≡ mark_of t c
  unfolding take_of
  mark_is h = rw h

  pub mark_taken : is_mark ≡ true → (out : List ℕ) (k : ℕ) (tally all : Tally) (first : TextInput) → first ≡ begun t.input
      → all ≡ tallied tally 1 1 (lost_before t.cr c)
      → Is k tally 1 (take_of p o lines t c) out (record { at = k; text = record { input = first; cr = false }; tally = all }) out
  mark_taken h out k tally all first f a = rw (mark_is h) (rw (f, a, add-zero), refl)

  abbrev stepped : Passed
  stepped = stepped_of p o lines t c

  module _ (no : is_mark ≡ false) where
    line_is : is_line ≡ true → take_of p o lines t c ≡ line_of stepped
    unfolding take_of
    line_is h = rw (no, h)

    step_is : is_line ≡ false → take_of p o lines t c ≡ stepped
    unfolding take_of
    step_is h = rw (no, h)

    both_are : take_of p o lines t c ≡ cond is_line (line_of stepped) stepped
    unfolding take_of
    both_are = rw no

    same_counts : (b : Bool) → ((cond b (line_of stepped) stepped).dropped ≡ stepped.dropped) × ((cond b (line_of stepped) stepped).lost ≡ stepped.lost)
    same_counts true = (refl, refl)
    same_counts false = (refl, refl)

    pub counts_fit : (k : ℕ) (tally : Tally) → Fits (taken_by k tally 1 (take_of p o lines t c)).tally → Fits (tallied tally 1 stepped.dropped stepped.lost)
    counts_fit k tally f = let s = same_counts is_line in rw (both_are, s.0, s.1) at f

    -- what the step gives
    module _ (char : is_char c ≡ true) (s : Step) (e : s ≡ scan_step_of p o (begun t.input) c) (out : List ℕ) (k : ℕ) (room : k + length (encode_all (take_of p o lines t c).out) ≤ length out) where
      step_chars : are_chars (out_chars s) ≡ true
      step_chars = rw e (rw append-nil at (run_chars p o (begun t.input) (c ∷ []) (both char refl)))

      shorter : (b : Bool) → length (encode_all stepped.out) ≤ length (encode_all (cond b (line_of stepped) stepped).out)
      shorter true =
          let f = finish_chars stepped.next.input true in
          let n : length (encode_all (line_of stepped).out) ≡ length (encode_all stepped.out) + length (encode_all f) =
          ap length (encode_append stepped.out f) ∙ length-append (encode_all stepped.out) (encode_all f) in
          omega arith
      shorter false = omega arith

      step_asks : Asks (out_chars s) out k
      step_asks = (step_chars, rw e (omega (arith, shorter is_line, rw both_are at room)))

      pub lead_asks : Asks (lead_chars s.lead) out k
      lead_asks = asks_first (lead_chars s.lead) (image_chars s.image) out k step_asks

      -- the lead is stored
      module _ (then : ℕ) (l : List ℕ) (lead : Stored (lead_chars s.lead) out k then l) where
        pub image_asks : Asks (image_chars s.image) l then
        image_asks = asks_then (lead_chars s.lead) (image_chars s.image) out k then l step_asks lead

        -- and the image behind it
        module _ (at : ℕ) (m : List ℕ) (image : Stored (image_chars s.image) l then at m) where
          put : Stored (out_chars s) out k at m
          put = stored_then (lead_chars s.lead) (image_chars s.image) out k then at l m lead image

          pub line_asks : is_line ≡ true → Asks (finish_chars s.next true) m at
          line_asks h =
              asks_then (out_chars s) (finish_chars s.next true) out k at m (
                chars_append (out_chars s) (finish_chars s.next true) step_chars (finish_chars_lem s.next true),
                rw e (rw (line_is h) at room),
              ) put

          module _ (tally sofar : Tally) (counts : sofar ≡ tallied tally 1 stepped.dropped stepped.lost) where
            pub step_taken : is_line ≡ false → (part : Bool) → part ≡ in_escape t.input.state c
                → Is k tally 1 (take_of p o lines t c) out (record { at = at; text = record { input = s.next; cr = part && eqb c 0x0D }; tally = sofar }) m
            step_taken h part q =
                let u : Stored stepped.out out k at m = rw e at put in
                rw (step_is h) (rw (u.0, e, q, counts), u.1)

            -- the line ends here
            abbrev last : Text
            last = record { input = s.next; cr = false }

            pub line_taken : is_line ≡ true → (closed : Taken) (fresh : Text) (n : List ℕ)
                → Is at sofar 0 (closed_of last true) m closed n → fresh ≡ fresh_text
                → Is k tally 1 (take_of p o lines t c) out (record { at = closed.at; text = fresh; tally = closed.tally }) n
            line_taken h closed fresh n d f =
                let u : Stored (out_chars s ++ finish_chars s.next true) out k closed.at n =
                stored_then (out_chars s) (finish_chars s.next true) out k at closed.at m n put (ap (λ (r : Taken). r.at) d.0, d.1) in
                let v : Stored (line_of stepped).out out k closed.at n = rw e at u in
                let a : closed.tally ≡ tallied tally 1 stepped.dropped stepped.lost =
                ap (λ (r : Taken). r.tally) d.0 ∙ nothing_more sofar ∙ counts in
                rw (line_is h) (rw (v.0, f, a), v.1)
