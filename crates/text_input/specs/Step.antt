-- One character in one state, as the `match` of `process_raw_string` in text_input.rs has it. Where the Rust goes round its inner
-- loop, with the state set to `Ground`, the ground state takes the character here. Document 01, "A chunk comes in" and "Pieces of a
-- text".
-- The states say what is pending. `Ground b`: nothing, and b says that a finish owes no 0A. `Cr`: 0D. `Ff`: a page run. The others an
-- escape: `Esc` after 1B, `CsiStart` just after 1B `[`, `Csi` further on in it, `Osc` in a string begun by 1B `]`, `Linux` after
-- 1B `[` `[`.
use Rattle.std.specs.Prelude.{ℕ, Bool, true, false, cond, List, ◌++◌, eqb, Option, Some, None}
use Rattle.replace.specs.declared.Replaced.{Replaced}
use Rattle.replace.specs.declared.Replaced.TheVariants.{One}
use Rattle.replace.specs.Replace.{replace_of}
use Rattle.text_input.specs.declared.State.{State}
use Rattle.text_input.specs.declared.State.TheVariants.{Ground, Cr, Ff, Esc, CsiStart, Csi, Osc, Linux}
use Rattle.text_input.specs.declared.Options.{Options}
use Rattle.text_input.specs.declared.TextInput.{TextInput}
use Rattle.text_input.specs.declared.step.Left.{Left}
use Rattle.text_input.specs.declared.step.Left.TheVariants.{Part, Newline, Goes, Ends, After, Dropped}
use Rattle.text_input.specs.declared.step.Met.{Met}
use Rattle.text_input.specs.declared.step.Met.TheVariants.{Line, Opens, Other}
use Rattle.text_input.specs.declared.step.Step.{Step}
use Rattle.text_input_parts.specs.Appended.{lead_chars, image_chars, last_of, guard_of}
use Rattle.text_input_parts.specs.Sets.{parameter, final, string_end, up_to7_f, newline_char}
use Rattle.text_input.specs.Sets.{optional_line}

-- what a step appends: a lead and an image
abbrev pub out_chars : Step → List ℕ
out_chars s = lead_chars s.lead ++ image_chars s.image

-- ---- what a character does to what is pending before it
--     Part s     it is part of it: it gives nothing and leaves the state s
--     Newline    it is the 0A of 0D 0A
--     Goes       nothing is pending: the ground state takes it
--     Ends       an escape ends before it and gives nothing; then the ground state takes it, which at 1B opens the next escape
--     After a    a is given for what was pending; then the ground state takes it
--     Dropped    a page run before 0D or 0A gives nothing; then the ground state takes it
-- `State::Esc`
abbrev pub esc_leave : ℕ → Left
esc_leave c =
    cond (eqb c 0x5B) (Part CsiStart) (cond (eqb c 0x5D) (Part Osc) (cond (final c) (Part (Ground false)) Ends))

-- `State::CsiStart` and `State::Csi`
abbrev pub csi_leave : ℕ → Left
csi_leave c = cond (parameter c) (Part Csi) (cond (final c) (Part (Ground false)) Ends)

unfoldable pub leave_of : State → ℕ → Left
leave_of (Ground b) c = Goes
leave_of Cr c = cond (eqb c 0x0A) Newline (After 0x0A)
leave_of Ff c = cond (eqb c 0x0C) (Part Ff) (cond (newline_char c) Dropped (After 0x20))
leave_of Esc c = esc_leave c
leave_of CsiStart c = cond (eqb c 0x5B) (Part Linux) (csi_leave c)
leave_of Csi c = csi_leave c
leave_of Osc c = cond (string_end c) (Part (Ground false)) (cond (eqb c 0x1B) Ends (Part Osc))
leave_of Linux c = cond (up_to7_f c) (Part (Ground false)) Ends

-- ---- what the ground state does with a character
--     Line       it ends a line: its image is 0A
--     Opens s    it gives nothing and leaves the state s, in which it is pending
--     Other      its image is its replacement
unfoldable pub meet_of : Options → ℕ → Met
meet_of o c =
    cond (eqb c 0x0A) Line (cond (eqb c 0x0D) (Opens Cr) (cond (eqb c 0x0C) (Opens Ff) (cond (eqb c 0x1B) (Opens Esc) (cond (optional_line o c) Line Other))))

-- ---- the step
-- it appends this, and leaves this state and expectation
abbrev pub made_of : TextInput → Option ℕ → Option Replaced → State → Bool → Step
made_of r lead image state expect =
    record {
      lead = lead;
      image = image;
      next = record {
        state = state;
        expect_starter = expect;
        at_start = r.at_start;
        last = last_of (last_of r.last (lead_chars lead)) (image_chars image);
        count = r.count;
      };
    }

-- what replaces c: "Everything that uses replacement takes the option."
abbrev pub replaced_by : Options → ℕ → Replaced
replaced_by o c = replace_of o.units_compatibility c

-- `State::Ground`, after a lead
abbrev pub met_of : List ℕ → Options → TextInput → ℕ → Option ℕ → Bool → Met → Step
met_of p o r c lead expect Line = made_of r lead (Some (One 0x0A)) (Ground true) false
met_of p o r c lead expect (Opens s) = made_of r lead None s expect
met_of p o r c lead expect Other = made_of r (guard_of p lead expect (replaced_by o c)) (Some (replaced_by o c)) (Ground false) false

abbrev pub ground_of : List ℕ → Options → TextInput → ℕ → Option ℕ → Bool → Step
ground_of p o r c lead expect = met_of p o r c lead expect (meet_of o c)

abbrev pub left_of : List ℕ → Options → TextInput → ℕ → Left → Step
left_of p o r c (Part s) = made_of r None None s r.expect_starter
left_of p o r c Newline = made_of r None (Some (One 0x0A)) (Ground true) false
left_of p o r c Goes = ground_of p o r c None r.expect_starter
left_of p o r c Ends = ground_of p o r c None r.expect_starter
left_of p o r c (After a) = ground_of p o r c (Some a) false
left_of p o r c Dropped = ground_of p o r c None false

-- the step on c by the page p and the options o
-- "The reference is `process_raw_string`."
unfoldable pub scan_step_of : List ℕ → Options → TextInput → ℕ → Step
scan_step_of p o r c = left_of p o r c (leave_of r.state c)
