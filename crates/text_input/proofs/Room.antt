-- What a run appends fits the places that its call asks for, from every record. Idea: what a record owes, a pending character or the
-- guard of a start that is expected, is at most one character; a step, with what it leaves owed, costs at most three and what was
-- owed before it.
--     given_pending  what a step gives before the ground state takes its character is what was pending
--     room           a run of n characters appends at most 3 × n + 1
--     run_room       .. and so at most the places for n characters: none for an empty run
--     part_room      .. and so does the run without its first characters
--     exact          a run of one character that appends so many
--     scan_room      an accepted scan appends at most the places for its chunk
--     ending_room, finish_room   a finish appends at most 2
use Prim.Native.Nat.{ℕ, zero, suc, ◌+◌, ◌*◌, ◌≤◌}
use mathlib.Core.Path.{◌≡◌, refl}
use mathlib.Core.Bool.{Bool, true, false, cond, not, ◌&&◌}
use mathlib.Core.List.{List, [], ◌∷◌, ◌++◌}
use native.Mathlib.Omega.{arith}
use lib.Dec.{eqb}
use lib.ListN.{length, drop, length-append, length-drop}
use Rattle.common.proofs.Kit.{split}
use Rattle.replace.specs.declared.Replaced.{Replaced}
use Rattle.replace.specs.declared.Replaced.TheVariants.{Three}
use Rattle.replace.specs.Replace.{replace_of}
use Rattle.text_utils.specs.Classes.{basic_text_start, basic_text_end}
use Rattle.text_utils.proofs.Classes.{end_newline, end_space}
use Rattle.check_char.proofs.Clean.{replaced_length}
use Rattle.text_input.specs.declared.State.{State}
use Rattle.text_input.specs.declared.State.TheVariants.{Ground, Cr, Ff, Esc, CsiStart, Csi, Osc, Linux}
use Rattle.text_input.specs.declared.Options.{Options}
use Rattle.text_input.specs.declared.TextInput.{TextInput}
use Rattle.text_input.specs.declared.step.Left.{Left}
use Rattle.text_input.specs.declared.step.Left.TheVariants.{Part, Newline, Goes, Ends, After, Dropped}
use Rattle.text_input.specs.declared.step.Met.{Met}
use Rattle.text_input.specs.declared.step.Met.TheVariants.{Line, Opens, Other}
use Rattle.text_input.specs.declared.step.Step.{Step}
use Rattle.text_input_parts.specs.Sets.{parameter, final, string_end, up_to7_f, newline_char}
use Rattle.text_input.specs.Sets.{optional_line}
use Rattle.text_input_parts.specs.Appended.{lead_chars, image_chars, first_char, last_of, end_mark_of, newline_of, guard_of}
use Rattle.text_input.specs.Step.{out_chars, csi_leave, leave_of, replaced_by, meet_of, met_of, ground_of, left_of, scan_step_of}
use Rattle.text_input_parts.specs.Refusals.{places_for_chunk}
use Rattle.text_input.specs.Scan.{skipped, opened, scan_chars, pending_of, after_line, finish_chars}
use Rattle.text_input.specs.Inner.{outs}
use Rattle.std.specs.Prelude.{Option, Some, None}

-- ---- what a record owes
abbrev bit : Bool → ℕ
bit b = cond b 1 0

-- a pending character, which a finish would give
abbrev pending : State → ℕ
pending s = length (lead_chars (pending_of s))

abbrev owes : State → Bool → ℕ
owes s expect = cond expect 1 (pending s)

abbrev owed : TextInput → ℕ
owed r = owes r.state r.expect_starter

pending_one : (s : State) → pending s ≤ 1
pending_one (Ground b) = omega arith
pending_one Cr = omega arith
pending_one Ff = omega arith
pending_one Esc = omega arith
pending_one CsiStart = omega arith
pending_one Csi = omega arith
pending_one Osc = omega arith
pending_one Linux = omega arith

owes_one : (s : State) (expect : Bool) → owes s expect ≤ 1
owes_one s true = omega arith
owes_one s false = pending_one s

owes_guard : (s : State) (expect : Bool) → bit expect ≤ owes s expect
owes_guard s true = omega arith
owes_guard s false = omega arith

owes_pending : (s : State) (expect : Bool) → pending s ≤ owes s expect
owes_pending s true = pending_one s
owes_pending s false = omega arith

-- ---- a step: what it appends, with what it leaves owed
abbrev cost : Step → ℕ
cost s = length (lead_chars s.lead) + length (image_chars s.image) + owes s.next.state s.next.expect_starter

module _ (p : List ℕ) (o : Options) (r : TextInput) (c bound : ℕ) where
  guard_cost : (lead : Option ℕ) (expect : Bool) (i : Replaced) → length (lead_chars lead) ≤ bound → bit expect ≤ bound →
      length (lead_chars (guard_of p lead expect i)) ≤ bound
  guard_cost lead true i l b = split (λ (g : Option ℕ). length (lead_chars g) ≤ bound) (basic_text_start p (first_char i)) (λ e. l) (λ e. b)
  guard_cost lead false i l b = l

  met_cost : (lead : Option ℕ) (expect : Bool) (m : Met) → length (lead_chars lead) ≤ bound → bit expect ≤ bound →
      cost (met_of p o r c lead expect m) ≤ 3 + bound
  met_cost lead expect Line l b = omega arith
  met_cost lead expect (Opens s) l b = omega (arith, owes_one s expect)
  met_cost lead expect Other l b = omega (arith, guard_cost lead expect (replaced_by o c) l b, (replaced_length (replaced_by o c)).1)

-- what is given before the ground state takes c is what was pending
abbrev pub Given : State → Left → Type 0
Given s (Part t) = Unit {0}
Given s Newline = Unit {0}
Given s Goes = Unit {0}
Given s Ends = Unit {0}
Given s (After a) = pending_of s ≡ Some a
Given s Dropped = Unit {0}

csi_given : (s : State) (c : ℕ) → Given s (csi_leave c)
csi_given s c = split (Given s) (parameter c) (λ e. tt) (λ e. split (Given s) (final c) (λ e. tt) (λ e. tt))

pub given_pending : (s : State) (c : ℕ) → Given s (leave_of s c)
unfolding leave_of
given_pending (Ground b) c = tt
given_pending Cr c = split (Given Cr) (eqb c 0x0A) (λ e. tt) (λ e. refl)
given_pending Ff c = split (Given Ff) (eqb c 0x0C) (λ e. tt) (λ e. split (Given Ff) (newline_char c) (λ e. search refl) (λ e. refl))
given_pending Esc c =
    split (Given Esc) (eqb c 0x5B) (λ e. tt)
    (λ e. split (Given Esc) (eqb c 0x5D) (λ e. tt) (λ e. split (Given Esc) (final c) (λ e. tt) (λ e. tt)))
given_pending CsiStart c = split (Given CsiStart) (eqb c 0x5B) (λ e. tt) (λ e. csi_given CsiStart c)
given_pending Csi c = csi_given Csi c
given_pending Osc c = split (Given Osc) (string_end c) (λ e. tt) (λ e. split (Given Osc) (eqb c 0x1B) (λ e. tt) (λ e. tt))
given_pending Linux c = split (Given Linux) (up_to7_f c) (λ e. tt) (λ e. tt)

module _ (p : List ℕ) (o : Options) (r : TextInput) where
  -- the ground state takes c, and nothing was given before it
  free_cost : (c : ℕ) → cost (ground_of p o r c None r.expect_starter) ≤ 3 + owed r
  free_cost c =
      met_cost p o r c (owed r) None r.expect_starter (meet_of o c) (omega arith) (owes_guard r.state r.expect_starter)

  left_cost : (c : ℕ) (l : Left) → Given r.state l → cost (left_of p o r c l) ≤ 3 + owed r
  left_cost c (Part s) h = omega (arith, owes_one s r.expect_starter)
  left_cost c Newline h = omega arith
  left_cost c Goes h = free_cost c
  left_cost c Ends h = free_cost c
  left_cost c (After a) h =
      let one : pending r.state ≡ 1 = rw h in
      met_cost p o r c (owed r) (Some a) false (meet_of o c) (omega (arith, owes_pending r.state r.expect_starter)) (omega arith)
  left_cost c Dropped h = met_cost p o r c (owed r) None false (meet_of o c) (omega arith) (omega arith)

  step_cost : (c : ℕ) → cost (scan_step_of p o r c) ≤ 3 + owed r
  unfolding scan_step_of
  step_cost c = left_cost c (leave_of r.state c) (given_pending r.state c)

out_length : (s : Step) → length (out_chars s) ≡ length (lead_chars s.lead) + length (image_chars s.image)
out_length s = length-append (lead_chars s.lead) (image_chars s.image)

-- ---- a run
run_cost : (p : List ℕ) (o : Options) (r : TextInput) (cs : List ℕ) → length (outs p o r cs) ≤ 3 * length cs + owed r
run_cost p o r [] = omega arith
run_cost p o r (c ∷ cs) =
    let s : Step = scan_step_of p o r c in
    omega (
      arith,
      length-append (out_chars s) (outs p o s.next cs),
      out_length s,
      step_cost p o r c,
      run_cost p o s.next cs,
    )

pub room : (p : List ℕ) (o : Options) (r : TextInput) (cs : List ℕ) → length (outs p o r cs) ≤ 3 * length cs + 1
room p o r cs = omega (arith, run_cost p o r cs, owes_one r.state r.expect_starter)

pub run_room : (p : List ℕ) (o : Options) (r : TextInput) (cs : List ℕ) → length (outs p o r cs) ≤ places_for_chunk (length cs)
run_room p o r [] = omega arith
run_room p o r (c ∷ cs) = omega (arith, room p o r (c ∷ cs))

-- fewer characters need no more places
fewer : (m n : ℕ) → m ≤ n → places_for_chunk m ≤ places_for_chunk n
fewer zero n h = omega arith
fewer (suc m) zero h = omega arith
fewer (suc m) (suc n) h = omega arith

pub part_room : (p : List ℕ) (o : Options) (r : TextInput) (n : ℕ) (cs : List ℕ) →
    length (outs p o r (drop n cs)) ≤ places_for_chunk (length cs)
part_room p o r n cs =
    omega (arith, run_room p o r (drop n cs), fewer (length (drop n cs)) (length cs) (omega (arith, length-drop n cs)))

ligature : (units : Bool) → replace_of units 0xFB03 ≡ Three 0x66 0x66 0x69
unfolding replace_of
ligature true = refl
ligature false = refl

-- no fewer would do: "after 0D, the chunk FB03 gives 0A 66 66 69, four places: accepted with 4, refused with 3."
pub exact : (p : List ℕ) (o : Options) (last count : ℕ) →
    length (outs p o (record { state = Cr; expect_starter = false; at_start = false; last = last; count = count }) (0xFB03 ∷ []))
    ≡ 4
unfolding scan_step_of leave_of meet_of optional_line
exact p o last count = simp ligature

pub scan_room : (p : List ℕ) (o : Options) (r : TextInput) (chunk : List ℕ) →
    length (scan_chars p o r chunk) ≤ places_for_chunk (length chunk)
scan_room p o r chunk = part_room p o (opened r (length chunk)) (skipped r chunk) chunk

-- ---- a finish: a pending character is 0A or 20, which are ends, so that no 34F follows it
lead_one : (l : Option ℕ) → length (lead_chars l) ≤ 1
lead_one None = omega arith
lead_one (Some a) = omega arith

tail_two : (a b : Option ℕ) → length (lead_chars a ++ lead_chars b) ≤ 2
tail_two a b = simp length-append (omega (arith, lead_one a, lead_one b))

after_end : (a : ℕ) (newline : Option ℕ) → basic_text_end a ≡ true → length (lead_chars (end_mark_of a) ++ lead_chars newline) ≤ 1
after_end a newline e = rw e (lead_one newline)

-- whatever the newline is that follows
pub ending_room : (s : State) (last : ℕ) (newline : Option ℕ) →
    length (lead_chars (pending_of s) ++ (lead_chars (end_mark_of (last_of last (lead_chars (pending_of s)))) ++ lead_chars newline)) ≤ 2
ending_room Cr last newline = omega (arith, after_end 0x0A newline end_newline)
ending_room Ff last newline = omega (arith, after_end 0x20 newline end_space)
ending_room (Ground b) last newline = tail_two (end_mark_of last) newline
ending_room Esc last newline = tail_two (end_mark_of last) newline
ending_room CsiStart last newline = tail_two (end_mark_of last) newline
ending_room Csi last newline = tail_two (end_mark_of last) newline
ending_room Osc last newline = tail_two (end_mark_of last) newline
ending_room Linux last newline = tail_two (end_mark_of last) newline

pub finish_room : (r : TextInput) (eof : Bool) → length (finish_chars r eof) ≤ 2
finish_room r eof = ending_room r.state r.last (newline_of (eof && not (after_line r.state)))
