-- Plain characters and line ends, where nothing is pending: what the quick path of `advance` passes comes out as it goes in.
-- Idea: such a character is neither a mark nor part of an escape, the scanner's step gives it back, and a start that is expected it is
-- itself, where it is ASCII. From the first of a run on no start is expected.
--     Ready, ready_for_lem                the text is ready for a character, by the first byte of its encoding
--     plain_passed                    what a run of plain characters comes to
--     plain_chars                     they are characters
--     newline_passed, crlf_passed     what 0A comes to, and 0D 0A
use Prim.Native.Nat.{ℕ, suc, ◌<◌}
use mathlib.Core.Bool.{Bool, true, false, not, true≢false, ◌&&◌, ◌||◌, and-false}
use mathlib.Core.List.{List, [], ◌∷◌, ◌++◌}
use mathlib.Core.Logic.{◌⊎◌, inl, inr, ⊎_elim}
use mathlib.Core.Path.{◌≡◌, refl, sym, ap, ◌∙◌}
use native.Mathlib.Omega.{arith}
use borrow.Author.Tests.{ne_eqb, lt-ltb, ltb-true, not-true}
use lib.Dec.{eqb, ltb}
use lib.ListN.{length, get_or}
use Rattle.common.proofs.Kit.{never, both, both_true, or_cases}
use Rattle.scalars.specs.Chars.{is_char, are_chars}
use Rattle.scalars.specs.Utf8.{encode_all}
use Rattle.scalars.proofs.Rows.{by_row}
use Rattle.replace.specs.declared.Replaced.TheVariants.{One}
use Rattle.replace.specs.Table.{in_spans}
use Rattle.stretch.specs.Plain.{special, Plain}
use Rattle.text_utils.specs.Classes.{starter, basic_text_start}
use Rattle.text_utils.proofs.Classes.{start_low, end_newline}
use Rattle.text_input_parts.specs.Appended.{last_of, guard_of}
use Rattle.text_input.specs.declared.State.{State}
use Rattle.text_input.specs.declared.State.TheVariants.{Ground, Cr, Ff, Esc, CsiStart, Csi, Osc, Linux}
use Rattle.text_input.specs.declared.Options.{Options}
use Rattle.text_input.specs.declared.TextInput.{TextInput}
use Rattle.text_input.specs.declared.step.Left.TheVariants.{Goes}
use Rattle.text_input.specs.declared.step.Met.TheVariants.{Other}
use Rattle.text_input.specs.Sets.{optional_line}
use Rattle.text_input.specs.Step.{scan_step_of, leave_of, meet_of}
use Rattle.text_input.specs.Inner.{grounded}
use Rattle.text_clean.specs.declared.text.Text.{Text}
use Rattle.text_clean.specs.Text.{begun, in_escape, Passed, take_of, joined, passed_of}
use Rattle.text_clean.specs.Inner.{ready_for, passed_text, ended_text}
use Rattle.text_clean.proofs.Append.{passed_one}
use Rattle.std.specs.Prelude.{None, Some}

-- ---- the ground state
leave_ground : (s : State) (c : ℕ) → grounded s ≡ true → leave_of s c ≡ Goes
unfolding leave_of
leave_ground (Ground b) c h = refl
leave_ground Cr c h = never h
leave_ground Ff c h = never h
leave_ground Esc c h = never h
leave_ground CsiStart c h = never h
leave_ground Csi c h = never h
leave_ground Osc c h = never h
leave_ground Linux c h = never h

no_escape : (s : State) (c : ℕ) → grounded s ≡ true → eqb c 0x1B ≡ false → in_escape s c ≡ false
unfolding in_escape
no_escape (Ground b) c h e = rw e
no_escape Cr c h e = never h
no_escape Ff c h e = never h
no_escape Esc c h e = never h
no_escape CsiStart c h e = never h
no_escape Csi c h e = never h
no_escape Osc c h e = never h
no_escape Linux c h e = never h

-- ---- a plain character
-- no line end, page character or ESC
module _ (c : ℕ) (h : in_spans special c ≡ false) where
  differs : (k : ℕ) → in_spans special k ≡ true → eqb c k ≡ false
  differs k t = ne_eqb c k (λ e. true≢false (sym t ∙ (rw e at h)))

  meet_other : (o : Options) → meet_of o c ≡ Other
  unfolding meet_of optional_line
  meet_other o =
      simp (differs 0xa refl, differs 0xd refl, differs 0xc refl, differs 0x1b refl, differs 0x85 refl, differs 0x2028 refl, differs 0x2029 refl)

-- ASCII is always a start, whatever the page says
start_ascii : (p : List ℕ) (c : ℕ) → c < 0x80 → basic_text_start p c ≡ true
unfolding starter
start_ascii p c h = start_low p c (omega arith) ∙ rw (lt-ltb c 0x80 h)

-- nothing is pending, and where a start is expected, or a mark is dropped, c is ASCII
pub record Ready (t : Text) (c : ℕ) : Type 0 where
  pub ground : grounded t.input.state ≡ true
  pub cr : t.cr ≡ false
  pub start : (c < 0x80) ⊎ ((t.input.expect_starter ≡ false) × (t.input.at_start ≡ false))

no_guard : (p : List ℕ) (expect start : Bool) (c : ℕ) → (c < 0x80) ⊎ ((expect ≡ false) × (start ≡ false)) → guard_of p None expect (One c) ≡ None
no_guard p false start c h = refl
no_guard p true start c (inl h) = rw (start_ascii p c h)
no_guard p true start c (inr h) = never (sym h.0)

no_mark : (expect start : Bool) (c : ℕ) → (c < 0x80) ⊎ ((expect ≡ false) × (start ≡ false)) → start && eqb c 0xFEFF ≡ false
no_mark expect false c h = refl
no_mark expect true c (inl h) = ne_eqb c 0xFEFF (λ e. omega arith)
no_mark expect true c (inr h) = never (sym h.1)

-- what characters come to that come out as they go in, the last of them l
abbrev pub plainly : Text → List ℕ → ℕ → Passed
plainly t cs l = record { out = cs; next = passed_text t l; dropped = 0; lost = 0 }

module _ (p : List ℕ) (o : Options) (lines : Bool) where
  plain_step : (t : Text) (c : ℕ) → Ready t c → Plain c →
      scan_step_of p o (begun t.input) c ≡ record { lead = None; image = Some (One c); next = (passed_text t c).input }
  unfolding scan_step_of
  plain_step t c r k =
      simp (leave_ground t.input.state c r.ground, meet_other c k.other o, k.same o.units_compatibility, no_guard p t.input.expect_starter t.input.at_start c r.start)

  plain_take : (t : Text) (c : ℕ) → Ready t c → Plain c → take_of p o lines t c ≡ plainly t (c ∷ []) c
  unfolding take_of
  plain_take t c r k =
      simp (
        no_mark t.input.expect_starter t.input.at_start c r.start,
        differs c k.other 0xa refl,
        and-false,
        plain_step t c r k,
        no_escape t.input.state c r.ground (differs c k.other 0x1b refl),
        r.cr,
      )

  pub plain_passed : (cs : List ℕ) (c : ℕ) (t : Text) → Ready t c → ((x : ℕ) → x < length (c ∷ cs) → Plain (get_or (c ∷ cs) x 0)) →
      passed_of p o lines t (c ∷ cs) ≡ plainly t (c ∷ cs) (last_of c cs)
  plain_passed [] c t r k = passed_one p o lines t c ∙ plain_take t c r (k 0 (omega arith))
  plain_passed (d ∷ cs) c t r k =
      ap (λ (x : Passed). joined x (passed_of p o lines x.next (d ∷ cs))) (plain_take t c r (k 0 (omega arith)))
      ∙ ap (joined (plainly t (c ∷ []) c))
      (plain_passed cs d (passed_text t c) (record { ground = refl; cr = refl; start = inr (refl, refl) }) (λ x l. k (suc x) (omega arith)))

pub plain_chars : (cs : List ℕ) → ((x : ℕ) → x < length cs → (is_char (get_or cs x 0) ≡ true) × Plain (get_or cs x 0)) → are_chars cs ≡ true
plain_chars [] k = refl
plain_chars (c ∷ cs) k = both (k 0 (omega arith)).0 (plain_chars cs (λ x l. k (suc x) (omega arith)))

-- ---- by the first byte
first_low : (c : ℕ) (cs : List ℕ) → get_or (encode_all (c ∷ cs)) 0 0 < 0x80 → c < 0x80
first_low c cs =
    by_row (λ l. get_or (l ++ encode_all cs) 0 0 < 0x80 → c < 0x80) c (λ h e. h) (λ g h e. omega arith) (λ g h e. omega arith) (λ g e. omega arith)

pub ready_ground : (t : Text) (b : ℕ) → ready_for t b ≡ true → (grounded t.input.state ≡ true) × (t.cr ≡ false)
ready_ground t b h =
    let x = both_true _ _ (both_true _ _ h).0 in
    (x.0, not-true t.cr x.1)

pub ready_for_lem : (t : Text) (b c : ℕ) (cs : List ℕ) → ready_for t b ≡ true → get_or (encode_all (c ∷ cs)) 0 0 ≡ b → Ready t c
ready_for_lem t b c cs h e =
    let g = ready_ground t b h in
    let l = not t.input.expect_starter && not t.input.at_start in
    record {
      ground = g.0;
      cr = g.1;
      start =
          ⊎_elim (λ m. inl (first_low c cs (rw e (ltb-true b 0x80 m))))
          (λ m. let y = both_true _ _ m in inr (not-true t.input.expect_starter y.0, not-true t.input.at_start y.1))
          (or_cases (ltb b 0x80) l (both_true (grounded t.input.state && not t.cr) (ltb b 0x80 || l) h).1);
    }

-- ---- line ends
-- what a line end comes to
abbrev pub line_end : Text → Bool → Passed
line_end t lines = record { out = 0x0A ∷ []; next = ended_text t lines; dropped = 0; lost = 0 }

-- nothing is pending but 0D
abbrev at_line : State → Bool
at_line (Ground b) = true
at_line Cr = true
at_line Ff = false
at_line Esc = false
at_line CsiStart = false
at_line Csi = false
at_line Osc = false
at_line Linux = false

ground_line : (s : State) → grounded s ≡ true → at_line s ≡ true
ground_line (Ground b) h = refl
ground_line Cr h = refl
ground_line Ff h = never h
ground_line Esc h = never h
ground_line CsiStart h = never h
ground_line Csi h = never h
ground_line Osc h = never h
ground_line Linux h = never h

-- 0A is part of no escape there
line_escape : (s : State) → at_line s ≡ true → in_escape s 0x0A ≡ false
unfolding in_escape
line_escape (Ground b) h = refl
line_escape Cr h = refl
line_escape Ff h = never h
line_escape Esc h = never h
line_escape CsiStart h = never h
line_escape Csi h = never h
line_escape Osc h = never h
line_escape Linux h = never h

-- the record after 0A
abbrev after_newline : TextInput → TextInput
after_newline r =
    record { state = Ground true; expect_starter = false; at_start = r.at_start; last = 0x0A; count = r.count }

module _ (p : List ℕ) (o : Options) where
  line_step : (s : State) (r : TextInput) → at_line s ≡ true → r.state ≡ s →
      scan_step_of p o r 0x0A ≡ record { lead = None; image = Some (One 0x0A); next = after_newline r }
  unfolding scan_step_of leave_of meet_of
  line_step (Ground b) r h e = rw e
  line_step Cr r h e = rw e
  line_step Ff r h e = never h
  line_step Esc r h e = never h
  line_step CsiStart r h e = never h
  line_step Csi r h e = never h
  line_step Osc r h e = never h
  line_step Linux r h e = never h

  line_take : (lines : Bool) (t : Text) → at_line t.input.state ≡ true → t.cr ≡ false → take_of p o lines t 0x0A ≡ line_end t lines
  unfolding take_of
  line_take true t h e =
      simp (and-false, line_step t.input.state (begun t.input) h refl, line_escape t.input.state h, e, end_newline)
  line_take false t h e =
      simp (and-false, line_step t.input.state (begun t.input) h refl, line_escape t.input.state h, e)

  -- the text after 0D
  abbrev after_return : Text → Text
  after_return t =
      record {
        input = record { state = Cr; expect_starter = t.input.expect_starter; at_start = false; last = t.input.last; count = t.input.count };
        cr = false;
      }

  return_step : (s : State) (r : TextInput) → grounded s ≡ true → r.state ≡ s →
      scan_step_of p o r 0x0D ≡ record {
        lead = None;
        image = None;
        next = record { state = Cr; expect_starter = r.expect_starter; at_start = r.at_start; last = r.last; count = r.count };
      }
  unfolding scan_step_of meet_of
  return_step s r h e = simp (e, leave_ground s 0x0D h)

  return_take : (lines : Bool) (t : Text) → grounded t.input.state ≡ true → t.cr ≡ false →
      take_of p o lines t 0x0D ≡ record { out = []; next = after_return t; dropped = 0; lost = 0 }
  unfolding take_of
  return_take lines t h e =
      simp (and-false, return_step t.input.state (begun t.input) h refl, no_escape t.input.state 0x0D h refl, e)

  pub newline_passed : (lines : Bool) (t : Text) → grounded t.input.state ≡ true → t.cr ≡ false →
      passed_of p o lines t (0x0A ∷ []) ≡ line_end t lines
  newline_passed lines t h e = passed_one p o lines t 0x0A ∙ line_take lines t (ground_line t.input.state h) e

  pub crlf_passed : (lines : Bool) (t : Text) → grounded t.input.state ≡ true → t.cr ≡ false →
      passed_of p o lines t (0x0D ∷ 0x0A ∷ []) ≡ line_end t lines
  crlf_passed lines t h e =
      ap (λ (x : Passed). joined x (passed_of p o lines x.next (0x0A ∷ []))) (return_take lines t h e)
      ∙ ap (joined (record { out = []; next = after_return t; dropped = 0; lost = 0 }))
      (passed_one p o lines (after_return t) 0x0A ∙ line_take lines (after_return t) refl refl)
