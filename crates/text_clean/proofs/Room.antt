-- What a call writes fits the places that it asks for, is characters, and its counts fit, from every record. Idea: what a text owes is a
-- number of bytes, for a pending character or the guard of a start that is expected, and two more inside an escape, where 0A can end the
-- text. A character, with what it leaves owed, costs at most three times its size and what was owed before it, where U+FFFD has size 1
-- and any other as many as it has bytes. The sizes of the characters that bytes put out are at most those bytes and the pending ones
-- (`utf8_lossy`, proofs/Sizes.antt).
--     by_take                        one character, by its cases
--     take_chars, passed_chars       what characters append are characters
--     passed_dropped, passed_lost    of n characters at most n are dropped, and n line ends lost, and one for a 0D before them
--     counts_fit                     what a call counts fits 64 bits
--     bytes_room                     a call on n bytes writes at most the places for n bytes
--     last_room                      a finish writes at most 8
use Prim.Native.Nat.{ℕ, ◌+◌, ◌*◌, ◌≤◌, ◌<◌}
use mathlib.Core.Path.{◌≡◌, refl, sym, ap, ◌∙◌}
use mathlib.Core.Bool.{Bool, true, false, cond, not, ◌&&◌, ◌||◌}
use mathlib.Core.List.{List, [], ◌∷◌, ◌++◌, append-nil}
use mathlib.Core.Logic.{⊎_elim}
use native.Mathlib.Omega.{arith}
use borrow.Author.Tests.{eqb-true, ne_eqb, ltb-true, ltb-false, leb-true}
use lib.Dec.{eqb, leb, ltb}
use lib.ListN.{length, length-append}
use Rattle.common.proofs.Kit.{never, by, split, both, both_true, or_cases}
use Rattle.scalars.specs.Chars.{is_char, are_chars}
use Rattle.scalars.specs.Utf8.{encode_of, encode_all}
use Rattle.scalars.proofs.Rows.{length_encode, long2, long3}
use Rattle.scalars.proofs.Texts.{encode_append, chars_append}
use Rattle.replace.specs.declared.Replaced.{Replaced}
use Rattle.replace.specs.declared.Replaced.TheVariants.{One}
use Rattle.replace.specs.Table.{◌to◌, Row, ◌gives◌, has, lookup}
use Rattle.replace.specs.Replace.{chars, rows_by, replace_of}
use Rattle.text_utils.specs.Classes.{basic_text_start, basic_text_end}
use Rattle.text_utils.proofs.Classes.{end_newline, end_space}
use Rattle.utf8_lossy.specs.Machine.{outs_of}
use Rattle.utf8_lossy.specs.Machine as decoder
use Rattle.utf8_lossy.specs.Decode.{pending_of}
use Rattle.utf8_lossy.proofs.Room.{room_one, replaced_le, pending_short}
use Rattle.utf8_lossy.proofs.Sizes.{size, sizes, size_pos, outs_size, finish_size}
use Rattle.text_input.specs.declared.State.{State}
use Rattle.text_input.specs.declared.State.TheVariants.{Ground, Cr, Ff, Esc, CsiStart, Csi, Osc, Linux}
use Rattle.text_input.specs.declared.Options.{Options}
use Rattle.text_input.specs.declared.TextInput.{TextInput}
use Rattle.text_input.specs.declared.step.Left.{Left}
use Rattle.text_input.specs.declared.step.Left.TheVariants.{Part, Newline, Goes, Ends, After, Dropped}
use Rattle.text_input.specs.declared.step.Met.{Met}
use Rattle.text_input.specs.declared.step.Met.TheVariants.{Line, Opens, Other}
use Rattle.text_input.specs.declared.step.Step.{Step}
use Rattle.text_input_parts.specs.Sets.{parameter, final, string_end, up_to7_f, newline_char}
use Rattle.text_input_parts.specs.Appended.{lead_chars, image_chars, first_char, last_of, end_mark_of, newline_of, guard_of}
use Rattle.text_input.specs.Sets.{optional_line}
use Rattle.text_input.specs.Step.{out_chars, made_of, replaced_by, met_of, ground_of, left_of, leave_of, meet_of, scan_step_of}
use Rattle.text_input.specs.Scan.{finish_chars, after_line}
use Rattle.text_input.specs.Scan as scanner
use Rattle.text_input.proofs.Room.{Given, given_pending}
use Rattle.text_input.proofs.Clean.{run_chars, finish_chars_lem}
use Rattle.text_clean.specs.declared.text.Text.{Text}
use Rattle.text_clean.specs.declared.text.Tally.{Tally}
use Rattle.text_clean.specs.declared.Cleaner.{Cleaner}
use Rattle.text_clean.specs.Text.{bit, begun, escaping, in_escape, lost_before, losable, Passed, mark_of, stepped_of, line_of, take_of, passed_of}
use Rattle.text_clean.specs.Clean.{places_for_bytes}
use Rattle.text_clean.specs.Clean as call
use Rattle.text_clean.specs.Inner.{no_tally, Fits, course_of, gives, leads}
use Rattle.std.specs.Prelude.{Option, Some, None}

-- ---- one character is a leading mark, a line end that ends its text, or goes by the scanner's step
pub by_take : (P : Passed → Type 0) (p : List ℕ) (o : Options) (lines : Bool) (t : Text) (c : ℕ) →
    P (mark_of t c) → (lines ≡ true → c ≡ 0x0A → P (line_of (stepped_of p o lines t c))) → P (stepped_of p o lines t c) →
    P (take_of p o lines t c)
unfolding take_of
by_take P p o lines t c mark line stepped =
    split P (t.input.at_start && eqb c 0xFEFF) (λ e. mark)
    (λ e. split P (lines && eqb c 0x0A) (λ f. let g = both_true lines (eqb c 0x0A) f in line g.0 (eqb-true c 0x0A g.1)) (λ f. stepped))

-- ---- only characters
module _ (p : List ℕ) (o : Options) (lines : Bool) where
  step_chars : (t : Text) (c : ℕ) → is_char c ≡ true → are_chars (stepped_of p o lines t c).out ≡ true
  step_chars t c h = rw append-nil at (run_chars p o (begun t.input) (c ∷ []) (both h refl))

  pub take_chars : (t : Text) (c : ℕ) → is_char c ≡ true → are_chars (take_of p o lines t c).out ≡ true
  take_chars t c h =
      by_take (λ x. are_chars x.out ≡ true) p o lines t c refl
      (λ l e. chars_append (stepped_of p o lines t c).out _ (step_chars t c h) (finish_chars_lem (stepped_of p o lines t c).next.input true))
      (step_chars t c h)

  pub passed_chars : (t : Text) (cs : List ℕ) → are_chars cs ≡ true → are_chars (passed_of p o lines t cs).out ≡ true
  passed_chars t [] h = refl
  passed_chars t (c ∷ cs) h =
      let g = both_true (is_char c) (are_chars cs) h in
      chars_append (take_of p o lines t c).out _ (take_chars t c g.0) (passed_chars (take_of p o lines t c).next cs g.1)

-- ---- what is counted
pub bit_le : (b : Bool) → bit b ≤ 1
bit_le true = omega arith
bit_le false = omega arith

-- no character is both 0D and a line end by itself
lost_once : (o : Options) (lines b : Bool) (c : ℕ) → bit (b && losable o lines c) + bit (b && eqb c 0x0D) ≤ 1
unfolding optional_line
lost_once o lines false c = omega arith
lost_once o lines true c =
    by (eqb c 0x0D) (λ e. let q = eqb-true c 0x0D e in rw q (omega arith)) (λ e. rw e (omega (arith, bit_le (losable o lines c))))

lost_before_lem : (cr : Bool) (c : ℕ) → lost_before cr c ≤ bit cr
lost_before_lem false c = omega arith
lost_before_lem true c = bit_le (not (eqb c 0x0A))

module _ (p : List ℕ) (o : Options) (lines : Bool) where
  take_dropped : (t : Text) (c : ℕ) → (take_of p o lines t c).dropped ≤ 1
  take_dropped t c =
      let h = bit_le (in_escape t.input.state c) in by_take (λ x. x.dropped ≤ 1) p o lines t c (omega arith) (λ l e. h) h

  pub passed_dropped : (t : Text) (cs : List ℕ) → (passed_of p o lines t cs).dropped ≤ length cs
  passed_dropped t [] = omega arith
  passed_dropped t (c ∷ cs) = omega (arith, take_dropped t c, passed_dropped (take_of p o lines t c).next cs)

  -- a line end that may be lost counts beforehand
  take_lost : (t : Text) (c : ℕ) → (take_of p o lines t c).lost + bit (take_of p o lines t c).next.cr ≤ 1 + bit t.cr
  take_lost t c =
      let b = lost_before_lem t.cr c in
      let l = lost_once o lines (in_escape t.input.state c) c in
      by_take (λ x. x.lost + bit x.next.cr ≤ 1 + bit t.cr) p o lines t c (omega arith) (λ g e. omega arith) (omega arith)

  pub passed_lost : (t : Text) (cs : List ℕ) →
      (passed_of p o lines t cs).lost + bit (passed_of p o lines t cs).next.cr ≤ length cs + bit t.cr
  passed_lost t [] = omega arith
  passed_lost t (c ∷ cs) = omega (arith, take_lost t c, passed_lost (take_of p o lines t c).next cs)

  pub counts_fit : (r : Cleaner) (bs : List ℕ) → length bs < 9223372036854775808 → Fits (leads p o lines (course_of r no_tally) bs).tally
  counts_fit r bs h =
      let q = pending_of r.pending in
      let n = room_one q bs in
      record {
        read = omega arith;
        replaced = omega (arith, replaced_le q bs, pending_short r.pending);
        dropped = omega (arith, passed_dropped r.text (outs_of q bs));
        lost = omega (arith, passed_lost r.text (outs_of q bs), bit_le r.text.cr);
      }

-- ---- sizes
-- the bytes of characters
abbrev bytes : List ℕ → ℕ
bytes cs = length (encode_all cs)

bytes_append : (cs ds : List ℕ) → bytes (cs ++ ds) ≡ bytes cs + bytes ds
bytes_append cs ds = ap length (encode_append cs ds) ∙ length-append (encode_all cs) (encode_all ds)

-- ---- what replaces a character has at most three times its size
-- the least size from a on, but for U+FFFD
abbrev least : ℕ → ℕ
least a = cond (ltb a 0x80) 1 (cond (ltb a 0x800) 2 3)

-- one row of the table: its answer has at most 3 bytes, or those that the least of its characters allows
row_fits : ℕ → ℕ → Replaced → Bool
row_fits a b v = leb (bytes (chars v)) 3 || (leb (bytes (chars v)) (3 * least a) && (ltb b 0xFFFD || ltb 0xFFFD a))

rows_fit : List (Row Replaced) → Bool
rows_fit [] = true
rows_fit (a to b gives v ∷ rs) = row_fits a b v && rows_fit rs

test : (units : Bool) → rows_fit (rows_by units) ≡ true
unfolding rows_fit row_fits encode_of
test true = refl
test false = refl

-- from a on, and not U+FFFD
least_size : (a c : ℕ) → a ≤ c → eqb c 0xFFFD ≡ false → least a ≤ size c
least_size a c h n =
    rw n
    (split (λ (k : ℕ). k ≤ length (encode_of c)) (ltb a 0x80) (λ e. (length_encode c).0)
    (λ e. split (λ (k : ℕ). k ≤ length (encode_of c)) (ltb a 0x800) (λ f. long2 c (omega (arith, ltb-false a 0x80 e)))
    (λ f. long3 c (omega (arith, ltb-false a 0x800 f)))))

row_size : (a b : ℕ) (v : Replaced) (c : ℕ) → row_fits a b v ≡ true → has (a to b) c ≡ true → bytes (chars v) ≤ 3 * size c
unfolding row_fits
row_size a b v c t h =
    let g = both_true (leb a c) (leb c b) h in
    let l = leb-true a c g.0 in
    let u = leb-true c b g.1 in
    ⊎_elim (λ e. omega (arith, leb-true (bytes (chars v)) 3 e, size_pos c))
    (λ e.
    let f = both_true (leb (bytes (chars v)) (3 * least a)) (ltb b 0xFFFD || ltb 0xFFFD a) e in
    let n : eqb c 0xFFFD ≡ false =
    ne_eqb c 0xFFFD
    (λ q. ⊎_elim (λ m. omega (arith, ltb-true b 0xFFFD m)) (λ m. omega (arith, ltb-true 0xFFFD a m))
    (or_cases (ltb b 0xFFFD) (ltb 0xFFFD a) f.1)) in
    omega (arith, leb-true (bytes (chars v)) (3 * least a) f.0, least_size a c l n))
    (or_cases (leb (bytes (chars v)) 3) (leb (bytes (chars v)) (3 * least a) && (ltb b 0xFFFD || ltb 0xFFFD a)) t)

rows_size : (rs : List (Row Replaced)) (d : Replaced) (c : ℕ) → rows_fit rs ≡ true → bytes (chars d) ≤ 3 * size c →
    bytes (chars (lookup rs d c)) ≤ 3 * size c
unfolding rows_fit
rows_size [] d c t h = h
rows_size (a to b gives v ∷ rs) d c t h =
    let g = both_true (row_fits a b v) (rows_fit rs) t in
    split (λ (x : Replaced). bytes (chars x) ≤ 3 * size c) (has (a to b) c) (λ e. row_size a b v c g.0 e)
    (λ e. rows_size rs d c g.1 h)

own_size : (c : ℕ) → bytes (c ∷ []) ≤ 3 * size c
unfolding encode_of
own_size c =
    by (eqb c 0xFFFD) (λ e. let q = eqb-true c 0xFFFD e in rw q (omega arith))
    (λ e. rw e (omega (arith, length-append (encode_of c) [])))

replaced_size : (units : Bool) (c : ℕ) → bytes (chars (replace_of units c)) ≤ 3 * size c
unfolding replace_of
replaced_size units c = rows_size (rows_by units) (One c) c (test units) (own_size c)

-- ---- what a text owes
abbrev lead_bytes : Option ℕ → ℕ
lead_bytes l = bytes (lead_chars l)

-- a pending character, which a finish would give
abbrev pending : State → ℕ
pending s = lead_bytes (scanner.pending_of s)

-- and n inside an escape
abbrev owes : ℕ → State → Bool → ℕ
owes n s expect = cond expect 2 (pending s) + cond (escaping s) n 0

abbrev owed : ℕ → TextInput → ℕ
owed n r = owes n r.state r.expect_starter

abbrev guard : Bool → ℕ
guard expect = cond expect 2 0

pending_one : (s : State) → pending s ≤ 1
unfolding encode_of
pending_one (Ground b) = omega arith
pending_one Cr = omega arith
pending_one Ff = omega arith
pending_one Esc = omega arith
pending_one CsiStart = omega arith
pending_one Csi = omega arith
pending_one Osc = omega arith
pending_one Linux = omega arith

-- an escape gives nothing
state_owes : (n : ℕ) → n ≤ 2 → (s : State) → pending s + cond (escaping s) n 0 ≤ 2
unfolding encode_of
state_owes n h (Ground b) = omega arith
state_owes n h Cr = omega arith
state_owes n h Ff = omega arith
state_owes n h Esc = omega arith
state_owes n h CsiStart = omega arith
state_owes n h Csi = omega arith
state_owes n h Osc = omega arith
state_owes n h Linux = omega arith

owes_guard : (n : ℕ) (s : State) (expect : Bool) → guard expect ≤ owes n s expect
owes_guard n s true = omega arith
owes_guard n s false = omega arith

owes_pending : (n : ℕ) (s : State) (expect : Bool) → pending s ≤ owes n s expect
owes_pending n s true = omega (arith, pending_one s)
owes_pending n s false = omega arith

owes_le : (n : ℕ) → n ≤ 2 → (s : State) (expect : Bool) → owes n s expect ≤ guard expect + 2
owes_le n h s true = omega (arith, state_owes n h s)
owes_le n h s false = state_owes n h s

owes_most : (n : ℕ) → n ≤ 2 → (s : State) (expect : Bool) → owes n s expect ≤ 2 + n
owes_most n h s true =
    let g : cond (escaping s) n 0 ≤ n = split (λ (k : ℕ). k ≤ n) (escaping s) (λ e. omega arith) (λ e. omega arith) in omega arith
owes_most n h s false = omega (arith, state_owes n h s)

-- ---- a step: what it appends, with what it leaves owed
out_bytes : (s : Step) → bytes (out_chars s) ≡ lead_bytes s.lead + bytes (image_chars s.image)
out_bytes s = bytes_append (lead_chars s.lead) (image_chars s.image)

module _ (n : ℕ) (small : n ≤ 2) where
  abbrev cost : Step → ℕ
  cost s = lead_bytes s.lead + bytes (image_chars s.image) + owes n s.next.state s.next.expect_starter

  module _ (p : List ℕ) (o : Options) (r : TextInput) (c bound : ℕ) where
    guard_cost : (lead : Option ℕ) (expect : Bool) (i : Replaced) → lead_bytes lead ≤ bound → guard expect ≤ bound →
        lead_bytes (guard_of p lead expect i) ≤ bound
    unfolding encode_of
    guard_cost lead true i l b = split (λ (g : Option ℕ). lead_bytes g ≤ bound) (basic_text_start p (first_char i)) (λ e. l) (λ e. b)
    guard_cost lead false i l b = l

    met_cost : (lead : Option ℕ) (expect : Bool) (m : Met) → lead_bytes lead ≤ bound →
        lead_bytes lead + guard expect ≤ bound + 1 → guard expect ≤ bound →
        cost (met_of p o r c lead expect m) ≤ 3 * size c + bound
    unfolding encode_of
    met_cost lead expect Line l a b = omega (arith, size_pos c)
    met_cost lead expect (Opens s) l a b = omega (arith, owes_le n small s expect, size_pos c)
    met_cost lead expect Other l a b = omega (arith, guard_cost lead expect (replaced_by o c) l b, replaced_size o.units_compatibility c)

  module _ (p : List ℕ) (o : Options) (r : TextInput) where
    -- the ground state takes c, and nothing was given before it
    free_cost : (c : ℕ) → cost (ground_of p o r c None r.expect_starter) ≤ 3 * size c + owed n r
    free_cost c =
        let g = owes_guard n r.state r.expect_starter in
        met_cost p o r c (owed n r) None r.expect_starter (meet_of o c) (omega arith) (omega arith) g

    left_cost : (c : ℕ) (l : Left) → Given r.state l → cost (left_of p o r c l) ≤ 3 * size c + owed n r
    unfolding encode_of
    left_cost c (Part s) h =
        omega (arith, owes_le n small s r.expect_starter, owes_guard n r.state r.expect_starter, size_pos c)
    left_cost c Newline h = omega (arith, size_pos c)
    left_cost c Goes h = free_cost c
    left_cost c Ends h = free_cost c
    left_cost c (After a) h =
        let e : lead_bytes (Some a) ≡ pending r.state = ap lead_bytes (sym h) in
        let q = owes_pending n r.state r.expect_starter in
        met_cost p o r c (owed n r) (Some a) false (meet_of o c) (omega arith) (omega arith) (omega arith)
    left_cost c Dropped h = met_cost p o r c (owed n r) None false (meet_of o c) (omega arith) (omega arith) (omega arith)

    step_cost : (c : ℕ) → cost (scan_step_of p o r c) ≤ 3 * size c + owed n r
    unfolding scan_step_of
    step_cost c = left_cost c (leave_of r.state c) (given_pending r.state c)

-- ---- a finish: a pending character is 0A or 20, which are ends, so that no 34F follows it
mark_two : (last : ℕ) → lead_bytes (end_mark_of last) ≤ 2
unfolding encode_of
mark_two last = split (λ (l : Option ℕ). lead_bytes l ≤ 2) (basic_text_end last) (λ e. omega arith) (λ e. omega arith)

newline_one : (b : Bool) → lead_bytes (newline_of b) ≤ 1
unfolding encode_of
newline_one true = omega arith
newline_one false = omega arith

tail_three : (last : ℕ) (b : Bool) → bytes (lead_chars (end_mark_of last) ++ lead_chars (newline_of b)) ≤ 3
tail_three last b = omega (arith, bytes_append (lead_chars (end_mark_of last)) (lead_chars (newline_of b)), mark_two last, newline_one b)

after_end : (a : ℕ) (b : Bool) → basic_text_end a ≡ true → bytes (lead_chars (end_mark_of a) ++ lead_chars (newline_of b)) ≤ 1
after_end a b e = rw e (newline_one b)

ending_bytes : (s : State) (last : ℕ) (b : Bool) →
    bytes (lead_chars (scanner.pending_of s)
    ++ (lead_chars (end_mark_of (last_of last (lead_chars (scanner.pending_of s)))) ++ lead_chars (newline_of b))) ≤ 3
unfolding encode_of
ending_bytes Cr last b = omega (arith, after_end 0x0A b end_newline)
ending_bytes Ff last b = omega (arith, after_end 0x20 b end_space)
ending_bytes (Ground x) last b = tail_three last b
ending_bytes Esc last b = tail_three last b
ending_bytes CsiStart last b = tail_three last b
ending_bytes Csi last b = tail_three last b
ending_bytes Osc last b = tail_three last b
ending_bytes Linux last b = tail_three last b

finish_bytes : (r : TextInput) (eof : Bool) → bytes (finish_chars r eof) ≤ 3
finish_bytes r eof = ending_bytes r.state r.last (eof && not (after_line r.state))

-- ---- 0A that ends its text: nothing is owed after it, unless an escape takes it
-- an escape alone goes on with 0A, and 0D or a page run before it gives nothing more
abbrev Lined : State → Left → Type 0
Lined s (Part t) = escaping s ≡ true
Lined s Newline = Unit {0}
Lined s Goes = Unit {0}
Lined s Ends = Unit {0}
Lined s (After a) = ⊥
Lined s Dropped = Unit {0}

lined : (s : State) → Lined s (leave_of s 0x0A)
unfolding leave_of parameter final string_end up_to7_f newline_char
lined (Ground b) = tt
lined Cr = tt
lined Ff = tt
lined Esc = tt
lined CsiStart = tt
lined Csi = tt
lined Osc = refl
lined Linux = refl

module _ (p : List ℕ) (o : Options) (r : TextInput) where
  -- what 0A appends, and then the end of its text
  abbrev ended : Step → ℕ
  ended s = bytes (out_chars s) + bytes (finish_chars s.next true)

  after_newline : ended (made_of r None (Some (One 0x0A)) (Ground true) false) ≤ 1
  unfolding encode_of
  after_newline = rw end_newline (omega arith)

  line_left : (l : Left) → Lined r.state l → ended (left_of p o r 0x0A l) ≤ 1 + owed 2 r
  unfolding meet_of
  line_left (Part s) h =
      let e : ◌≡◌ {A = ℕ} (cond (escaping r.state) 2 0) 2 = rw h in omega (arith, finish_bytes (left_of p o r 0x0A (Part s)).next true)
  line_left Newline h = omega (arith, after_newline)
  line_left Goes h = omega (arith, after_newline)
  line_left Ends h = omega (arith, after_newline)
  line_left (After a) h = absurd h
  line_left Dropped h = omega (arith, after_newline)

  line_cost : ended (scan_step_of p o r 0x0A) ≤ 1 + owed 2 r
  unfolding scan_step_of
  line_cost = line_left (leave_of r.state 0x0A) (lined r.state)

-- ---- characters of a text, where lines are texts of their own only if escapes owe two
module _ (n : ℕ) (small : n ≤ 2) (p : List ℕ) (o : Options) (lines : Bool) (line : lines ≡ true → n ≡ 2) where
  stepped_room : (t : Text) (c : ℕ) →
      bytes (stepped_of p o lines t c).out + owed n (stepped_of p o lines t c).next.input ≤ 3 * size c + owed n t.input
  stepped_room t c =
      let s = scan_step_of p o (begun t.input) c in omega (arith, out_bytes s, step_cost n small p o (begun t.input) c)

  take_room : (t : Text) (c : ℕ) →
      bytes (take_of p o lines t c).out + owed n (take_of p o lines t c).next.input ≤ 3 * size c + owed n t.input
  take_room t c =
      by_take (λ x. bytes x.out + owed n x.next.input ≤ 3 * size c + owed n t.input) p o lines t c (omega arith)
      (λ l e.
      let k = line l in
      let s = scan_step_of p o (begun t.input) 0x0A in
      rw (e, k) (omega (arith, bytes_append (out_chars s) (finish_chars s.next true), line_cost p o (begun t.input), size_pos 0x0A)))
      (stepped_room t c)

  passed_room : (t : Text) (cs : List ℕ) →
      bytes (passed_of p o lines t cs).out + owed n (passed_of p o lines t cs).next.input ≤ 3 * sizes cs + owed n t.input
  passed_room t [] = omega arith
  passed_room t (c ∷ cs) =
      let x : Passed = take_of p o lines t c in
      omega (arith, bytes_append x.out (passed_of p o lines x.next cs).out, take_room t c, passed_room x.next cs)

  passed_most : (t : Text) (cs : List ℕ) → bytes (passed_of p o lines t cs).out ≤ 3 * sizes cs + (2 + n)
  passed_most t cs = omega (arith, passed_room t cs, owes_most n small t.input.state t.input.expect_starter)

-- ---- calls
pub bytes_room : (p : List ℕ) (o : Options) (lines : Bool) (r : Cleaner) (t : Tally) (bs : List ℕ) →
    length ((gives) p o lines (course_of r t) bs) ≤ places_for_bytes (length bs)
bytes_room p o lines r t [] = omega arith
bytes_room p o lines r t (b ∷ bs) =
    let q = pending_of r.pending in
    omega (
      arith,
      passed_most 2 (omega arith) p o lines (λ l. refl) r.text (outs_of q (b ∷ bs)),
      outs_size q (b ∷ bs),
      pending_short r.pending,
    )

pub last_room : (r : Cleaner) (p : List ℕ) (o : Options) (eof : Bool) → length (encode_all (call.finish_passed r p o eof).out) ≤ 8
last_room r p o eof =
    let q = pending_of r.pending in
    let x : Passed = passed_of p o false r.text (decoder.finish_of q) in
    omega (
      arith,
      bytes_append x.out (finish_chars x.next.input eof),
      passed_most 0 (omega arith) p o false (λ l. never l) r.text (decoder.finish_of q),
      finish_size q,
      finish_bytes x.next.input eof,
    )
