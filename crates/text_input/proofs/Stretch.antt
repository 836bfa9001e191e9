-- A stretch of characters that the scanner appends as they come: from the ground state, with no start expected, a newline or a plain
-- character is its own output and leads back there. So a run of them is its own output, and only the last one sets the record.
--     keep_step                  one such character
--     keeps_outs, keeps_ends     a run of them
--     Keeps, keeps               a stretch of a chunk, by what was found
--     kept_room, kept_moves      `advance` over such a stretch
--     turn_room, turn_moves      and over one character
--     ran_is                     an answer by its parts
use Prim.Native.Nat.{ℕ, suc, ◌+◌, ◌-◌, ◌≤◌, ◌<◌}
use mathlib.Core.Bool.{Bool, true, false, true≢false, ◌&&◌}
use mathlib.Core.List.{List, [], ◌∷◌, append-nil}
use mathlib.Core.Path.{◌≡◌, refl, sym, ap, ◌∙◌}
use native.Mathlib.Omega.{arith}
use lib.Dec.{eqb}
use lib.ListN.{length, drop, get_or, length-append}
use lib.Seq.{drop-cons}
use borrow.Author.Tests.{eqb-true, ne_eqb, not-true}
use Rattle.replace.specs.declared.Replaced.TheVariants.{One}
use Rattle.replace.specs.Table.{in_spans}
use Rattle.common.proofs.Kit.{both_true, by_lt}
use Rattle.ranges.specs.declared.Range.{Range}
use Rattle.stretch.specs.declared.Sought.{Sought}
use Rattle.stretch.specs.Stretch.{in_sought, Stretch, part}
use Rattle.stretch.specs.Plain.{special, Gap, ascii_or}
use Rattle.stretch.proofs.Clear.{Kept, sought_kept}
use Rattle.stretch.proofs.Parts.{cut, part_length, part_at, part_one}
use Rattle.text_input.specs.declared.State.{State}
use Rattle.text_input.specs.declared.State.TheVariants.{Ground, Cr, Ff, Esc, CsiStart, Csi, Osc, Linux}
use Rattle.text_input.specs.declared.Options.{Options}
use Rattle.text_input.specs.declared.TextInput.{TextInput}
use Rattle.text_input.specs.declared.step.Left.TheVariants.{Goes}
use Rattle.text_input.specs.declared.step.Met.TheVariants.{Line, Other}
use Rattle.text_input.specs.Sets.{optional_line}
use Rattle.text_input.specs.declared.step.Step.{Step}
use Rattle.text_input_parts.specs.Appended.{last_of, stored_if, limit_of}
use Rattle.text_input.specs.Step.{scan_step_of, out_chars, leave_of, meet_of}
use Rattle.text_input.specs.declared.Ran.{Ran}
use Rattle.text_input.specs.Scan.{Effect, step_effect, run_of}
use Rattle.text_input.specs.Inner.{outs, ends, grounded, steady, passed_by, ran_by, Moves}
use Rattle.text_input.proofs.Chunks.{outs_append}
use Rattle.std.specs.Prelude.{None, Some}

-- ---- one character
leave_ground : (s : State) (c : ℕ) → grounded s ≡ true → leave_of s c ≡ Goes
unfolding leave_of
leave_ground (Ground b) c h = refl
leave_ground Cr c h = search h
leave_ground Ff c h = search h
leave_ground Esc c h = search h
leave_ground CsiStart c h = search h
leave_ground Csi c h = search h
leave_ground Osc c h = search h
leave_ground Linux c h = search h

steady_is : (r : TextInput) → steady r ≡ true → (grounded r.state ≡ true) × (r.expect_starter ≡ false)
steady_is r s = let x = both_true _ _ s in (x.0, not-true r.expect_starter x.1)

-- no line end, page character or ESC
module _ (c : ℕ) (h : in_spans special c ≡ false) where
  differs : (k : ℕ) → in_spans special k ≡ true → eqb c k ≡ false
  differs k t = ne_eqb c k (λ e. true≢false (sym t ∙ (rw e at h)))

  meet_other : (o : Options) → meet_of o c ≡ Other
  unfolding meet_of optional_line
  meet_other o =
      simp (differs 0xa refl, differs 0xd refl, differs 0xc refl, differs 0x1b refl, differs 0x85 refl, differs 0x2028 refl, differs 0x2029 refl)

meet_line : (o : Options) → meet_of o 0x0A ≡ Line
unfolding meet_of
meet_line o = refl

module _ (p : List ℕ) (o : Options) where
  abbrev Keeping : TextInput → ℕ → Type 0
  Keeping r c = scan_step_of p o r c ≡ record { lead = None; image = Some (One c); next = passed_by r c }

  keep_by : (r : TextInput) (c : ℕ) → steady r ≡ true → Kept c → (b : Bool) → eqb c 0x0A ≡ b → Keeping r c
  unfolding scan_step_of
  keep_by r c s k true e =
      let x = steady_is r s in
      let q : c ≡ 0x0A = eqb-true c 0x0A e in
      simp (q, leave_ground r.state 0x0A x.0, x.1, meet_line o)
  keep_by r c s k false e =
      let x = steady_is r s in
      let y = k e in
      simp (leave_ground r.state c x.0, x.1, meet_other c y.other o, y.same o.units_compatibility, e)

  pub keep_step : (r : TextInput) (c : ℕ) → steady r ≡ true → Kept c → Keeping r c
  keep_step r c s k = keep_by r c s k (eqb c 0x0A) refl

  -- ---- a run of them
  pub keeps_outs : (xs : List ℕ) (r : TextInput) → steady r ≡ true → ((x : ℕ) → x < length xs → Kept (get_or xs x 0)) → outs p o r xs ≡ xs
  keeps_outs [] r s h = refl
  keeps_outs (c ∷ xs) r s h =
      rw (keep_step r c s (h 0 (omega arith))) (ap (λ l. c ∷ l) (keeps_outs xs (passed_by r c) refl (λ x l. h (suc x) (omega arith))))

  ends_last : (c : ℕ) (xs : List ℕ) (r : TextInput) → steady r ≡ true → ((x : ℕ) → x < length (c ∷ xs) → Kept (get_or (c ∷ xs) x 0)) →
      ends p o r (c ∷ xs) ≡ passed_by r (last_of c xs)
  ends_last c [] r s h = ap (λ (st : Step). st.next) (keep_step r c s (h 0 (omega arith)))
  ends_last c (d ∷ xs) r s h =
      ap (λ (st : Step). ends p o st.next (d ∷ xs)) (keep_step r c s (h 0 (omega arith)))
      ∙ ends_last d xs (passed_by r c) refl (λ x l. h (suc x) (omega arith))

  last_at : (c : ℕ) (xs : List ℕ) → last_of c xs ≡ get_or (c ∷ xs) (length xs) 0
  last_at c [] = refl
  last_at c (d ∷ xs) = last_at d xs

  pub keeps_ends : (xs : List ℕ) (n : ℕ) (r : TextInput) → length xs ≡ suc n → steady r ≡ true → ((x : ℕ) → x < length xs → Kept (get_or xs x 0)) →
      ends p o r xs ≡ passed_by r (get_or xs n 0)
  keeps_ends [] n r e s h = absurd (omega arith)
  keeps_ends (c ∷ xs) n r e s h =
      let q : length xs ≡ n = omega arith in
      ends_last c xs r s h ∙ ap (passed_by r) (last_at c xs) ∙ rw q

-- ---- a stretch that is kept
-- nothing is pending, no start is expected, and all from place i up to place j are newlines or plain
pub record Keeps (r : TextInput) (chunk : List ℕ) (i j : ℕ) : Type 0 where
  pub more : i < j
  pub low : j ≤ length chunk
  pub ready : steady r ≡ true
  pub kept : (x : ℕ) → i ≤ x → x < j → Kept (get_or chunk x 0)

-- the character at i is sought, and so are those of a stretch behind it, as the calls of `advance` find
pub keeps : (r : TextInput) (chunk : List ℕ) (i j : ℕ) (gap : Range) (q : Sought) (ready sought : Bool) → ready && sought ≡ true → ready ≡ steady r
    → q ≡ ascii_or gap → sought ≡ in_sought q (get_or chunk i 0) → Gap gap → Stretch (ascii_or gap) chunk (i + 1) j → Keeps r chunk i j
keeps r chunk i j gap q ready sought t e f n g v =
    let b = both_true ready sought t in
    let h : in_sought (ascii_or gap) (get_or chunk i 0) ≡ true = rw f at (sym n ∙ b.1) in
    record {
      more = omega (arith, v.on);
      low = v.low;
      ready = sym e ∙ b.0;
      kept = λ x l m.
          sought_kept gap g (get_or chunk x 0)
          (by_lt x (i + 1) (λ e. let q : x ≡ i = omega arith in rw q h) (λ e. v.each x e m));
    }

module _ (p : List ℕ) (o : Options) (r : TextInput) (chunk : List ℕ) (i j : ℕ) (k : Keeps r chunk i j) where
  each : (x : ℕ) → x < length (part i j chunk) → Kept (get_or (part i j chunk) x 0)
  each x l =
      let n = part_length chunk i j (omega (arith, k.more)) k.low in
      let h : x < j - i = omega (arith, n) in
      rw (part_at chunk i j (omega (arith, k.more)) x h) (k.kept (i + x) (omega arith) (omega arith))

  kept_outs : outs p o r (part i j chunk) ≡ part i j chunk
  kept_outs = keeps_outs p o (part i j chunk) r k.ready each

  kept_ends : ends p o r (part i j chunk) ≡ passed_by r (get_or chunk (j - 1) 0)
  kept_ends =
      let n = part_length chunk i j (omega (arith, k.more)) k.low in
      let e : i + (j - i - 1) ≡ j - 1 = omega arith in
      keeps_ends p o (part i j chunk) (j - i - 1) r (omega (arith, n)) k.ready each
      ∙ ap (passed_by r) (part_at chunk i j (omega (arith, k.more)) (j - i - 1) (omega arith) ∙ ap (λ x. get_or chunk x 0) e)

-- equal parts make equal answers
pub ran_is : {m n : ℕ} {x y : TextInput} → m ≡ n → x ≡ y → ◌≡◌ {A = Ran} (record { written = m; next = x }) (record { written = n; next = y })
ran_is h g = λ i. record { written = h i; next = g i }

-- ---- one turn of `advance`: a stretch that is kept, or one character
module _ (p : List ℕ) (o : Options) (r : TextInput) (chunk : List ℕ) (i : ℕ) (stores : Bool) (queue : List ℕ) (k : ℕ) where
  abbrev Room : Type 0
  Room = k + length (outs p o r (drop i chunk)) ≤ limit_of stores queue

  module _ (j : ℕ) (v : Keeps r chunk i j) where
    pub kept_room : Room → k + length (part i j chunk) ≤ limit_of stores queue
    kept_room room =
        let e = ap (outs p o r) (cut chunk i j (omega (arith, v.more))) ∙ outs_append p o r (part i j chunk) (drop j chunk) in
        let n = ap length e ∙ length-append (outs p o r (part i j chunk)) (outs p o (ends p o r (part i j chunk)) (drop j chunk)) in
        let m = ap length (kept_outs p o r chunk i j v) in
        omega (arith, n, m)

    pub kept_moves : (gap : Range) → Gap gap → (next : TextInput) → next ≡ passed_by r (get_or chunk (j - 1) 0) →
        (after : List ℕ) → after ≡ stored_if stores queue k (part i j chunk) →
        Moves p o r chunk i stores queue k (record { at = j; written = k + (j - i); next = next; gap = gap }) after
    kept_moves gap ps next e after a =
        let q = kept_outs p o r chunk i j v in
        let n = part_length chunk i j (omega (arith, v.more)) v.low in
        record {
          on = v.more;
          low = v.low;
          ran = ran_is (omega (arith, n, ap length q)) (e ∙ sym (kept_ends p o r chunk i j v));
          places = rw q a;
          gap = ps;
        }

  module _ (here : i < length chunk) where
    abbrev step : Step
    step = scan_step_of p o r (get_or chunk i 0)

    one_run : run_of p o r (part i (i + 1) chunk) ≡ step_effect step
    one_run = rw (part_one chunk i here, append-nil)

    pub turn_room : Room → k + length (out_chars step) ≤ limit_of stores queue
    turn_room room =
        let e = ap (outs p o r) (drop-cons chunk i 0 here) in
        let n = ap length e ∙ length-append (out_chars step) (outs p o step.next (drop (suc i) chunk)) in
        omega (arith, n)

    pub turn_moves : (gap : Range) → Gap gap → (t : Ran) → t ≡ ran_by k (step_effect step) → (after : List ℕ) → after ≡ stored_if stores queue k (out_chars step) →
        Moves p o r chunk i stores queue k (record { at = i + 1; written = t.written; next = t.next; gap = gap }) after
    turn_moves gap ps t e after a =
        record {
          on = omega arith;
          low = omega arith;
          ran = e ∙ ap (ran_by k) (sym one_run);
          places = a ∙ ap (λ (x : Effect). stored_if stores queue k x.out) (sym one_run);
          gap = ps;
        }
