-- A text comes in chunks: scans one after the other append what one scan of the joined chunks appends, and leave its record. A run
-- goes over joined texts one after the other, and no step sees `at_start` and the count, in which alone a chunk's record differs
-- from the one before it.
--     run_append                           a run over joined texts; outs-append, ends-append: the same by its parts
--     marked, outs_marked, ends_marked     a run does not see `at_start` and the count
--     chunks_spent                         chunks on a record that has had a scan
--     chunks_first                         chunks on one that has not: the first of them loses its U+FEFF
--     spent_outs, spent_ends, first_ends   the same by runs
--     mark_dropped                         what a scan skips is a U+FEFF that begins the chunk
--     count_of                             all characters are counted
use Prim.Native.Nat.{ℕ, ◌+◌}
use mathlib.Core.Bool.{Bool, true, false, cond}
use mathlib.Core.List.{List, [], ◌∷◌, ◌++◌, append_assoc, flatten}
use mathlib.Core.Path.{◌≡◌, refl, ap, ap₂, sym, ◌∙◌}
use lib.Dec.{eqb}
use lib.ListN.{length, drop, length-append}
use native.Mathlib.Nat.{add_assoc}
use native.Mathlib.Omega.{arith}
use Rattle.text_input.specs.declared.Options.{Options}
use Rattle.text_input.specs.declared.TextInput.{TextInput}
use Rattle.text_input.specs.declared.step.Left.{Left}
use Rattle.text_input.specs.declared.step.Left.TheVariants.{Part, Newline, Goes, Ends, After, Dropped}
use Rattle.text_input.specs.declared.step.Met.{Met}
use Rattle.text_input.specs.declared.step.Met.TheVariants.{Line, Opens, Other}
use Rattle.text_input.specs.declared.step.Step.{Step}
use Rattle.text_input.specs.Step.{met_of, left_of, leave_of, meet_of, scan_step_of}
use Rattle.text_input.specs.Scan.{Effect, step_effect, joined, run_of, opened, leading_bom, skipped, scan_chars, scan_next}
use Rattle.text_input.specs.Inner.{outs, ends}
use Rattle.text_input.specs.Streams.{scans_chars, scans_next, without_bom}
use Rattle.text_input.proofs.Meaning.{ends_start}
use Rattle.std.specs.Prelude.{Option, Some, None}

-- ---- a run over joined texts
joined_assoc : (a b c : Effect) → joined a (joined b c) ≡ joined (joined a b) c
joined_assoc a b c = rw append_assoc

pub run_append : (p : List ℕ) (o : Options) (r : TextInput) (t u : List ℕ) →
    run_of p o r (t ++ u) ≡ joined (run_of p o r t) (run_of p o (ends p o r t) u)
run_append p o r [] u = refl
run_append p o r (c ∷ t) u =
    let s = scan_step_of p o r c in
    ap (joined (step_effect s)) (run_append p o s.next t u)
    ∙ joined_assoc (step_effect s) (run_of p o s.next t) (run_of p o (ends p o s.next t) u)

pub outs_append : (p : List ℕ) (o : Options) (r : TextInput) (t u : List ℕ) →
    outs p o r (t ++ u) ≡ outs p o r t ++ outs p o (ends p o r t) u
outs_append p o r t u = ap (λ (e : Effect). e.out) (run_append p o r t u)

pub ends_append : (p : List ℕ) (o : Options) (r : TextInput) (t u : List ℕ) → ends p o r (t ++ u) ≡ ends p o (ends p o r t) u
ends_append p o r t u = ap (λ (e : Effect). e.next) (run_append p o r t u)

-- ---- what a run does not see
-- the record with this `at_start` and this count
abbrev pub marked : TextInput → Bool → ℕ → TextInput
marked r start count =
    record { state = r.state; expect_starter = r.expect_starter; at_start = start; last = r.last; count = count }

abbrev marked_step : Step → Bool → ℕ → Step
marked_step s start count = record { lead = s.lead; image = s.image; next = marked s.next start count }

abbrev marked_run : Effect → Bool → ℕ → Effect
marked_run e start count = record { out = e.out; next = marked e.next start count }

-- ---- a chunk without a U+FEFF that begins it
dropped_by : (c : ℕ) (cs : List ℕ) (b : Bool) → drop (cond b 1 0) (c ∷ cs) ≡ cond b cs (c ∷ cs)
dropped_by c cs true = refl
dropped_by c cs false = refl

-- "U+FEFF is dropped only as the first character": what a scan skips
pub mark_dropped : (c : List ℕ) → drop (leading_bom c) c ≡ without_bom c
mark_dropped [] = refl
mark_dropped (c ∷ cs) = dropped_by c cs (eqb c 0xFEFF)

module _ (p : List ℕ) (o : Options) where
  met_marked : (r : TextInput) (start : Bool) (count c : ℕ) (lead : Option ℕ) (e : Bool) (m : Met) →
      met_of p o (marked r start count) c lead e m ≡ marked_step (met_of p o r c lead e m) start count
  met_marked r start count c lead e Line = refl
  met_marked r start count c lead e (Opens s) = refl
  met_marked r start count c lead e Other = refl

  left_marked : (r : TextInput) (start : Bool) (count c : ℕ) (l : Left) →
      left_of p o (marked r start count) c l ≡ marked_step (left_of p o r c l) start count
  left_marked r start count c (Part s) = refl
  left_marked r start count c Newline = refl
  left_marked r start count c Goes = met_marked r start count c None r.expect_starter (meet_of o c)
  left_marked r start count c Ends = met_marked r start count c None r.expect_starter (meet_of o c)
  left_marked r start count c (After a) = met_marked r start count c (Some a) false (meet_of o c)
  left_marked r start count c Dropped = met_marked r start count c None false (meet_of o c)

  step_marked : (r : TextInput) (start : Bool) (count c : ℕ) →
      scan_step_of p o (marked r start count) c ≡ marked_step (scan_step_of p o r c) start count
  unfolding scan_step_of
  step_marked r start count c = left_marked r start count c (leave_of r.state c)

  run_marked : (r : TextInput) (start : Bool) (count : ℕ) (t : List ℕ) →
      run_of p o (marked r start count) t ≡ marked_run (run_of p o r t) start count
  run_marked r start count [] = refl
  run_marked r start count (c ∷ t) =
      let s = scan_step_of p o r c in
      ap (λ (x : Step). joined (step_effect x) (run_of p o x.next t)) (step_marked r start count c)
      ∙ ap (joined (step_effect s)) (run_marked s.next start count t)

  pub outs_marked : (r : TextInput) (start : Bool) (count : ℕ) (t : List ℕ) → outs p o (marked r start count) t ≡ outs p o r t
  outs_marked r start count t = ap (λ (e : Effect). e.out) (run_marked r start count t)

  pub ends_marked : (r : TextInput) (start : Bool) (count : ℕ) (t : List ℕ) →
      ends p o (marked r start count) t ≡ marked (ends p o r t) start count
  ends_marked r start count t = ap (λ (e : Effect). e.next) (run_marked r start count t)

  -- ---- one scan, where the chunk without a dropped U+FEFF is t
  spent : (r : TextInput) → r.at_start ≡ false → (c : List ℕ) → drop (skipped r c) c ≡ c
  spent r h c = ap (λ b. drop (cond b (leading_bom c) 0) c) h

  unspent : (r : TextInput) → r.at_start ≡ true → (c : List ℕ) → drop (skipped r c) c ≡ without_bom c
  unspent r h c = ap (λ b. drop (cond b (leading_bom c) 0) c) h ∙ mark_dropped c

  scan_outs : (r : TextInput) (c t : List ℕ) → drop (skipped r c) c ≡ t → scan_chars p o r c ≡ outs p o r t
  scan_outs r c t h = ap (outs p o (opened r (length c))) h ∙ outs_marked r _ _ t

  scan_ends : (r : TextInput) (c t : List ℕ) → drop (skipped r c) c ≡ t →
      scan_next p o r c ≡ marked (ends p o r t) false (r.count + length c)
  scan_ends r c t h = ap (ends p o (opened r (length c))) h ∙ ends_marked r false (r.count + length c) t

  -- ---- a scan, and then scans that come to a run over the joined chunks
  then_outs : (r : TextInput) (c t : List ℕ) → drop (skipped r c) c ≡ t → (cs : List (List ℕ)) →
      scans_chars p o (scan_next p o r c) cs ≡ outs p o (scan_next p o r c) (flatten cs) →
      scans_chars p o r (c ∷ cs) ≡ outs p o r (t ++ flatten cs)
  unfolding scans_chars
  then_outs r c t h cs ih =
      ap (λ u. scan_chars p o r c ++ u) ih
      ∙ ap₂ (λ (u : List ℕ) (z : TextInput). u ++ outs p o z (flatten cs)) (scan_outs r c t h) (scan_ends r c t h)
      ∙ ap (λ u. outs p o r t ++ u) (outs_marked (ends p o r t) false (r.count + length c) (flatten cs))
      ∙ sym (outs_append p o r t (flatten cs))

  then_ends : (r : TextInput) (c t : List ℕ) → drop (skipped r c) c ≡ t → (cs : List (List ℕ)) →
      scans_next p o (scan_next p o r c) cs
      ≡ marked (ends p o (scan_next p o r c) (flatten cs)) false ((scan_next p o r c).count + length (flatten cs)) →
      scans_next p o r (c ∷ cs) ≡ marked (ends p o r (t ++ flatten cs)) false (r.count + (length c + length (flatten cs)))
  unfolding scans_next
  then_ends r c t h cs ih =
      ih
      ∙ ap (λ (z : TextInput). marked (ends p o z (flatten cs)) false (z.count + length (flatten cs))) (scan_ends r c t h)
      ∙ ap₂ (λ (z : TextInput) (n : ℕ). marked z false n)
      (ends_marked (ends p o r t) false (r.count + length c) (flatten cs))
      (add_assoc r.count (length c) (length (flatten cs)))
      ∙ ap (λ (z : TextInput). marked z false (r.count + (length c + length (flatten cs)))) (sym (ends_append p o r t (flatten cs)))

  -- ---- the chance is spent
  spent_again : (r : TextInput) (c : List ℕ) → (scan_next p o r c).at_start ≡ false
  spent_again r c = ends_start p o (opened r (length c)) (drop (skipped r c) c)

  same_marked : (r : TextInput) → r.at_start ≡ false → r ≡ marked r false (r.count + 0)
  same_marked r h =
      let z : r.count ≡ r.count + 0 = omega arith in
      λ i. record { state = r.state; expect_starter = r.expect_starter; at_start = h i; last = r.last; count = z i }

  pub spent_outs : (r : TextInput) → r.at_start ≡ false → (cs : List (List ℕ)) → scans_chars p o r cs ≡ outs p o r (flatten cs)
  unfolding flatten
  spent_outs r h [] = unfold scans_chars in refl
  spent_outs r h (c ∷ cs) = then_outs r c c (spent r h c) cs (spent_outs (scan_next p o r c) (spent_again r c) cs)

  pub spent_ends : (r : TextInput) → r.at_start ≡ false → (cs : List (List ℕ)) →
      scans_next p o r cs ≡ marked (ends p o r (flatten cs)) false (r.count + length (flatten cs))
  unfolding flatten
  spent_ends r h [] = unfold scans_next in same_marked r h
  spent_ends r h (c ∷ cs) =
      rw (length-append c (flatten cs))
      (then_ends r c c (spent r h c) cs (spent_ends (scan_next p o r c) (spent_again r c) cs))

  -- chunks on a record that has had a scan
  pub chunks_spent : (r : TextInput) → r.at_start ≡ false → (cs : List (List ℕ)) →
      scans_chars p o r cs ≡ scan_chars p o r (flatten cs)
  chunks_spent r h cs = spent_outs r h cs ∙ sym (scan_outs r (flatten cs) (flatten cs) (spent r h (flatten cs)))

  -- ---- the chance is there: the first chunk loses its U+FEFF
  pub chunks_first : (r : TextInput) → r.at_start ≡ true → (c : List ℕ) (cs : List (List ℕ)) →
      scans_chars p o r (c ∷ cs) ≡ outs p o r (without_bom c ++ flatten cs)
  chunks_first r h c cs = then_outs r c (without_bom c) (unspent r h c) cs (spent_outs (scan_next p o r c) (spent_again r c) cs)

  pub first_ends : (r : TextInput) → r.at_start ≡ true → (c : List ℕ) (cs : List (List ℕ)) →
      scans_next p o r (c ∷ cs) ≡ marked (ends p o r (without_bom c ++ flatten cs)) false (r.count + (length c + length (flatten cs)))
  first_ends r h c cs = then_ends r c (without_bom c) (unspent r h c) cs (spent_ends (scan_next p o r c) (spent_again r c) cs)

  -- ---- all characters are counted
  pub count_of : (r : TextInput) (cs : List (List ℕ)) → (scans_next p o r cs).count ≡ r.count + length (flatten cs)
  unfolding flatten
  count_of r [] = unfold scans_next in omega arith
  count_of r (c ∷ cs) =
      rw (length-append c (flatten cs))
      (ap (λ (z : TextInput). z.count) (then_ends r c (drop (skipped r c) c) refl cs (spent_ends (scan_next p o r c) (spent_again r c) cs)))
