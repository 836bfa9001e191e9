-- A stretch of assigned characters where nothing is owed: each is given out as it is, and only the last one sets the record.
--     either_assigned              what is in one of two ranges of assigned characters is assigned
--     keep_step                    one assigned character, where nothing is owed
--     keeps_gives, keeps_leads     a run of them
--     isolated_append              a run in two parts
--     leads_append                 and the record after it
--     kept_room, kept_moves        `advance` over a stretch
--     turn_room, turn_moves        and over one character
use Prim.Native.Nat.{ℕ, suc, ◌+◌, ◌-◌, ◌≤◌, ◌<◌}
use mathlib.Core.Bool.{true, false}
use mathlib.Core.List.{List, [], ◌∷◌, ◌++◌, append-nil, append_assoc}
use mathlib.Core.Logic.{⊎_elim}
use mathlib.Core.Path.{◌≡◌, refl, sym, ap, ◌∙◌}
use native.Mathlib.Omega.{arith}
use lib.Dec.{eqb}
use lib.ListN.{length, drop, get_or, length-append}
use lib.Seq.{sets, drop-cons}
use Rattle.common.proofs.Kit.{never, or_cases, by_lt}
use Rattle.ranges.specs.declared.Range.{Range}
use Rattle.page.specs.Page.{assigned}
use Rattle.page.specs.Inner.{Assigned}
use Rattle.stretch.specs.Stretch.{in_sought, either_of, Stretch, part}
use Rattle.stretch.proofs.Seeking.{none_in_gap}
use Rattle.stretch.proofs.Parts.{cut, part_length, part_at, part_one}
use Rattle.isolate_unassigned.specs.declared.IsolateUnassigned.{IsolateUnassigned}
use Rattle.isolate_unassigned.specs.declared.Isolated.{Isolated}
use Rattle.isolate_unassigned.specs.declared.Isolated.TheVariants.{One}
use Rattle.isolate_unassigned.specs.Meaning.{to_isolate}
use Rattle.isolate_unassigned.specs.Inner.{isolator_of, isolate_step_of, gives_out, after, isolated_from, gives, leads, Moves}

module _ (p : List ℕ) (base near : Range) (a : Assigned p base) (b : Assigned p near) (c : ℕ) where
  pub either_assigned : in_sought (either_of base near) c ≡ true → assigned p c ≡ true
  either_assigned h =
      ⊎_elim (λ t. ⊎_elim (λ u. a c u) (λ u. b c u) (or_cases _ _ t)) (λ t. never (sym (none_in_gap c) ∙ t)) (or_cases _ _ h)

module _ (p : List ℕ) where
  pub keep_step : (r : IsolateUnassigned) (c : ℕ) → r.need_cgj ≡ false → assigned p c ≡ true →
      isolate_step_of p r c ≡ One c (isolator_of false (eqb c 0x34F))
  unfolding isolate_step_of to_isolate
  keep_step r c n a = simp (n, a)

  pub keeps_gives : (xs : List ℕ) (r : IsolateUnassigned) → r.need_cgj ≡ false → ((x : ℕ) → x < length xs → assigned p (get_or xs x 0) ≡ true) → gives p r xs ≡ xs
  keeps_gives [] r n h = refl
  keeps_gives (c ∷ xs) r n h =
      rw (keep_step r c n (h 0 (omega arith))) (ap (λ l. c ∷ l) (keeps_gives xs (isolator_of false (eqb c 0x34F)) refl (λ x l. h (suc x) (omega arith))))

  pub keeps_leads : (xs : List ℕ) (n : ℕ) (r : IsolateUnassigned) → length xs ≡ suc n → r.need_cgj ≡ false → ((x : ℕ) → x < length xs → assigned p (get_or xs x 0) ≡ true) →
      leads p r xs ≡ isolator_of false (eqb (get_or xs n 0) 0x34F)
  keeps_leads [] n r e f h = absurd (omega arith)
  keeps_leads (c ∷ []) n r e f h =
      let q : n ≡ 0 = omega arith in
      ap after (keep_step r c f (h 0 (omega arith))) ∙ rw q
  keeps_leads (c ∷ d ∷ xs) n r e f h =
      let q : n ≡ suc (length xs) = omega arith in
      ap (λ (s : Isolated). leads p (after s) (d ∷ xs)) (keep_step r c f (h 0 (omega arith)))
      ∙ keeps_leads (d ∷ xs) (length xs) (isolator_of false (eqb c 0x34F)) refl refl (λ x l. h (suc x) (omega arith)) ∙ rw q

  pub isolated_append : (xs ys : List ℕ) (r : IsolateUnassigned) → isolated_from p r (xs ++ ys) ≡ gives p r xs ++ isolated_from p (leads p r xs) ys
  isolated_append [] ys r = refl
  isolated_append (c ∷ xs) ys r = simp (isolated_append xs ys (after (isolate_step_of p r c)), append_assoc)

  pub leads_append : (xs ys : List ℕ) (r : IsolateUnassigned) → leads p r (xs ++ ys) ≡ leads p (leads p r xs) ys
  leads_append [] ys r = refl
  leads_append (c ∷ xs) ys r = leads_append xs ys (after (isolate_step_of p r c))

-- ---- `advance`: a stretch that is kept, or one character
module _ (p : List ℕ) (r : IsolateUnassigned) (cs : List ℕ) (i : ℕ) (out : List ℕ) (k : ℕ) where
  abbrev Room : Type 0
  Room = k + length (isolated_from p r (drop i cs)) ≤ length out

  -- the character at i is assigned, nothing is owed, and behind it stands a stretch
  module _ (base near : Range) (a : Assigned p base) (b : Assigned p near) (j : ℕ) (here : assigned p (get_or cs i 0) ≡ true) (free : r.need_cgj ≡ false) (v : Stretch (either_of base near) cs (i + 1) j) where
    size : length (part i j cs) ≡ j - i
    size = part_length cs i j (omega (arith, v.on)) v.low

    each : (x : ℕ) → x < length (part i j cs) → assigned p (get_or (part i j cs) x 0) ≡ true
    each x l =
        let h : x < j - i = omega (arith, size) in
        rw (part_at cs i j (omega (arith, v.on)) x h)
        (by_lt x 1 (λ e. let q : i + x ≡ i = omega arith in rw q here)
        (λ g. either_assigned p base near a b (get_or cs (i + x) 0) (v.each (i + x) (omega arith) (omega arith))))

    kept_gives : gives p r (part i j cs) ≡ part i j cs
    kept_gives = keeps_gives p (part i j cs) r free each

    kept_leads : leads p r (part i j cs) ≡ isolator_of false (eqb (get_or cs (j - 1) 0) 0x34F)
    kept_leads =
        let e : i + (j - i - 1) ≡ j - 1 = omega (arith, v.on) in
        keeps_leads p (part i j cs) (j - i - 1) r (omega (arith, size)) free each
        ∙ ap (λ (c : ℕ). isolator_of false (eqb c 0x34F)) (part_at cs i j (omega (arith, v.on)) (j - i - 1) (omega arith) ∙ ap (λ x. get_or cs x 0) e)

    pub kept_room : Room → k + length (part i j cs) ≤ length out
    kept_room room =
        let e = ap (isolated_from p r) (cut cs i j (omega (arith, v.on))) ∙ isolated_append p (part i j cs) (drop j cs) r in
        let n = ap length e ∙ length-append (gives p r (part i j cs)) (isolated_from p (leads p r (part i j cs)) (drop j cs)) in
        let m = ap length kept_gives in
        omega (arith, n, m)

    pub kept_moves : (places : List ℕ) → places ≡ sets out k (part i j cs) →
        Moves p r cs i out k (record { at = j; written = k + (j - i); next = isolator_of false (eqb (get_or cs (j - 1) 0) 0x34F); near = near }) places
    kept_moves places e =
        record {
          on = omega (arith, v.on);
          under = v.low;
          written = rw kept_gives (ap (λ n. k + n) (sym size));
          next = sym kept_leads;
          places = rw kept_gives e;
          near = b;
        }

  module _ (here : i < length cs) where
    abbrev step : Isolated
    step = isolate_step_of p r (get_or cs i 0)

    one_gives : gives p r (part i (i + 1) cs) ≡ gives_out step
    one_gives = rw (part_one cs i here, append-nil)

    pub turn_room : Room → k + length (gives_out step) ≤ length out
    turn_room room =
        let e = ap (isolated_from p r) (drop-cons cs i 0 here) in
        let n = ap length e ∙ length-append (gives_out step) (isolated_from p (after step) (drop (suc i) cs)) in
        omega (arith, n)

    pub turn_moves : (near : Range) → Assigned p near → (w : ℕ) → w ≡ k + length (gives_out step) → (next : IsolateUnassigned) → next ≡ after step →
        (places : List ℕ) → places ≡ sets out k (gives_out step) →
        Moves p r cs i out k (record { at = i + 1; written = w; next = next; near = near }) places
    turn_moves near g w f next e places a =
        record {
          on = omega arith;
          under = omega arith;
          written = rw one_gives f;
          next = rw (part_one cs i here) e;
          places = rw one_gives a;
          near = g;
        }
