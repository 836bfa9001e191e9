-- The loop of `allowed_end`: all characters before the one at hand are allowed. Those of a stretch are newlines and plain characters, which
-- the check accepts and none of which is ESC.
--     Going        at the head of the loop
--     stretched    a stretch more
use Rattle.std.proofs.Common.{◌≡◌, ℕ, ◌+◌, ◌≤◌, ◌<◌, Bool, true, List, length, get_or, eqb, sym, ◌∙◌, arith}
use borrow.Author.Tests.{eqb-true, eq-eqb, ne_eqb}
use Rattle.common.proofs.Kit.{by, by_lt, never, both}
use Rattle.ranges.specs.declared.Range.{Range}
use Rattle.check_char.proofs.Clean.{accepted_newline}
use Rattle.stretch.specs.Stretch.{in_sought, Stretch}
use Rattle.stretch.specs.Plain.{Plain, Gap, ascii_or}
use Rattle.stretch.proofs.Clear.{sought_kept}
use Rattle.check_run.specs.Rules.{allowed}

plain_allowed : (c : ℕ) → Plain c → allowed c ≡ true
plain_allowed c p = both (eq-eqb _ _ p.accepted) (rw (ne_eqb c 0x1B (λ e. never (sym (rw e at p.other)))))

sought_allowed : (gap : Range) → Gap gap → (c : ℕ) → in_sought (ascii_or gap) c ≡ true → allowed c ≡ true
sought_allowed gap g c h =
    by (eqb c 0xa) (λ e. rw (eqb-true c 0xa e, accepted_newline)) (λ e. plain_allowed c (sought_kept gap g c h e))

pub record Going (cs : List ℕ) (gap : Range) (i : ℕ) : Type 0 where
  pub low : i ≤ length cs
  pub each : (x : ℕ) → x < i → allowed (get_or cs x 0) ≡ true
  pub plain : Gap gap

module _ (cs : List ℕ) (gap : Range) (i : ℕ) (g : Going cs gap i) where
  -- a stretch from i on, whose first character is known to be sought
  pub stretched : (b : Bool) → b ≡ true → b ≡ in_sought (ascii_or gap) (get_or cs i 0) → (j : ℕ) → Stretch (ascii_or gap) cs (i + 1) j → Going cs gap j
  stretched b t e j s = record { low = s.low; each = each; plain = g.plain }
    where
      each : (x : ℕ) → x < j → allowed (get_or cs x 0) ≡ true
      each x l =
          by_lt x i (λ h. g.each x h)
          (λ h. by_lt x (i + 1) (λ k. let same : x ≡ i = omega arith in sought_allowed gap g.plain _ (rw same (sym e ∙ t))) (λ k. sought_allowed gap g.plain _ (s.each x k l)))
