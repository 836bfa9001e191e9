-- `text_utils::is_basic_text_start` meets its contract: what is no starter is no start; below 300, and from 309B to A66E, a starter is a
-- start, and elsewhere the lists say it.
use mathlib.Core.Path.{◌≡◌, refl, sym, ◌∙◌}
use mathlib.Core.Bool.{Bool, true, false}
use mathlib.Core.List.{List}
use Prim.Native.Nat.{ℕ}
use native.Mathlib.Omega.{arith}
use Rattle.text_utils.specs.Classes.{starter, basic_text_start}
use Rattle.text_utils.proofs.Classes.{start_low, start_clear}
use Rattle.text_utils.proofs.is_basic_text_start.Goals as goal

module _ (p : List ℕ) (c : ℕ) {r : Bool} (e : r ≡ starter p c) where
  no_start : r ≡ false → false ≡ basic_text_start p c
  unfolding basic_text_start
  no_start h = let s : starter p c ≡ false = sym e ∙ h in rw s refl

  is-a-starter : r ≡ true → starter p c ≡ true
  is-a-starter h = sym e ∙ h

pub returns-then-not-is_starter : goal.returns-then-not-is_starter
returns-then-not-is_starter c = no_start _ _ c.is_starter.ensures c.if-not-is_starter.true

pub returns-then-c-lt768 : goal.returns-then-c-lt768
returns-then-c-lt768 c =
    sym (start_low _ _ c.if-c-lt768.true ∙ is-a-starter _ _ c.is_starter.ensures c.if-not-is_starter.false)

pub returns-then-c-lt12443 : goal.returns-then-c-lt12443
returns-then-c-lt12443 c =
    c.is_start_by_lists.ensures _ (is-a-starter _ _ c.is_starter.ensures c.if-not-is_starter.false)

pub returns-then-c-lt42607 : goal.returns-then-c-lt42607
returns-then-c-lt42607 c =
    sym (start_clear 0x309b 0xa66e refl _ _ (omega arith) (omega arith) (λ e. omega arith) (λ e. omega arith) (λ e. omega arith)
    ∙ is-a-starter _ _ c.is_starter.ensures c.if-not-is_starter.false)

pub returns : goal.returns
returns c =
    c.is_start_by_lists-2.ensures _ (is-a-starter _ _ c.is_starter.ensures c.if-not-is_starter.false)
