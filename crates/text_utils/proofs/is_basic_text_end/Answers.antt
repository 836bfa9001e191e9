-- `text_utils::is_basic_text_end` meets its contract: below 600, and apart from the tables, every character but ZWJ is an end, and
-- elsewhere the tables say it.
use Prim.Native.Nat.{ℕ, ◌<◌}
use mathlib.Core.Path.{◌≡◌, refl, sym, ◌∙◌}
use mathlib.Core.Bool.{true, false}
use native.Mathlib.Omega.{arith}
use lib.Dec.{eqb}
use borrow.Author.Tests.{ne_eqb}
use Rattle.text_utils.specs.Classes.{basic_text_end}
use Rattle.text_utils.proofs.Classes.{end_clear}
use Rattle.text_utils.proofs.is_basic_text_end.Goals as goal

low : (c : ℕ) → c < 0x600 → true ≡ basic_text_end c
low c h = let e : eqb c 0x200d ≡ false = ne_eqb c 0x200d (λ q. omega arith) in sym (end_clear 0 0x5ff refl c (omega arith) (omega arith) ∙ rw e)

pub returns-then-is_apart_from_end_tables : goal.returns-then-is_apart_from_end_tables
returns-then-is_apart_from_end_tables c = sym (c.is_apart_from_end_tables.ensures c.if-is_apart_from_end_tables.true)

pub returns-then-c-lt1536 : goal.returns-then-c-lt1536
returns-then-c-lt1536 c = low _ c.if-c-lt1536.true
