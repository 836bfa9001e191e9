-- `text_utils::is_apart_from_end_tables` meets its contract: each of the three spans passes the test.
use Prim.Native.Nat.{ℕ, ◌≤◌}
use mathlib.Core.Path.{◌≡◌, refl}
use borrow.Author.Rules.{rules}
use mathlib.Core.Bool.{true, not, ◌&&◌, ◌||◌}
use mathlib.Core.Logic.{⊎_elim}
use lib.Dec.{leb, eqb}
use borrow.Author.Tests.{leb-true}
use Rattle.common.proofs.Kit.{both_true, or_cases}
use Rattle.text_utils.specs.Classes.{basic_text_end}
use Rattle.text_utils.proofs.Classes.{ends_clear, end_clear}
use Rattle.text_utils.proofs.is_apart_from_end_tables.Goals as goal

module _ (c : ℕ) where
  abbrev Only : Type 0
  Only = basic_text_end c ≡ not (eqb c 0x200d)

  between : (lo hi : ℕ) → ends_clear lo hi ≡ true → leb lo c && leb c hi ≡ true → Only
  between lo hi t h = let x = both_true _ _ h in end_clear lo hi t c (leb-true _ _ x.0) (leb-true _ _ x.1)

  in-spans : (a b d e g : ℕ) → ((leb a c && leb c b) || (leb d c && leb c e)) || leb g c ≡ true → ends_clear a b ≡ true → ends_clear d e ≡ true →
      ends_clear g 0xffffffff ≡ true → c ≤ 0xffffffff → Only
  in-spans a b d e g h x y z top =
      ⊎_elim (λ t. ⊎_elim (λ u. between a b x u) (λ u. between d e y u) (or_cases _ _ t)) (λ t. end_clear g 0xffffffff z c (leb-true _ _ t) top) (or_cases _ _ h)

pub returns : goal.returns
returns c = λ h. in-spans _ _ _ _ _ _ h refl refl refl (search rules)
