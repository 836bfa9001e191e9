-- A test that two answers of `replace` are the same, and its law.
use mathlib.Core.Path.{◌≡◌}
use mathlib.Core.Bool.{Bool, false, ◌&&◌}
use lib.Dec.{T, eqb, eqb→eq}
use Rattle.replace.specs.declared.Replaced.{Replaced}
use Rattle.replace.specs.declared.Replaced.TheVariants.{One, Two, Three}
use Rattle.replace.proofs.Rows.{and_l, and_r}

abbrev pub same_replaced : Replaced → Replaced → Bool
same_replaced (One a) (One b) = eqb a b
same_replaced (Two a b) (Two c d) = eqb a c && eqb b d
same_replaced (Three a b c) (Three d e f) = eqb a d && (eqb b e && eqb c f)
same_replaced (One a) (Two c d) = false
same_replaced (One a) (Three d e f) = false
same_replaced (Two a b) (One c) = false
same_replaced (Two a b) (Three d e f) = false
same_replaced (Three a b c) (One d) = false
same_replaced (Three a b c) (Two d e) = false

pub same_replaced→eq : (x y : Replaced) → T (same_replaced x y) → x ≡ y
same_replaced→eq (One a) (One b) t = let p : a ≡ b = eqb→eq a b t in cc
same_replaced→eq (Two a b) (Two c d) t =
    let p : a ≡ c = eqb→eq a c (and_l (eqb a c) (eqb b d) t) in
    let q : b ≡ d = eqb→eq b d (and_r (eqb a c) (eqb b d) t) in
    cc
same_replaced→eq (Three a b c) (Three d e f) t =
    let u = and_r (eqb a d) (eqb b e && eqb c f) t in
    let p : a ≡ d = eqb→eq a d (and_l (eqb a d) (eqb b e && eqb c f) t) in
    let q : b ≡ e = eqb→eq b e (and_l (eqb b e) (eqb c f) u) in
    let r : c ≡ f = eqb→eq c f (and_r (eqb b e) (eqb c f) u) in
    cc
same_replaced→eq (One a) (Two c d) t = absurd t
same_replaced→eq (One a) (Three d e f) t = absurd t
same_replaced→eq (Two a b) (One c) t = absurd t
same_replaced→eq (Two a b) (Three d e f) t = absurd t
same_replaced→eq (Three a b c) (One d) t = absurd t
same_replaced→eq (Three a b c) (Two d e) t = absurd t
