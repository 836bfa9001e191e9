-- The part of a list from one place up to another.
--     cut             what is left from a place on, as a part and what is left behind it
--     part_length     how long a part is
--     part_at         what stands at a place of it
--     part_one        a part of one place
use Prim.Native.Nat.{ℕ, ◌+◌, ◌-◌, ◌≤◌, ◌<◌}
use mathlib.Core.List.{List, [], ◌∷◌, ◌++◌}
use mathlib.Core.Path.{◌≡◌, sym, ap, ◌∙◌}
use native.Mathlib.Omega.{arith}
use lib.ListN.{length, drop, get_or, length-take, length-drop, take-append-drop}
use lib.Seq.{drop-cons, get_or-take, get_or-drop, drop-drop}
use Rattle.stretch.specs.Stretch.{part}

module _ (s : List ℕ) (i j : ℕ) (on : i ≤ j) where
  pub cut : drop i s ≡ part i j s ++ drop j s
  cut =
      let e : i + (j - i) ≡ j = omega arith in
      sym (take-append-drop (j - i) (drop i s)) ∙ ap (λ l. part i j s ++ l) (drop-drop (j - i) i s ∙ ap (λ n. drop n s) e)

  pub part_length : j ≤ length s → length (part i j s) ≡ j - i
  part_length low = simp (length-take, length-drop) (omega arith)

  pub part_at : (x : ℕ) → x < j - i → get_or (part i j s) x 0 ≡ get_or s (i + x) 0
  part_at x h = get_or-take (j - i) (drop i s) x 0 h ∙ get_or-drop i s x 0

pub part_one : (s : List ℕ) (i : ℕ) → i < length s → part i (i + 1) s ≡ get_or s i 0 ∷ []
part_one s i here =
    let e : i + 1 - i ≡ 1 = omega arith in
    rw (e, drop-cons s i 0 here)
