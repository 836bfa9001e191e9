-- What is sought, and stretches of it.
--     none_in_gap          the empty range, as a gap, has no character
--     ascii_within         ASCII alone, in ASCII and a gap
--     first_within         the first of two ranges, in both
--     one_more             a stretch and places behind it
--     counted              as many as are sought of the next
--     four                 four stretches one behind the other, the second of what is likeliest
use Prim.Native.Nat.{ℕ, ◌+◌, ◌-◌, ◌≤◌}
use mathlib.Core.Path.{◌≡◌, refl, sym, ap, ◌∙◌}
use mathlib.Core.Bool.{Bool, true, false, ◌||◌, or-true}
use mathlib.Core.List.{List}
use native.Mathlib.Omega.{arith}
use lib.ListN.{length, get_or, take, drop, length-take}
use lib.Seq.{get_or-take, get_or-drop}
use Rattle.std.specs.List.{prefix_len}
use Rattle.std.proofs.lemmas.List.Sums.{prefix_len-le-length, prefix_len_passes}
use Rattle.std.proofs.lemmas.List.Folds.{length-prefix_len}
use Rattle.common.proofs.Kit.{never}
use Rattle.ranges.specs.declared.Range.{Range}
use Rattle.ranges.specs.Inner.{no_range, in_range}
use Rattle.ranges.proofs.Found.{empty}
use Rattle.stretch.specs.declared.Sought.{Sought}
use Rattle.stretch.specs.Stretch.{in_gap, in_sought, either_of, Each, Stretch}
use Rattle.stretch.specs.Plain.{ascii_or}
use Rattle.common.proofs.Places.{joined}

-- all that q seeks, r seeks
abbrev Within : Sought → Sought → Type 0
Within q r = (c : ℕ) → in_sought q c ≡ true → in_sought r c ≡ true

pub none_in_gap : (c : ℕ) → in_gap no_range c ≡ false
unfolding in_gap
none_in_gap c = rw (empty c)

-- a part of an `||` that is false gives way to any other
other_right : (a b c : Bool) → b ≡ false → a || b ≡ true → a || c ≡ true
other_right true b c n h = refl
other_right false b c n h = never (sym n ∙ h)

other_middle : (a b c g : Bool) → b ≡ false → (a || b) || g ≡ true → (a || c) || g ≡ true
other_middle true b c g n h = refl
other_middle false b c g n h = let t : g ≡ true = rw n at h in rw t (or-true c)

pub ascii_within : (gap : Range) → Within (ascii_or no_range) (ascii_or gap)
ascii_within gap c h =
    let q = ascii_or gap in
    other_right (in_range q.one c || in_range q.two c) (in_gap no_range c) (in_gap gap c) (none_in_gap c) h

pub first_within : (one two : Range) → Within (either_of one no_range) (either_of one two)
first_within one two c h = other_middle (in_range one c) _ _ _ (empty c) h

module _ (q : Sought) (s : List ℕ) where
  behind : (f m t : ℕ) → Stretch q s f m → Stretch q s m t → Stretch q s f t
  behind f m t a b =
      record {
        on = omega (arith, a.on, b.on);
        low = b.low;
        each = joined (λ y. in_sought q (get_or s y 0) ≡ true) f m t a.each b.each;
      }

  pub one_more : (f m t : ℕ) → Stretch q s f m → m ≤ t → t ≤ length s → Each q s m t → Stretch q s f t
  one_more f m t a on low each = behind f m t a (record { on = on; low = low; each = each })

  pub counted : (f most n : ℕ) → f ≤ length s
      → (let next = take most (take (length s - f) (drop f s)) in n ≡ length (take (prefix_len (in_sought q) next) next))
      → Stretch q s f (f + n)
  counted f most n l e =
      let left = take (length s - f) (drop f s) in
      let next = take most left in
      let p : n ≡ prefix_len (in_sought q) next = e ∙ length-prefix_len (in_sought q) next in
      let h : n ≤ length next = omega (arith, prefix_len-le-length (in_sought q) next) in
      let m : length next ≤ most = omega (arith, length-take most left) in
      let k : length next ≤ length s - f = omega (arith, length-take most left, length-take (length s - f) (drop f s)) in
      record {
        on = omega arith;
        low = omega arith;
        each = λ x a b.
            let same : get_or next (x - f) 0 ≡ get_or s x 0 =
            get_or-take most left (x - f) 0 (omega arith)
            ∙ get_or-take (length s - f) (drop f s) (x - f) 0 (omega arith)
            ∙ get_or-drop f s (x - f) 0
            ∙ ap (λ i. get_or s i 0) (omega arith) in
            rw same at (prefix_len_passes (in_sought q) next (x - f) 0 (omega arith));
      }

  pub four : (n : Sought) → Within n q → (f a b c d : ℕ) → Stretch q s f a → Stretch n s a b → Stretch q s b c → Stretch q s c d → Stretch q s f d
  four n w f a b c d x y z u =
      let v : Stretch q s a b = record { on = y.on; low = y.low; each = λ p l h. w (get_or s p 0) (y.each p l h) } in
      behind f a d x (behind a b d v (behind b c d z u))
