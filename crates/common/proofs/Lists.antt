-- Stores one after the other: `sets l i vs` is l with vs stored from place i on.
--     sets_append   a run of stores in two parts
--     sets_three    one from the first place on in three parts
--     sets_first    one from the first place on, where there is room: what is stored, and what was behind it
--     take_first    the first places then hold what was stored
--     take_sets     stores from i on leave the places before it
--     drop_sets     stores before n leave the places from n on
--     rest_is       what is behind a place, as a slice has it
--     sets_part     a part of as many places that is written over
use mathlib.Core.Path.{◌≡◌, refl, sym, ◌∙◌}
use mathlib.Core.List.{List, [], ◌∷◌, ◌++◌, append_assoc}
use Prim.Native.Nat.{ℕ, suc, ◌+◌, ◌-◌, ◌≤◌}
use native.Mathlib.Nat.{add-zero, zero-add, add-suc, suc-add}
use native.Mathlib.Omega.{arith}
use borrow.Rule.Slice.PartMut.{put_mid}
use lib.ListN.{length, set, take, drop, length-drop}
use lib.Seq.{sets, sets-eq, take-set-le, drop-set-lt, take_at, take_all, drop-drop}

pub sets_append : (vs ws l : List ℕ) (i : ℕ) → sets l i (vs ++ ws) ≡ sets (sets l i vs) (i + length vs) ws
sets_append [] ws l i = rw add-zero
sets_append (v ∷ vs) ws l i = rw (add-suc, ← suc-add) (sets_append vs ws (set l i v) (suc i))

pub sets_three : (u v w l : List ℕ) →
    sets (sets (sets l 0 u) (0 + length u) v) (0 + length u + length v) w ≡ sets l 0 (u ++ (v ++ w))
sets_three u v w l = sym (sets_append v w (sets l 0 u) (0 + length u)) ∙ sym (sets_append u (v ++ w) l 0)

pub sets_first : (vs l : List ℕ) → length vs ≤ length l → sets l 0 vs ≡ vs ++ drop (length vs) l
sets_first vs l h = rw zero-add at (sets-eq vs l 0 (rw zero-add h))

pub take_first : (vs l : List ℕ) (n : ℕ) → length vs ≡ n → length vs ≤ length l → take n (sets l 0 vs) ≡ vs
take_first vs l n e h = rw (sets_first vs l h) (take_at vs (drop (length vs) l) n e)

pub take_sets : (n : ℕ) (vs l : List ℕ) (i : ℕ) → n ≤ i → take n (sets l i vs) ≡ take n l
take_sets n [] l i h = refl
take_sets n (v ∷ vs) l i h = take_sets n vs (set l i v) (suc i) (omega arith) ∙ take-set-le n l i v h

pub drop_sets : (n : ℕ) (l : List ℕ) (i : ℕ) (vs : List ℕ) → i + length vs ≤ n → drop n (sets l i vs) ≡ drop n l
drop_sets n l i [] h = refl
drop_sets n l i (v ∷ vs) h = drop_sets n (set l i v) (suc i) vs (omega arith) ∙ drop-set-lt n l i v (omega arith)

pub rest_is : (l : List ℕ) (s : ℕ) → take (length l - s) (drop s l) ≡ drop s l
rest_is l s = take_all (length l - s) (drop s l) (omega (arith, length-drop s l))

pub sets_part : (vs l : List ℕ) (i k : ℕ) → i + length vs ≤ length l → k ≡ length vs → put_mid i k l vs ≡ sets l i vs
sets_part vs l i k h e = rw (e, drop-drop) (sym (sets-eq vs l i h ∙ append_assoc (take i l) vs (drop (i + length vs) l)))
