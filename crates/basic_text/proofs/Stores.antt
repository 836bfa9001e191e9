-- Runs of stores.
--     part_stored     a part that was written over, as its stores
--     stored_first    what a call stored from the first place on is read back from there
--     sets_bytes      the bytes of two lists of numbers, stored one after the other
--     sets_next       one number's bytes after those of the numbers before it
use Prim.Native.Nat.{ℕ, ◌+◌, ◌*◌, ◌≤◌, ◌<◌}
use mathlib.Core.Path.{◌≡◌, refl, sym, ap, ◌∙◌}
use mathlib.Core.List.{List, [], ◌∷◌, ◌++◌, append_assoc}
use native.Mathlib.Omega.{arith}
use native.Mathlib.Numerals.{add-one}
use lib.ListN.{length, get_or, take}
use lib.Seq.{sets, length-sets, take-suc, length-take-le, drop-drop}
use borrow.Rule.Slice.PartMut.{put_mid}
use Rattle.std.proofs.lemmas.List.Edits.{sets-eq}
use Rattle.common.proofs.Lists.{sets_append, take_first}
use Rattle.basic_text.specs.Exports.{bytes_of}
use Rattle.basic_text.proofs.Laws.{bytes_append, length_bytes}

-- a part that was written over, as its stores
pub part_stored : (l xs ys : List ℕ) (i k : ℕ) → xs ≡ ys → length ys ≡ k → i + k ≤ length l → put_mid i k l xs ≡ sets l i ys
part_stored l xs ys i k e f h = rw (e, sets-eq ys l i (omega arith), f, ← drop-drop k i l, append_assoc) refl

-- l were the places, and `after` are the places after the call, which answered n
pub stored_first : (out l after : List ℕ) (n : ℕ) → n ≡ length out → length out ≤ length l → after ≡ sets l 0 out →
    (n ≤ length after) × (take n after ≡ out)
stored_first out l after n e h f = (
  omega (arith, ap length f, length-sets l 0 out),
  ap (take n) f ∙ take_first out l n (sym e) h,
)

-- the bytes of xs and then those of ys, from place k on
pub sets_bytes : (xs ys l : List ℕ) (k : ℕ) →
    sets l (4 * k) (bytes_of (xs ++ ys)) ≡ sets (sets l (4 * k) (bytes_of xs)) (4 * (k + length xs)) (bytes_of ys)
sets_bytes xs ys l k =
    let e : 4 * k + length (bytes_of xs) ≡ 4 * (k + length xs) = omega (arith, length_bytes xs) in
    rw bytes_append
    (sets_append (bytes_of xs) (bytes_of ys) l (4 * k)
    ∙ ap (λ (n : ℕ). sets (sets l (4 * k) (bytes_of xs)) n (bytes_of ys)) e)

pub sets_next : (ns l : List ℕ) (k i : ℕ) → i < length ns →
    sets l (4 * k) (bytes_of (take (i + 1) ns))
    ≡ sets (sets l (4 * k) (bytes_of (take i ns))) (4 * (k + i)) (bytes_of (get_or ns i 0 ∷ []))
sets_next ns l k i h =
    let e : length (take i ns) ≡ i = length-take-le i ns (omega arith) in
    rw (add-one i, take-suc ns i 0 h)
    (sets_bytes (take i ns) (get_or ns i 0 ∷ []) l k
    ∙ ap (λ (n : ℕ). sets (sets l (4 * k) (bytes_of (take i ns))) (4 * (k + n)) (bytes_of (get_or ns i 0 ∷ []))) e)
