-- Characters encoded into places, one run after the other: what is asked before, and what is known after.
--     asks_first       room for joined characters is room for the first of them
--     asks_then        and, once these are stored, for the others
--     stored_then      storing them one run after the other stores all
use Prim.Native.Nat.{ℕ, ◌+◌, ◌≤◌}
use mathlib.Core.Path.{◌≡◌, sym, ◌∙◌}
use mathlib.Core.Bool.{true}
use mathlib.Core.List.{List, ◌++◌}
use native.Mathlib.Omega.{arith}
use lib.ListN.{length, length-append}
use lib.Seq.{sets, length-sets}
use Rattle.common.proofs.Lists.{sets_append}
use Rattle.scalars.specs.Chars.{are_chars}
use Rattle.scalars.specs.Utf8.{encode_all}
use Rattle.scalars.proofs.Texts.{encode_append, chars_parts}

-- cs are characters, and there is room for them in l from `at` on
abbrev pub Asks : List ℕ → List ℕ → ℕ → Type 0
Asks cs l at = (are_chars cs ≡ true) × (at + length (encode_all cs) ≤ length l)

-- cs are stored in l from `at` on: the place after them, and the places
abbrev pub Stored : List ℕ → List ℕ → ℕ → ℕ → List ℕ → Type 0
Stored cs l at next m = (next ≡ at + length (encode_all cs)) × (m ≡ sets l at (encode_all cs))

module _ (cs ds l : List ℕ) (at : ℕ) where
  size : length (encode_all (cs ++ ds)) ≡ length (encode_all cs) + length (encode_all ds)
  size = rw encode_append (length-append (encode_all cs) (encode_all ds))

  pub asks_first : Asks (cs ++ ds) l at → Asks cs l at
  asks_first a = ((chars_parts cs ds a.0).0, omega (arith, size, a.1))

  pub asks_then : (next : ℕ) (m : List ℕ) → Asks (cs ++ ds) l at → Stored cs l at next m → Asks ds m next
  asks_then next m a s =
      ((chars_parts cs ds a.0).1, rw (s.1, length-sets) (omega (arith, size, a.1, s.0)))

  pub stored_then : (next last : ℕ) (m n : List ℕ) → Stored cs l at next m → Stored ds m next last n → Stored (cs ++ ds) l at last n
  stored_then next last m n s t = (
    omega (arith, size, s.0, t.0),
    rw encode_append (t.1 ∙ rw (s.0, s.1) (sym (sets_append (encode_all cs) (encode_all ds) l at))),
  )
