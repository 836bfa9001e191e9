-- Calls of the entry with the answers of the comparison's oracle, which is the original Rust with what document 01 adds: the definitions
-- give the same answer and the same places, by computing both.
--     examples    the table
use Prim.Native.Nat.{ℕ, ◌-◌}
use mathlib.Core.Path.{◌≡◌, refl}
use mathlib.Core.List.{List, [], ◌∷◌, ◌++◌, map}
use lib.ListN.{length, replicate}
use Rattle.scalars.specs.Chars.{is_char}
use Rattle.ranges.specs.Ranges.{member, rises}
use Rattle.page.specs.Page.{sized, rising, nonstarter, assigned, accepted}
use Rattle.text_utils.specs.Classes.{is_private_use}
use Rattle.isolate_unassigned.specs.Meaning.{to_isolate, isolated}
use Rattle.isolate_unassigned.specs.Isolate.{isolate_answer, isolate_places}

-- what the oracle says: the characters given, or the refusal's number
pub data Told : Type 0 where
  gives : List ℕ → Told
  refused_by_lem : ℕ → Told

-- a page, so many lent places, a run, and what the oracle says
pub data Row : Type 0 where
  isolating : List ℕ → ℕ → List ℕ → Told → Row

-- document 01's page: no nonstarters, and 0..377 assigned
abbrev page : List ℕ
page = 0 ∷ 1 ∷ 0 ∷ 0x377 ∷ []

-- 0..377 and 400..500 assigned
abbrev ranges : List ℕ
ranges = 0 ∷ 2 ∷ 0 ∷ 0x400 ∷ 0x377 ∷ 0x500 ∷ []

-- one number too many
abbrev wrong : List ℕ
wrong = 0 ∷ 1 ∷ 0 ∷ 0x377 ∷ 0x400 ∷ []

-- so many places, each with a value that no call writes
abbrev lent : ℕ → List ℕ
lent room = replicate room 0xEEEEEEEE

-- "so 378 378 gives 34F 378 34F 378 34F; one that follows an unchanged neighbour gets its own. So 34F 378 61 is unchanged. Isolating a
-- run of n characters needs 2 × n + 1 places, an empty one none; order 2, 1, 8."
abbrev table : List Row
table =
    -- an empty run asks for no place
    isolating page 0 [] (gives [])
    ∷ isolating page 1 [] (gives [])
    -- case 12; with 2 × n + 1 places exactly, one fewer, one more
    ∷ isolating page 5 (0x378 ∷ 0x61 ∷ []) (gives (0x34F ∷ 0x378 ∷ 0x34F ∷ 0x61 ∷ []))
    ∷ isolating page 4 (0x378 ∷ 0x61 ∷ []) (refused_by_lem 8)
    ∷ isolating page 6 (0x378 ∷ 0x61 ∷ []) (gives (0x34F ∷ 0x378 ∷ 0x34F ∷ 0x61 ∷ []))
    -- 8 asks for 2 × n + 1 places where fewer would do
    ∷ isolating page 3 (0x61 ∷ []) (gives (0x61 ∷ []))
    ∷ isolating page 2 (0x61 ∷ []) (refused_by_lem 8)
    ∷ isolating page 0 (0x61 ∷ []) (refused_by_lem 8)
    -- "so 378 378 gives 34F 378 34F 378 34F"
    ∷ isolating page 5 (0x378 ∷ 0x378 ∷ []) (gives (0x34F ∷ 0x378 ∷ 0x34F ∷ 0x378 ∷ 0x34F ∷ []))
    ∷ isolating page 4 (0x378 ∷ 0x378 ∷ []) (refused_by_lem 8)
    ∷ isolating page 9 (0x378 ∷ 0x378 ∷ 0x378 ∷ 0x61 ∷ []) (gives (0x34F ∷ 0x378 ∷ 0x34F ∷ 0x378 ∷ 0x34F ∷ 0x378 ∷ 0x34F ∷ 0x61 ∷ []))
    -- "So 34F 378 61 is unchanged."
    ∷ isolating page 7 (0x34F ∷ 0x378 ∷ 0x61 ∷ []) (gives (0x34F ∷ 0x378 ∷ 0x61 ∷ []))
    -- "one that follows an unchanged neighbour gets its own"
    ∷ isolating page 7 (0x34F ∷ 0x378 ∷ 0x378 ∷ []) (gives (0x34F ∷ 0x378 ∷ 0x34F ∷ 0x378 ∷ 0x34F ∷ []))
    -- a 34F of the run serves the next character alone
    ∷ isolating page 9 (0x34F ∷ 0x34F ∷ 0x378 ∷ 0x61 ∷ []) (gives (0x34F ∷ 0x34F ∷ 0x378 ∷ 0x61 ∷ []))
    ∷ isolating page 9 (0x34F ∷ 0x378 ∷ 0x34F ∷ 0x378 ∷ []) (gives (0x34F ∷ 0x378 ∷ 0x34F ∷ 0x378 ∷ []))
    -- a following 34F serves as the one after, and as the one before what follows it
    ∷ isolating page 5 (0x378 ∷ 0x34F ∷ []) (gives (0x34F ∷ 0x378 ∷ 0x34F ∷ []))
    ∷ isolating page 7 (0x378 ∷ 0x34F ∷ 0x378 ∷ []) (gives (0x34F ∷ 0x378 ∷ 0x34F ∷ 0x378 ∷ []))
    ∷ isolating page 7 (0x378 ∷ 0x34F ∷ 0x61 ∷ []) (gives (0x34F ∷ 0x378 ∷ 0x34F ∷ 0x61 ∷ []))
    -- assigned ones between
    ∷ isolating page 9 (0x378 ∷ 0x61 ∷ 0x61 ∷ 0x378 ∷ []) (gives (0x34F ∷ 0x378 ∷ 0x34F ∷ 0x61 ∷ 0x61 ∷ 0x34F ∷ 0x378 ∷ 0x34F ∷ []))
    -- private use, and the characters beside it
    ∷ isolating page 9 (0xE000 ∷ 0xF8FF ∷ 0xF0000 ∷ 0x10FFFD ∷ []) (gives (0xE000 ∷ 0xF8FF ∷ 0xF0000 ∷ 0x10FFFD ∷ []))
    ∷ isolating page 7 (0x378 ∷ 0xE000 ∷ 0xF900 ∷ []) (gives (0x34F ∷ 0x378 ∷ 0x34F ∷ 0xE000 ∷ 0x34F ∷ 0xF900 ∷ 0x34F ∷ []))
    -- a noncharacter
    ∷ isolating page 3 (0x10FFFF ∷ []) (gives (0x34F ∷ 0x10FFFF ∷ 0x34F ∷ []))
    -- no character (1), before too few places (8)
    ∷ isolating page 3 (0xD800 ∷ []) (refused_by_lem 1)
    ∷ isolating page 3 (0x110000 ∷ []) (refused_by_lem 1)
    ∷ isolating page 7 (0x61 ∷ 0xDFFF ∷ 0x61 ∷ []) (refused_by_lem 1)
    ∷ isolating page 0 (0x110000 ∷ []) (refused_by_lem 1)
    -- a page of two ranges
    ∷ isolating ranges 7 (0x3FF ∷ 0x500 ∷ 0x501 ∷ []) (gives (0x34F ∷ 0x3FF ∷ 0x34F ∷ 0x500 ∷ 0x34F ∷ 0x501 ∷ 0x34F ∷ []))
    -- a page by which 0A and 34F alone are assigned
    ∷ isolating (0 ∷ 2 ∷ 0xA ∷ 0x34F ∷ 0xA ∷ 0x34F ∷ []) 9 (0x61 ∷ 0x0A ∷ 0x20 ∷ 0xE9 ∷ [])
    (gives (0x34F ∷ 0x61 ∷ 0x34F ∷ 0x0A ∷ 0x34F ∷ 0x20 ∷ 0x34F ∷ 0xE9 ∷ 0x34F ∷ []))
    -- a wrong page (2), before no character (1) and too few places (8)
    ∷ isolating wrong 3 (0x61 ∷ []) (refused_by_lem 2)
    ∷ isolating wrong 3 (0xD800 ∷ []) (refused_by_lem 2)
    ∷ isolating wrong 0 (0x61 ∷ []) (refused_by_lem 2)
    ∷ isolating wrong 0 (0xD800 ∷ []) (refused_by_lem 2)
    ∷ isolating wrong 0 [] (refused_by_lem 2)
    ∷ []

-- the answer's numbers, and the places after: those past the written ones are unchanged, and all after a refusal
abbrev expected : Row → List ℕ × List ℕ
expected (isolating p room run (gives cs)) = (0 ∷ length cs ∷ [], cs ++ lent (room - length cs))
expected (isolating p room run (refused_by_lem n)) = (n ∷ [], lent room)

abbrev computed : Row → List ℕ × List ℕ
computed (isolating p room run told) = (isolate_answer p run (lent room), isolate_places p run (lent room))

pub examples : map computed table ≡ map expected table
unfolding accepted sized rising rises nonstarter assigned member is_char is_private_use to_isolate isolated
examples = refl
