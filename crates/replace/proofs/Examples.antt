-- What the Rust's `replace` gives, with the option for units off, and with the three lines that it adds on, by computing.
--     everywhere    at every character: the table and the runs of the Rust's answers say the same; with the option on, these runs behind
--                   Unicode's decompositions
--     answered      so the entry, where it does not refuse, answers the same
--     examples      the entry's whole answers at the first and the last character of each run, and of what lies between, with the
--                   option on and off, as the oracle of the comparison gives them
use Prim.Native.Nat.{ℕ, ◌<◌}
use mathlib.Core.Path.{◌≡◌, refl, ap}
use mathlib.Core.Bool.{Bool, true, false}
use mathlib.Core.List.{List, [], ◌∷◌, ◌++◌, map}
use native.Mathlib.Omega.{arith}
use lib.Dec.{T}
use Rattle.scalars.specs.Chars.{is_char}
use Rattle.scalars.proofs.Rows.{char_lt}
use Rattle.replace.specs.declared.Replaced.TheVariants.{One}
use Rattle.replace.specs.Table.{Row, lookup}
use Rattle.replace.specs.declared.Replaced.{Replaced}
use Rattle.replace.specs.Replace.{chars, rows_by, replace_of, replacement_of}
use Rattle.replace.specs.Runs.{replacement_runs}
use Rattle.replace.specs.Decompositions.{letterlike_decompositions}
use Rattle.replace.proofs.Rows.{Piece, ◌until◌, here}
use Rattle.replace.proofs.Same.{same_replaced, same_replaced→eq}
use Rattle.replace.proofs.Spans.{alike, alike_at}

-- the runs of the Rust's answers, behind Unicode's decompositions with the option on
abbrev runs_by : Bool → List (Row Replaced)
runs_by true = letterlike_decompositions ++ replacement_runs
runs_by false = replacement_runs

abbrev line : List Piece
line = 0 until 0x110000 ∷ []

runs_alike : (units : Bool) → T (alike same_replaced same_replaced→eq (rows_by units) (runs_by units) line)
runs_alike true = tt
runs_alike false = tt

-- "Replacement is one decision over all characters, as `replace` has it; anything else is itself."
-- "With it off, results equal the Rust"; on, "as Unicode decomposes them"
pub everywhere : (units : Bool) (c : ℕ) → c < 0x110000 → replace_of units c ≡ lookup (runs_by units) (One c) c
unfolding replace_of
everywhere units c h =
    alike_at same_replaced same_replaced→eq (rows_by units) (runs_by units) (One c) line (runs_alike units) (here {x = 0} (omega arith) h)

-- so the entry, where it does not refuse, answers the same
pub answered : (units : Bool) (c : ℕ) → is_char c ≡ true → replacement_of units c ≡ 0 ∷ chars (lookup (runs_by units) (One c) c)
answered units c h = rw h (ap (λ (r : Replaced). 0 ∷ chars r) (everywhere units c (char_lt c h)))

-- a number, and the answer's numbers
abbrev Example : Type 0
Example = ℕ × List ℕ

-- replaced by FFFD
abbrev removed : List ℕ
removed =
    0x0 ∷ 0x8 ∷ 0xb ∷ 0xd ∷ 0x1a ∷ 0x1c ∷ 0x1f ∷ 0x7f ∷ 0x84 ∷ 0x86 ∷ 0x9f ∷ 0x9e4 ∷
    0x9e5 ∷ 0xa64 ∷ 0xa65 ∷ 0xae4 ∷ 0xae5 ∷ 0xb64 ∷ 0xb65 ∷ 0xbe4 ∷ 0xbe5 ∷ 0xc64 ∷ 0xc65 ∷ 0xce4 ∷
    0xce5 ∷ 0xd64 ∷ 0xd65 ∷ 0x17b4 ∷ 0x17b5 ∷ 0x17d8 ∷ 0x202a ∷ 0x202e ∷ 0x2066 ∷ 0x206f ∷ 0x2072 ∷ 0x2073 ∷
    0x2329 ∷ 0x232a ∷ 0xfdd0 ∷ 0xfdef ∷ 0xfff9 ∷ 0xfffc ∷ 0xfffe ∷ 0xffff ∷ 0x1d455 ∷ 0x1d49d ∷ 0x1d4a0 ∷ 0x1d4a1 ∷
    0x1d4a3 ∷ 0x1d4a4 ∷ 0x1d4a7 ∷ 0x1d4a8 ∷ 0x1d4ad ∷ 0x1d4ba ∷ 0x1d4bc ∷ 0x1d4c4 ∷ 0x1d506 ∷ 0x1d50b ∷ 0x1d50c ∷ 0x1d515 ∷
    0x1d51d ∷ 0x1d53a ∷ 0x1d53f ∷ 0x1d545 ∷ 0x1d547 ∷ 0x1d549 ∷ 0x1d551 ∷ 0x1fffe ∷ 0x1ffff ∷ 0x2fffe ∷ 0x2ffff ∷ 0x3fffe ∷
    0x3ffff ∷ 0x4fffe ∷ 0x4ffff ∷ 0x5fffe ∷ 0x5ffff ∷ 0x6fffe ∷ 0x6ffff ∷ 0x7fffe ∷ 0x7ffff ∷ 0x8fffe ∷ 0x8ffff ∷ 0x9fffe ∷
    0x9ffff ∷ 0xafffe ∷ 0xaffff ∷ 0xbfffe ∷ 0xbffff ∷ 0xcfffe ∷ 0xcffff ∷ 0xdfffe ∷ 0xdffff ∷ 0xe0001 ∷ 0xefffe ∷ 0xeffff ∷
    0xffffe ∷ 0xfffff ∷ 0x10fffe ∷ 0x10ffff ∷ []

-- themselves: the neighbours
abbrev themselves : List ℕ
themselves =
    0x9 ∷ 0xa ∷ 0x1b ∷ 0x20 ∷ 0x7e ∷ 0xa0 ∷ 0x148 ∷ 0x14a ∷ 0x672 ∷ 0x674 ∷ 0x9e3 ∷ 0x9e6 ∷
    0xa63 ∷ 0xa66 ∷ 0xae3 ∷ 0xae6 ∷ 0xb63 ∷ 0xb66 ∷ 0xbe3 ∷ 0xbe6 ∷ 0xc63 ∷ 0xc66 ∷ 0xce3 ∷ 0xce6 ∷
    0xd63 ∷ 0xd66 ∷ 0xf76 ∷ 0xf78 ∷ 0xf7a ∷ 0x17a2 ∷ 0x17a5 ∷ 0x17b3 ∷ 0x17b6 ∷ 0x17d7 ∷ 0x17d9 ∷ 0x2027 ∷
    0x202f ∷ 0x2065 ∷ 0x2070 ∷ 0x2071 ∷ 0x2074 ∷ 0x2125 ∷ 0x2127 ∷ 0x2129 ∷ 0x212c ∷ 0x2328 ∷ 0x232b ∷ 0x2df4 ∷ 0x2df6 ∷ 0xd7ff ∷ 0xe000 ∷ 0xfaff ∷
    0xfb07 ∷ 0xfdcf ∷ 0xfdf0 ∷ 0xfefe ∷ 0xff00 ∷ 0xfff8 ∷ 0xfffd ∷ 0x10000 ∷ 0x111c3 ∷ 0x111c5 ∷ 0x1d454 ∷ 0x1d456 ∷
    0x1d49c ∷ 0x1d49e ∷ 0x1d49f ∷ 0x1d4a2 ∷ 0x1d4a5 ∷ 0x1d4a6 ∷ 0x1d4a9 ∷ 0x1d4ac ∷ 0x1d4ae ∷ 0x1d4b9 ∷ 0x1d4bb ∷ 0x1d4bd ∷
    0x1d4c3 ∷ 0x1d4c5 ∷ 0x1d505 ∷ 0x1d507 ∷ 0x1d50a ∷ 0x1d50d ∷ 0x1d514 ∷ 0x1d516 ∷ 0x1d51c ∷ 0x1d51e ∷ 0x1d539 ∷ 0x1d53b ∷
    0x1d53e ∷ 0x1d540 ∷ 0x1d544 ∷ 0x1d546 ∷ 0x1d54a ∷ 0x1d550 ∷ 0x1d552 ∷ 0x1fffd ∷ 0x20000 ∷ 0x2fffd ∷ 0x30000 ∷ 0x3fffd ∷
    0x40000 ∷ 0x4fffd ∷ 0x50000 ∷ 0x5fffd ∷ 0x60000 ∷ 0x6fffd ∷ 0x70000 ∷ 0x7fffd ∷ 0x80000 ∷ 0x8fffd ∷ 0x90000 ∷ 0x9fffd ∷
    0xa0000 ∷ 0xafffd ∷ 0xb0000 ∷ 0xbfffd ∷ 0xc0000 ∷ 0xcfffd ∷ 0xd0000 ∷ 0xdfffd ∷ 0xe0000 ∷ 0xe0002 ∷ 0xefffd ∷ 0xf0000 ∷
    0xffffd ∷ 0x100000 ∷ 0x10fffd ∷ []

-- the signs for ohm, kelvin and angstrom: their letters with the option on, themselves with it off
abbrev sign_rows : Bool → List Example
sign_rows true = (0x2126, 0 ∷ 0x3a9 ∷ []) ∷ (0x212a, 0 ∷ 0x4b ∷ []) ∷ (0x212b, 0 ∷ 0xc5 ∷ []) ∷ []
sign_rows false = (0x2126, 0 ∷ 0x2126 ∷ []) ∷ (0x212a, 0 ∷ 0x212a ∷ []) ∷ (0x212b, 0 ∷ 0x212b ∷ []) ∷ []

-- refused by 1
abbrev no_chars : List ℕ
no_chars = 0xd800 ∷ 0xdfff ∷ 0x110000 ∷ 0xffffffff ∷ []

abbrev rows : List Example
rows =
    (0xc, 0 ∷ 0x20 ∷ []) ∷
    (0x85, 0 ∷ 0x20 ∷ []) ∷
    (0x149, 0 ∷ 0x2bc ∷ 0x6e ∷ []) ∷
    (0x673, 0 ∷ 0x627 ∷ 0x65f ∷ []) ∷
    (0xf77, 0 ∷ 0xfb2 ∷ 0xf81 ∷ []) ∷
    (0xf79, 0 ∷ 0xfb3 ∷ 0xf81 ∷ []) ∷
    (0x17a3, 0 ∷ 0x17a2 ∷ []) ∷
    (0x17a4, 0 ∷ 0x17a2 ∷ 0x17b6 ∷ []) ∷
    (0x2028, 0 ∷ 0x20 ∷ []) ∷
    (0x2029, 0 ∷ 0x20 ∷ []) ∷
    (0x2df5, 0 ∷ 0x2ded ∷ 0x2dee ∷ []) ∷
    (0xfb00, 0 ∷ 0x66 ∷ 0x66 ∷ []) ∷
    (0xfb01, 0 ∷ 0x66 ∷ 0x69 ∷ []) ∷
    (0xfb02, 0 ∷ 0x66 ∷ 0x6c ∷ []) ∷
    (0xfb03, 0 ∷ 0x66 ∷ 0x66 ∷ 0x69 ∷ []) ∷
    (0xfb04, 0 ∷ 0x66 ∷ 0x66 ∷ 0x6c ∷ []) ∷
    (0xfb05, 0 ∷ 0x17f ∷ 0x74 ∷ []) ∷
    (0xfb06, 0 ∷ 0x73 ∷ 0x74 ∷ []) ∷
    (0xfeff, 0 ∷ 0x2060 ∷ []) ∷
    (0x111c4, 0 ∷ 0x1118f ∷ 0x11180 ∷ []) ∷
    (map (λ c. (c, 0 ∷ 0xfffd ∷ [])) removed ++ map (λ c. (c, 0 ∷ c ∷ [])) themselves ++ map (λ c. (c, 1 ∷ [])) no_chars)

-- "Replacement is one decision over all characters, as `replace` has it; anything else is itself."; "Entries on one character give 1"
-- "replacement turns U+2126 into U+03A9, U+212A into U+004B and U+212B into U+00C5"
pub examples : (units : Bool) →
    map (λ (r : Example). replacement_of units r.0) (sign_rows units ++ rows) ≡ map (λ (r : Example). r.1) (sign_rows units ++ rows)
unfolding is_char replace_of
examples true = refl
examples false = refl
