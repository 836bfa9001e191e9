-- What the Rust's `check_basic_text_char` gives, with the option for units off, and with the names that it adds on, by computing.
--     everywhere    the reason at every character: the table and the runs of the Rust's answers say the same
--     examples      the entry's whole answers at the first and the last character of each run of like answers, with the option on and
--                   off, as the oracle of the comparison gives them
--     written       what the check says to a write of the signs for units: each names itself
use Prim.Native.Nat.{ℕ, ◌<◌}
use mathlib.Core.Path.{◌≡◌, refl}
use mathlib.Core.Bool.{Bool, true, false}
use mathlib.Core.List.{List, [], ◌∷◌, ◌++◌, map}
use native.Mathlib.Omega.{arith}
use lib.Dec.{eqb, eqb→eq}
use Rattle.scalars.specs.Chars.{is_char}
use Rattle.replace.specs.Table.{lookup}
use Rattle.replace.specs.Replace.{replace_of}
use Rattle.replace.proofs.Rows.{◌until◌, here}
use Rattle.replace.proofs.Spans.{alike_at}
use Rattle.check_char.specs.Check.{refusals, reason_of, check_numbers, check_answer}
use Rattle.check_char.specs.Runs.{reason_runs}

-- "4 a character refused by `check_basic_text_char` .. with the reason as the place in `BasicTextError` counted from 1"
pub everywhere : (c : ℕ) → c < 0x110000 → reason_of c ≡ lookup reason_runs 0 c
unfolding reason_of
everywhere c h = alike_at eqb eqb→eq refusals reason_runs 0 (0 until 0x110000 ∷ []) tt (here {x = 0} (omega arith) h)

-- a number, and the answer's numbers
abbrev Example : Type 0
Example = ℕ × List ℕ

-- at each of these the same answer
abbrev all_give : List ℕ → (ℕ → List ℕ) → List Example → List Example
all_give cs f rest = map (λ c. (c, f c)) cs ++ rest

-- accepted, 1B among them
abbrev accepted : List ℕ
accepted =
    0x9 ∷ 0xa ∷ 0x1b ∷ 0x20 ∷ 0x7e ∷ 0xa0 ∷ 0x148 ∷ 0x14a ∷ 0x672 ∷ 0x674 ∷ 0x9e3 ∷ 0x9e6 ∷
    0xa63 ∷ 0xa66 ∷ 0xae3 ∷ 0xae6 ∷ 0xb63 ∷ 0xb66 ∷ 0xbe3 ∷ 0xbe6 ∷ 0xc63 ∷ 0xc66 ∷ 0xce3 ∷ 0xce6 ∷
    0xd63 ∷ 0xd66 ∷ 0xf76 ∷ 0xf78 ∷ 0xf7a ∷ 0x17a2 ∷ 0x17a5 ∷ 0x17b3 ∷ 0x17b6 ∷ 0x17d7 ∷ 0x17d9 ∷ 0x2027 ∷
    0x202f ∷ 0x2065 ∷ 0x2070 ∷ 0x2071 ∷ 0x2074 ∷ 0x2125 ∷ 0x2127 ∷ 0x2129 ∷ 0x212c ∷ 0x2328 ∷ 0x232b ∷ 0x2df4 ∷
    0x2df6 ∷ 0xd7ff ∷ 0xe000 ∷ 0xf8ff ∷ 0xfa0e ∷ 0xfa0f ∷ 0xfa11 ∷ 0xfa13 ∷ 0xfa14 ∷ 0xfa1f ∷ 0xfa21 ∷ 0xfa23 ∷
    0xfa24 ∷ 0xfa27 ∷ 0xfa29 ∷ 0xfa6e ∷ 0xfa6f ∷ 0xfada ∷ 0xfaff ∷ 0xfb07 ∷ 0xfdcf ∷ 0xfdf0 ∷ 0xfefe ∷ 0xff00 ∷
    0xfff8 ∷ 0xfffd ∷ 0x10000 ∷ 0x111c3 ∷ 0x111c5 ∷ 0x1d454 ∷ 0x1d456 ∷ 0x1d49c ∷ 0x1d49e ∷ 0x1d49f ∷ 0x1d4a2 ∷ 0x1d4a5 ∷
    0x1d4a6 ∷ 0x1d4a9 ∷ 0x1d4ac ∷ 0x1d4ae ∷ 0x1d4b9 ∷ 0x1d4bb ∷ 0x1d4bd ∷ 0x1d4c3 ∷ 0x1d4c5 ∷ 0x1d505 ∷ 0x1d507 ∷ 0x1d50a ∷
    0x1d50d ∷ 0x1d514 ∷ 0x1d516 ∷ 0x1d51c ∷ 0x1d51e ∷ 0x1d539 ∷ 0x1d53b ∷ 0x1d53e ∷ 0x1d540 ∷ 0x1d544 ∷ 0x1d546 ∷ 0x1d54a ∷
    0x1d550 ∷ 0x1d552 ∷ 0x1fffd ∷ 0x20000 ∷ 0x2f7ff ∷ 0x2fa1e ∷ 0x2fffd ∷ 0x30000 ∷ 0x3fffd ∷ 0x40000 ∷ 0x4fffd ∷ 0x50000 ∷
    0x5fffd ∷ 0x60000 ∷ 0x6fffd ∷ 0x70000 ∷ 0x7fffd ∷ 0x80000 ∷ 0x8fffd ∷ 0x90000 ∷ 0x9fffd ∷ 0xa0000 ∷ 0xafffd ∷ 0xb0000 ∷
    0xbfffd ∷ 0xc0000 ∷ 0xcfffd ∷ 0xd0000 ∷ 0xdfffd ∷ 0xe0000 ∷ 0xe0002 ∷ 0xefffd ∷ 0xf0000 ∷ 0xffffd ∷ 0x100000 ∷ 0x10fffd ∷ []

-- refused for 16, with FFFD as the replacement
abbrev gone : List ℕ
gone =
    0x9e4 ∷ 0x9e5 ∷ 0xa64 ∷ 0xa65 ∷ 0xae4 ∷ 0xae5 ∷ 0xb64 ∷ 0xb65 ∷ 0xbe4 ∷ 0xbe5 ∷ 0xc64 ∷ 0xc65 ∷
    0xce4 ∷ 0xce5 ∷ 0xd64 ∷ 0xd65 ∷ 0x2072 ∷ 0x2073 ∷ 0x2329 ∷ 0x232a ∷ 0x1d455 ∷ 0x1d49d ∷ 0x1d4a0 ∷ 0x1d4a1 ∷
    0x1d4a3 ∷ 0x1d4a4 ∷ 0x1d4a7 ∷ 0x1d4a8 ∷ 0x1d4ad ∷ 0x1d4ba ∷ 0x1d4bc ∷ 0x1d4c4 ∷ 0x1d506 ∷ 0x1d50b ∷ 0x1d50c ∷ 0x1d515 ∷
    0x1d51d ∷ 0x1d53a ∷ 0x1d53f ∷ 0x1d545 ∷ 0x1d547 ∷ 0x1d549 ∷ 0x1d551 ∷ []

-- and with itself
abbrev own : List ℕ
own =
    0xf900 ∷ 0xfa0d ∷ 0xfa10 ∷ 0xfa12 ∷ 0xfa15 ∷ 0xfa1e ∷ 0xfa20 ∷ 0xfa22 ∷ 0xfa25 ∷
    0xfa26 ∷ 0xfa2a ∷ 0xfa6d ∷ 0xfa70 ∷ 0xfad9 ∷ 0x2f800 ∷ 0x2fa1d ∷ []

-- the signs for ohm, kelvin and angstrom: with their letters with the option on, with themselves with it off
abbrev sign_rows : Bool → List Example
sign_rows true =
    (0x2126, 4 ∷ 16 ∷ 0x2126 ∷ 1 ∷ 0x3a9 ∷ 0 ∷ 0 ∷ []) ∷
    (0x212a, 4 ∷ 16 ∷ 0x212a ∷ 1 ∷ 0x4b ∷ 0 ∷ 0 ∷ []) ∷
    (0x212b, 4 ∷ 16 ∷ 0x212b ∷ 1 ∷ 0xc5 ∷ 0 ∷ 0 ∷ []) ∷ []
sign_rows false =
    (0x2126, 4 ∷ 16 ∷ 0x2126 ∷ 1 ∷ 0x2126 ∷ 0 ∷ 0 ∷ []) ∷
    (0x212a, 4 ∷ 16 ∷ 0x212a ∷ 1 ∷ 0x212a ∷ 0 ∷ 0 ∷ []) ∷
    (0x212b, 4 ∷ 16 ∷ 0x212b ∷ 1 ∷ 0x212b ∷ 0 ∷ 0 ∷ []) ∷ []

-- refused for 9
abbrev non_characters : List ℕ
non_characters =
    0xfdd0 ∷ 0xfdef ∷ 0xfffe ∷ 0xffff ∷ 0x1fffe ∷ 0x1ffff ∷ 0x2fffe ∷ 0x2ffff ∷ 0x3fffe ∷ 0x3ffff ∷ 0x4fffe ∷ 0x4ffff ∷
    0x5fffe ∷ 0x5ffff ∷ 0x6fffe ∷ 0x6ffff ∷ 0x7fffe ∷ 0x7ffff ∷ 0x8fffe ∷ 0x8ffff ∷ 0x9fffe ∷ 0x9ffff ∷ 0xafffe ∷ 0xaffff ∷
    0xbfffe ∷ 0xbffff ∷ 0xcfffe ∷ 0xcffff ∷ 0xdfffe ∷ 0xdffff ∷ 0xefffe ∷ 0xeffff ∷ 0xffffe ∷ 0xfffff ∷ 0x10fffe ∷ 0x10ffff ∷ []

abbrev rows : List Example
rows =
    all_give (0x0 ∷ 0x8 ∷ 0xb ∷ 0x1a ∷ 0x1c ∷ 0x1f ∷ 0x7f ∷ 0x9f ∷ []) (λ c. 4 ∷ 2 ∷ c ∷ [])
    (all_give (0x206a ∷ 0x206f ∷ []) (λ c. 4 ∷ 3 ∷ c ∷ [])
    (all_give (0x202a ∷ 0x202e ∷ 0x2066 ∷ 0x2069 ∷ []) (λ c. 4 ∷ 5 ∷ [])
    (all_give (0xfff9 ∷ 0xfffb ∷ []) (λ c. 4 ∷ 6 ∷ [])
    (all_give (0xe0001 ∷ []) (λ c. 4 ∷ 7 ∷ [])
    (all_give (0x2028 ∷ []) (λ c. 4 ∷ 8 ∷ [])
    (all_give non_characters (λ c. 4 ∷ 9 ∷ [])
    (all_give (0x2029 ∷ []) (λ c. 4 ∷ 10 ∷ [])
    (all_give (0xfeff ∷ []) (λ c. 4 ∷ 11 ∷ [])
    (all_give (0xfffc ∷ []) (λ c. 4 ∷ 12 ∷ [])
    (all_give (0x17b4 ∷ 0x17b5 ∷ []) (λ c. 4 ∷ 13 ∷ c ∷ [])
    (all_give (0x17d8 ∷ []) (λ c. 4 ∷ 14 ∷ [])
    (all_give gone (λ c. 4 ∷ 16 ∷ c ∷ 1 ∷ 0xfffd ∷ 0 ∷ 0 ∷ [])
    (all_give own (λ c. 4 ∷ 16 ∷ c ∷ 1 ∷ c ∷ 0 ∷ 0 ∷ [])
    (all_give accepted (λ c. 0 ∷ [])
    (all_give (0xd800 ∷ 0xdfff ∷ 0x110000 ∷ 0xffffffff ∷ []) (λ c. 1 ∷ [])
    (
    -- with other replacements, one to three
    (0x149, 4 ∷ 16 ∷ 0x149 ∷ 2 ∷ 0x2bc ∷ 0x6e ∷ 0 ∷ []) ∷
    (0x673, 4 ∷ 16 ∷ 0x673 ∷ 2 ∷ 0x627 ∷ 0x65f ∷ 0 ∷ []) ∷
    (0xf77, 4 ∷ 16 ∷ 0xf77 ∷ 2 ∷ 0xfb2 ∷ 0xf81 ∷ 0 ∷ []) ∷
    (0xf79, 4 ∷ 16 ∷ 0xf79 ∷ 2 ∷ 0xfb3 ∷ 0xf81 ∷ 0 ∷ []) ∷
    (0x17a3, 4 ∷ 16 ∷ 0x17a3 ∷ 1 ∷ 0x17a2 ∷ 0 ∷ 0 ∷ []) ∷
    (0x17a4, 4 ∷ 16 ∷ 0x17a4 ∷ 2 ∷ 0x17a2 ∷ 0x17b6 ∷ 0 ∷ []) ∷
    (0x2df5, 4 ∷ 16 ∷ 0x2df5 ∷ 2 ∷ 0x2ded ∷ 0x2dee ∷ 0 ∷ []) ∷
    (0xfb00, 4 ∷ 16 ∷ 0xfb00 ∷ 2 ∷ 0x66 ∷ 0x66 ∷ 0 ∷ []) ∷
    (0xfb01, 4 ∷ 16 ∷ 0xfb01 ∷ 2 ∷ 0x66 ∷ 0x69 ∷ 0 ∷ []) ∷
    (0xfb02, 4 ∷ 16 ∷ 0xfb02 ∷ 2 ∷ 0x66 ∷ 0x6c ∷ 0 ∷ []) ∷
    (0xfb03, 4 ∷ 16 ∷ 0xfb03 ∷ 3 ∷ 0x66 ∷ 0x66 ∷ 0x69 ∷ []) ∷
    (0xfb04, 4 ∷ 16 ∷ 0xfb04 ∷ 3 ∷ 0x66 ∷ 0x66 ∷ 0x6c ∷ []) ∷
    (0xfb05, 4 ∷ 16 ∷ 0xfb05 ∷ 2 ∷ 0x17f ∷ 0x74 ∷ 0 ∷ []) ∷
    (0xfb06, 4 ∷ 16 ∷ 0xfb06 ∷ 2 ∷ 0x73 ∷ 0x74 ∷ 0 ∷ []) ∷
    (0x111c4, 4 ∷ 16 ∷ 0x111c4 ∷ 2 ∷ 0x1118f ∷ 0x11180 ∷ 0 ∷ []) ∷
    []))))))))))))))))

-- "`check_basic_text_char` accepts 1B. Reason 16 for 2126 names 2126 itself."; "Entries on one character give 1 .. the check then 4.";
-- "reasons 2, 3, 13, 16 carry it, 16 also its one to three replacements."
-- "The check's own entry takes it too, and with it on reason 16 for the three names these replacements"
pub examples : (units : Bool) →
    map (λ (r : Example). check_answer units r.0) (sign_rows units ++ rows) ≡ map (λ (r : Example). r.1) (sign_rows units ++ rows)
unfolding is_char replace_of reason_of
examples true = refl
examples false = refl

-- "a write's 4 stays as it is"; "Reason 16 for 2126 names 2126 itself."
pub written : map check_numbers (0x2126 ∷ 0x212a ∷ 0x212b ∷ []) ≡ map (λ c. 16 ∷ c ∷ 1 ∷ c ∷ 0 ∷ 0 ∷ []) (0x2126 ∷ 0x212a ∷ 0x212b ∷ [])
unfolding replace_of reason_of check_numbers
written = refl
