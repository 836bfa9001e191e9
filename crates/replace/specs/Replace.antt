-- What each character is replaced by: `replace` of internals/src/replace.rs, row by row in its order, and the rows that an option adds.
use Rattle.std.specs.Prelude.{ℕ, List, [], ◌∷◌, ◌++◌, Bool, true, false, cond, Result, Ok, Err}
use Rattle.replace.specs.declared.Replaced.{Replaced}
use Rattle.replace.specs.declared.Replaced.TheVariants.{One, Two, Three}
use Rattle.common.specs.Answers.{refusal_number}
use Rattle.scalars.specs.Chars.{is_char}
use Rattle.replace.specs.Table.{Span, ◌to◌, one, Row, ◌gives◌, lookup, each}
use Rattle.common.specs.declared.Refusal.{Refusal}

-- the characters of an answer, in order
abbrev pub chars : Replaced → List ℕ
chars (One a) = a ∷ []
chars (Two a b) = a ∷ b ∷ []
chars (Three a b c) = a ∷ b ∷ c ∷ []

-- "Unassigned characters with replacements", as `replace` lists them; `check_basic_text_char` has the same list
abbrev pub unassigned_replaced : List Span
unassigned_replaced =
    0x9e4 to 0x9e5 ∷ 0xa64 to 0xa65 ∷ 0xae4 to 0xae5 ∷ 0xb64 to 0xb65 ∷
    0xbe4 to 0xbe5 ∷ 0xc64 to 0xc65 ∷ 0xce4 to 0xce5 ∷ 0xd64 to 0xd65 ∷ 0x2072 to 0x2073 ∷
    one 0x1d455 ∷ one 0x1d49d ∷ 0x1d4a0 to 0x1d4a1 ∷ 0x1d4a3 to 0x1d4a4 ∷ 0x1d4a7 to 0x1d4a8 ∷
    one 0x1d4ad ∷ one 0x1d4ba ∷ one 0x1d4bc ∷ one 0x1d4c4 ∷
    one 0x1d506 ∷ 0x1d50b to 0x1d50c ∷ one 0x1d515 ∷
    one 0x1d51d ∷ one 0x1d53a ∷ one 0x1d53f ∷ one 0x1d545 ∷
    0x1d547 to 0x1d549 ∷ one 0x1d551 ∷ []

-- the noncharacters
abbrev pub nonchars : List Span
nonchars =
    0xfffe to 0xffff ∷ 0x1fffe to 0x1ffff ∷ 0x2fffe to 0x2ffff ∷ 0x3fffe to 0x3ffff ∷
    0x4fffe to 0x4ffff ∷ 0x5fffe to 0x5ffff ∷ 0x6fffe to 0x6ffff ∷ 0x7fffe to 0x7ffff ∷
    0x8fffe to 0x8ffff ∷ 0x9fffe to 0x9ffff ∷ 0xafffe to 0xaffff ∷ 0xbfffe to 0xbffff ∷
    0xcfffe to 0xcffff ∷ 0xdfffe to 0xdffff ∷ 0xefffe to 0xeffff ∷ 0xffffe to 0xfffff ∷
    0x10fffe to 0x10ffff ∷ 0xfdd0 to 0xfdef ∷ []

-- the characters that U+FFFD replaces
abbrev pub removed : List Span
removed =
    -- C0 except LF, tab, FF and ESC; DEL; C1 except NEL
    0x0 to 0x8 ∷ one 0xb ∷ 0xd to 0x1a ∷ 0x1c to 0x1f ∷ 0x7f to 0x84 ∷ 0x86 to 0x9f ∷
    -- angle brackets
    0x2329 to 0x232a ∷
    -- interlinear annotations
    0xfff9 to 0xfffb ∷
    (unassigned_replaced ++
    -- object replacement character
    one 0xfffc ∷
    -- Khmer characters erroneously invented by Unicode
    0x17b4 to 0x17b5 ∷ one 0x17d8 ∷
    -- deprecated format characters
    0x206a to 0x206f ∷
    -- bidirectional format characters
    0x202a to 0x202e ∷ 0x2066 to 0x2069 ∷
    -- language tag
    one 0xe0001 ∷
    nonchars)

-- its rows: "Replacement is one decision over all characters, as `replace` has it"
abbrev pub replacements : List (Row Replaced)
replacements =
    one 0xfeff gives One 0x2060 ∷
    one 0x149 gives Two 0x2bc 0x6e ∷
    one 0x673 gives Two 0x627 0x65f ∷
    one 0xf77 gives Two 0xfb2 0xf81 ∷
    one 0xf79 gives Two 0xfb3 0xf81 ∷
    one 0x17a3 gives One 0x17a2 ∷
    one 0x17a4 gives Two 0x17a2 0x17b6 ∷
    -- discouraged characters
    one 0x2df5 gives Two 0x2ded 0x2dee ∷
    one 0x111c4 gives Two 0x1118f 0x11180 ∷
    0x2028 to 0x2029 gives One 0x20 ∷
    -- Latin ligatures
    one 0xfb00 gives Two 0x66 0x66 ∷
    one 0xfb01 gives Two 0x66 0x69 ∷
    one 0xfb02 gives Two 0x66 0x6c ∷
    one 0xfb03 gives Three 0x66 0x66 0x69 ∷
    one 0xfb04 gives Three 0x66 0x66 0x6c ∷
    one 0xfb05 gives Two 0x17f 0x74 ∷
    one 0xfb06 gives Two 0x73 0x74 ∷
    one 0xc gives One 0x20 ∷
    one 0x85 gives One 0x20 ∷
    each removed (One 0xfffd) []

-- the rows of the option for the signs of ohm, kelvin and angstrom: "replacement turns U+2126 into U+03A9, U+212A into U+004B and U+212B
-- into U+00C5, as Unicode decomposes them"
abbrev pub unit_signs : List (Row Replaced)
unit_signs =
    one 0x2126 gives One 0x3a9 ∷
    one 0x212a gives One 0x4b ∷
    one 0x212b gives One 0xc5 ∷ []

-- the rows with the option on, and off
abbrev pub rows_by : Bool → List (Row Replaced)
rows_by true = unit_signs ++ replacements
rows_by false = replacements

-- what replaces c, with the option on or off: its row's answer, and "anything else is itself"
unfoldable pub replace_of : Bool → ℕ → Replaced
replace_of units c = lookup (rows_by units) (One c) c

-- an answer of the entry by document 01's numbers: 0 and the one to three characters, or the refusal's number
abbrev pub replacement_numbers : Result Replaced Refusal → List ℕ
replacement_numbers (Ok r) = 0 ∷ chars r
replacement_numbers (Err e) = refusal_number e ∷ []

-- "Entries on one character give 1"
abbrev pub replacement_of : Bool → ℕ → List ℕ
replacement_of units c = cond (is_char c) (0 ∷ chars (replace_of units c)) (1 ∷ [])
