-- The step of `Categorize`, in rows and for every answer. The reasons of the rows are the answers of the comparison's oracle to the check,
-- which is the original Rust; 1A, and that the reason is kept, are `record_error` of internals/src/categorize.rs.
--     categories          rows of two steps, one behind the other
--     categorized_back    an answer read back from its numbers: no two list alike
use Prim.Native.Nat.{ℕ}
use mathlib.Core.Bool.{cond}
use mathlib.Core.List.{List, [], ◌∷◌, map}
use mathlib.Core.Path.{◌≡◌, refl, ap}
use lib.Dec.{eqb}
use lib.ListN.{drop, get_or}
use Rattle.replace.specs.Replace.{replace_of}
use Rattle.check_char.specs.declared.BasicTextError.{BasicTextError}
use Rattle.check_char.specs.declared.BasicTextError.TheVariants.{ControlCode}
use Rattle.check_char.specs.declared.Categorize.{Categorize}
use Rattle.check_char.specs.declared.Categorized.{Categorized}
use Rattle.check_char.specs.declared.Categorized.TheVariants.{Char, Sub}
use Rattle.check_char.specs.Check.{reason_of, check_numbers, categorized_numbers, categorize_of}
use Rattle.check_char.proofs.Back.{checked_of, checked_back}
use Rattle.std.specs.Prelude.{⊤, Result, Ok, Err}

-- a record that keeps no reason, and one that keeps the reason for 7
abbrev new : Categorize
new = record { error = Ok tt }

abbrev kept : Categorize
kept = record { error = Err (ControlCode 7) }

-- "Each character is checked, refused ones becoming 1A": a record and a character, with the step's numbers
abbrev rows : List ((Categorize × ℕ) × List ℕ)
rows =
    -- an accepted character goes on as it came, ESC among them, and the record stays
    ((new, 0x61), 0 ∷ 0x61 ∷ 0 ∷ [])
    ∷ ((new, 0x0A), 0 ∷ 0x0A ∷ 0 ∷ [])
    ∷ ((new, 0x1B), 0 ∷ 0x1B ∷ 0 ∷ [])
    ∷ ((kept, 0x61), 0 ∷ 0x61 ∷ 2 ∷ 7 ∷ [])
    -- a refused one becomes 1A, itself too, and the record keeps its reason, the last one
    ∷ ((new, 0x07), 4 ∷ 0x1A ∷ 2 ∷ 7 ∷ [])
    ∷ ((new, 0xFFFE), 4 ∷ 0x1A ∷ 9 ∷ [])
    ∷ ((new, 0x1A), 4 ∷ 0x1A ∷ 2 ∷ 0x1A ∷ [])
    ∷ ((kept, 0xFEFF), 4 ∷ 0x1A ∷ 11 ∷ [])
    ∷ ((kept, 0x2126), 4 ∷ 0x1A ∷ 16 ∷ 0x2126 ∷ 1 ∷ 0x2126 ∷ 0 ∷ 0 ∷ [])
    ∷ ((new, 0xFB03), 4 ∷ 0x1A ∷ 16 ∷ 0xFB03 ∷ 3 ∷ 0x66 ∷ 0x66 ∷ 0x69 ∷ [])
    ∷ []

pub categories :
    map (λ (row : (Categorize × ℕ) × List ℕ). categorize_of row.0.0 row.0.1) rows ≡ map (λ (row : (Categorize × ℕ) × List ℕ). row.1) rows
unfolding reason_of check_numbers replace_of
categories = refl

-- ---- read back
abbrev pub categorized_of : List ℕ → Categorized
categorized_of ns =
    let r : Categorize = record { error = checked_of (drop 2 ns) } in
    cond (eqb (get_or ns 0 0) 0) (Char (get_or ns 1 0) r) (Sub (get_or ns 1 0) r)

pub categorized_back : (a : Categorized) → categorized_of (categorized_numbers a) ≡ a
categorized_back (Char c r) = ap (λ (e : Result ⊤ BasicTextError). Char c (record { error = e })) (checked_back r.error)
categorized_back (Sub c r) = ap (λ (e : Result ⊤ BasicTextError). Sub c (record { error = e })) (checked_back r.error)
