-- The rules of a run of characters, what a fault is, and which fault is the first. Document 02, A.1. Characters are hexadecimal.
use Rattle.std.specs.Prelude.{ℕ, ◌+◌, ◌<◌, Bool, true, false, not, ◌&&◌, List, ◌⊎◌, ◌≡◌, eqb, length, get_or}
use Rattle.text_utils.specs.Classes.{basic_text_start, basic_text_end}
use Rattle.check_char.specs.Check.{reason_of}
use Rattle.check_run.specs.declared.FaultKind.{FaultKind}
use Rattle.check_run.specs.declared.FaultKind.TheVariants.{Char, Start, End, Newline}

-- ---- the rules
-- of a page and a run; `get_or cs i 0` is the character at place i
pub record Rules (p cs : List ℕ) : Type 0 where
  -- "all accepted and none ESC"
  pub all_accepted : (i : ℕ) → i < length cs → reason_of (get_or cs i 0) ≡ 0
  pub none_escape : (i : ℕ) → i < length cs → get_or cs i 0 ≡ 0x1B → ⊥
  -- "first a start"
  pub first_start : 0 < length cs → basic_text_start p (get_or cs 0 0) ≡ true
  -- "last an end"
  pub last_end : (i : ℕ) → i + 1 ≡ length cs → basic_text_end (get_or cs i 0) ≡ true
  -- "and a newline last unless empty"
  pub last_newline : (i : ℕ) → i + 1 ≡ length cs → get_or cs i 0 ≡ 0x0A

-- ---- faults: a rule broken at a place
-- "all accepted and none ESC", of one character
abbrev pub allowed : ℕ → Bool
allowed c = eqb (reason_of c) 0 && not (eqb c 0x1B)

-- at a place, counted from 0, by its kind. "End and newline faults are placed at the last character."
abbrev pub Broken : (p cs : List ℕ) → ℕ → FaultKind → Type 0
Broken p cs i Char = (i < length cs) × (allowed (get_or cs i 0) ≡ false)
Broken p cs i Start = (i ≡ 0) × ((i < length cs) × (basic_text_start p (get_or cs i 0) ≡ false))
Broken p cs i End = (i + 1 ≡ length cs) × (basic_text_end (get_or cs i 0) ≡ false)
Broken p cs i Newline = (i + 1 ≡ length cs) × (eqb (get_or cs i 0) 0x0A ≡ false)

-- ---- the first fault
-- the kinds by number: "At one place a refused character or ESC (one kind) comes first, then a start, an end and a newline fault."
abbrev pub kind_number : FaultKind → ℕ
kind_number Char = 1
kind_number Start = 2
kind_number End = 3
kind_number Newline = 4

-- "in reading order": at an earlier place, or at the same place and of an earlier kind
abbrev pub Before : ℕ → FaultKind → ℕ → FaultKind → Type 0
Before i k j m = (i < j) ⊎ ((i ≡ j) × (kind_number k < kind_number m))

-- "the first fault in reading order": a fault with no earlier one
pub record First (p cs : List ℕ) (i : ℕ) (k : FaultKind) : Type 0 where
  pub is : Broken p cs i k
  pub no_earlier : (j : ℕ) (m : FaultKind) → Before j m i k → Broken p cs j m → ⊥
