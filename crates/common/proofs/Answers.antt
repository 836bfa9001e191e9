-- An answer read back from its numbers: no two answers list alike.
--     refusal_back    for every refusal, that of its number is it
--     refusal_some    and no refusal has the number 0
--     written_back    for every answer, those of its numbers are it
use Prim.Native.Nat.{ℕ}
use mathlib.Core.Path.{◌≡◌, refl}
use mathlib.Core.List.{List, [], ◌∷◌}
use native.Mathlib.Omega.{arith}
use Rattle.std.specs.Prelude.{Result, Ok, Err, cond, eqb}
use Rattle.common.specs.declared.Refusal.{Refusal}
use Rattle.common.specs.declared.Refusal.TheVariants.{NotAChar, WrongPage, NotUtf8, Unwritable, NoStart, EscapeFull, SmallBuffer, NoRoom, UnsoundWriter, CountLimit, AfterNonEnd, AfterNoNewline, InEscape, OddBytes, UnpairedSurrogate}
use Rattle.common.specs.Answers.{refusal_number, written_numbers}

-- the refusal of this number
abbrev pub refusal_by : ℕ → Refusal
refusal_by n =
    cond (eqb n 1) NotAChar (cond (eqb n 2) WrongPage (cond (eqb n 3) NotUtf8 (cond (eqb n 4) Unwritable (
    cond (eqb n 5) NoStart (cond (eqb n 6) EscapeFull (cond (eqb n 7) SmallBuffer (cond (eqb n 8) NoRoom (
    cond (eqb n 9) UnsoundWriter (cond (eqb n 10) CountLimit (cond (eqb n 11) AfterNonEnd (cond (eqb n 12) AfterNoNewline (
    cond (eqb n 13) InEscape (cond (eqb n 14) OddBytes (UnpairedSurrogate))))))))))))))

pub refusal_back : (e : Refusal) → refusal_by (refusal_number e) ≡ e
refusal_back NotAChar = refl
refusal_back WrongPage = refl
refusal_back NotUtf8 = refl
refusal_back Unwritable = refl
refusal_back NoStart = refl
refusal_back EscapeFull = refl
refusal_back SmallBuffer = refl
refusal_back NoRoom = refl
refusal_back UnsoundWriter = refl
refusal_back CountLimit = refl
refusal_back AfterNonEnd = refl
refusal_back AfterNoNewline = refl
refusal_back InEscape = refl
refusal_back OddBytes = refl
refusal_back UnpairedSurrogate = refl

-- the answer of these numbers
abbrev pub answer_of : List ℕ → Result ℕ Refusal
answer_of [] = Ok 0
answer_of (n ∷ []) = Err (refusal_by n)
answer_of (n ∷ k ∷ ns) = Ok k

pub written_back : (a : Result ℕ Refusal) → answer_of (written_numbers a) ≡ a
written_back (Ok k) = refl
written_back (Err e) = rw (refusal_back e)

-- no refusal has the number 0
pub refusal_some : (e : Refusal) → refusal_number e ≡ 0 → ⊥
refusal_some NotAChar h = omega arith
refusal_some WrongPage h = omega arith
refusal_some NotUtf8 h = omega arith
refusal_some Unwritable h = omega arith
refusal_some NoStart h = omega arith
refusal_some EscapeFull h = omega arith
refusal_some SmallBuffer h = omega arith
refusal_some NoRoom h = omega arith
refusal_some UnsoundWriter h = omega arith
refusal_some CountLimit h = omega arith
refusal_some AfterNonEnd h = omega arith
refusal_some AfterNoNewline h = omega arith
refusal_some InEscape h = omega arith
refusal_some OddBytes h = omega arith
refusal_some UnpairedSurrogate h = omega arith
