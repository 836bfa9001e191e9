-- What any character is replaced by, as a table's rule: one test that antt computes over the rows of `replace` and of the check,
-- and the law that carries it to every number.
--     replaced_clean        what replaces a character but ESC is accepted by the check, or is a CJK compatibility ideograph that the
--                           check lists or, with the option off, 2126, 212A or 212B; and is no ESC
--     replaced_chars        what replaces a character are characters
--     replaced_length       one to three
--     self_newline ..       0A, 20, 34F and ESC are their own replacement
--     accepted_newline ..   0A, 20, 34F and ESC are accepted; 1A is refused, as a control code
--     holds                 a test that passes, as an equation
use Prim.Native.Nat.{ℕ, ◌≤◌, ◌<◌}
use mathlib.Core.Path.{◌≡◌, refl}
use mathlib.Core.Bool.{Bool, true, false, not, ◌||◌}
use mathlib.Core.List.{List, [], ◌∷◌}
use native.Mathlib.Omega.{arith}
use lib.Dec.{T, ltb, eqb, eqb→eq, not_T, ltb→lt, nltb→le}
use lib.ListN.{length}
use Rattle.scalars.specs.Chars.{is_char, are_chars}
use Rattle.replace.specs.declared.Replaced.{Replaced}
use Rattle.replace.specs.declared.Replaced.TheVariants.{One, Two, Three}
use Rattle.replace.specs.Table.{in_spans}
use Rattle.replace.specs.Replace.{chars, rows_by, replace_of}
use Rattle.replace.proofs.Rows.{Piece, ◌until◌, At, here, there, null, not_null, passes, finds, uncovered, covered, or_r, and_i, all_rows, any_finds, other}
use Rattle.check_char.specs.Check.{excepted, refusals, reason_of, clean, all}

line : List Piece
line = 0 until 0x1b ∷ 0x1c until 0x110000 ∷ []

-- the pieces find no row of the check but for those of `excepted`
open_test : Bool → List Piece → Bool
open_test units = passes (λ r qs. null (uncovered (excepted units) qs)) (λ qs. true) refusals

row_test : Bool → Replaced → List Piece → Bool
row_test units a qs = null qs || all (clean units) (chars a)

test : (units : Bool) → T (passes (row_test units) (open_test units) (rows_by units) line)
unfolding row_test open_test reason_of line
test true = tt
test false = tt

accepted : (units : Bool) {c : ℕ} (qs : List Piece) → At c qs → T (open_test units qs) → T (eqb (reason_of c) 0 || in_spans (excepted units) c)
unfolding open_test reason_of
accepted units {c} qs i t =
    finds (λ r. T (eqb r 0 || in_spans (excepted units) c)) (λ r ps. null (uncovered (excepted units) ps)) (λ ps. true) 0
    (λ r ps j u. or_r (eqb r 0) (in_spans (excepted units) c) (covered (excepted units) ps j u)) (λ ps j u. tt) refusals qs t i

pub replaced_clean : (units : Bool) (c : ℕ) → c < 0x110000 → (c ≡ 0x1b → ⊥) → T (all (clean units) (chars (replace_of units c)))
unfolding replace_of row_test line
replaced_clean units c h n =
    finds (λ v. T (all (clean units) (chars v))) (row_test units) (open_test units) (One c)
    (λ a qs i t. other (null qs) (all (clean units) (chars a)) (not_null qs i) t)
    (λ qs i t.
    and_i (clean units c) true
    (and_i (eqb (reason_of c) 0 || in_spans (excepted units) c) (not (eqb c 0x1b)) (accepted units qs i t) (not_T (eqb c 0x1b) (λ e. n (eqb→eq c 0x1b e)))) tt)
    (rows_by units) line (test units) place
  where
    split : (b : Bool) → (T b → c < 0x1b) → (T (not b) → 0x1b ≤ c) → At c line
    split true f g = here {x = 0} (omega arith) (f tt)
    split false f g = let k : 0x1b ≤ c = g tt in there (here {x = 0x1c} (omega arith) h)

    place : At c line
    place = split (ltb c 0x1b) (ltb→lt c 0x1b) (nltb→le c 0x1b)

-- T of a test, as the equation
pub holds : (b : Bool) → T b → b ≡ true
holds true t = refl
holds false t = absurd t

is_true : {b : Bool} → b ≡ true → T b
is_true e = rw e tt

rows_chars : (units : Bool) → T (all_rows (λ (r : Replaced). are_chars (chars r)) (rows_by units))
unfolding is_char
rows_chars true = tt
rows_chars false = tt

pub replaced_chars : (units : Bool) (c : ℕ) → is_char c ≡ true → are_chars (chars (replace_of units c)) ≡ true
unfolding replace_of is_char
replaced_chars units c h =
    holds (are_chars (chars (replace_of units c)))
    (any_finds (λ (r : Replaced). are_chars (chars r)) (rows_by units) (One c) c (rows_chars units) (and_i (is_char c) true (is_true h) tt))

pub replaced_length : (r : Replaced) → (1 ≤ length (chars r)) × (length (chars r) ≤ 3)
replaced_length (One a) = omega arith
replaced_length (Two a b) = omega arith
replaced_length (Three a b c) = omega arith

pub self_newline : (units : Bool) → replace_of units 0xa ≡ One 0xa
unfolding replace_of
self_newline true = refl
self_newline false = refl

pub self_space : (units : Bool) → replace_of units 0x20 ≡ One 0x20
unfolding replace_of
self_space true = refl
self_space false = refl

pub self_joiner : (units : Bool) → replace_of units 0x34f ≡ One 0x34f
unfolding replace_of
self_joiner true = refl
self_joiner false = refl

pub self_escape : (units : Bool) → replace_of units 0x1b ≡ One 0x1b
unfolding replace_of
self_escape true = refl
self_escape false = refl

pub accepted_newline : reason_of 0xa ≡ 0
unfolding reason_of
accepted_newline = refl

pub accepted_space : reason_of 0x20 ≡ 0
unfolding reason_of
accepted_space = refl

pub accepted_joiner : reason_of 0x34f ≡ 0
unfolding reason_of
accepted_joiner = refl

pub refused_substitute : reason_of 0x1a ≡ 2
unfolding reason_of
refused_substitute = refl

pub accepted_escape : reason_of 0x1b ≡ 0
unfolding reason_of
accepted_escape = refl
