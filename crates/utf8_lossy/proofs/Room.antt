-- How much comes out, and that it is characters, whatever is pending: each law holds of one turn, by its kind, and so of a chunk.
--     room           a chunk and the finish put out at most a character a byte, and one for what was pending
--     room_one       so a chunk of n bytes puts out n + 1 characters at most
--     replaced_le    no more bytes are replaced than came and were pending
--     are_chars_lem      all that a chunk puts out is characters; `finish_chars_lem` of a finish
--     pending_short  a record holds three bytes at most
--     pending_back, chars_back, counted_back   a record, a step's characters and an answer read back from what they list: no two list alike
use Prim.Native.Nat.{ℕ, ◌+◌, ◌*◌, ◌%◌, ◌≤◌}
use mathlib.Core.Bool.{true, cond}
use mathlib.Core.List.{List, [], ◌∷◌, ◌++◌}
use mathlib.Core.Path.{◌≡◌, refl}
use native.Mathlib.Omega.{arith}
use borrow.Author.Tests.{ltb-true}
use lib.Dec.{ltb}
use lib.ListN.{length, length-append}
use Rattle.common.proofs.Kit.{split, both}
use Rattle.scalars.specs.Chars.{is_char, are_chars}
use Rattle.scalars.proofs.Rows.{char_low, char_high}
use Rattle.scalars.proofs.Texts.{chars_append}
use Rattle.utf8_lossy.specs.declared.Kind.{Kind}
use Rattle.utf8_lossy.specs.declared.Kind.TheVariants.{Whole, More, Bad}
use Rattle.utf8_lossy.specs.declared.Pending.{Pending}
use Rattle.utf8_lossy.specs.declared.Pending.TheVariants.{Nothing, One, Two, Three}
use Rattle.utf8_lossy.specs.declared.Out.{Out}
use Rattle.utf8_lossy.specs.declared.Out.TheVariants.{Nothing as NoChar, One as OneChar, Two as TwoChars}
use Rattle.utf8_lossy.specs.Machine.{whole_of, on_tail, lead_three, lead_four, next_of, fresh_of, turn_of, step_of, outs_of, rest_of, replaced_of, finish_of}
use Rattle.utf8_lossy.specs.Decode.{pending_of, chars_out, counted_numbers}
use Rattle.common.specs.declared.Refusal.{Refusal}
use Rattle.utf8_lossy.specs.declared.Counted.{Counted}
use Rattle.std.specs.Prelude.{Result, Ok, Err}
use Rattle.common.specs.declared.Refusal.TheVariants.{NoRoom}
use Rattle.common.proofs.Answers.{refusal_by, refusal_back}

-- ---- characters
held_fresh : (k : Kind) (b : ℕ) → length (fresh_of k b).out + length (finish_of (fresh_of k b).pending) ≡ 1
held_fresh (Whole c) b = refl
held_fresh More b = refl
held_fresh Bad b = refl

pushed : (p : List ℕ) (b : ℕ) → length (finish_of (p ++ (b ∷ []))) ≡ 1
pushed [] b = refl
pushed (a ∷ p) b = refl

held : (k : Kind) (p : List ℕ) (b : ℕ) → length (turn_of k p b).out + length (finish_of (turn_of k p b).pending) ≤ 1 + length (finish_of p)
held (Whole c) p b = omega arith
held More p b = omega (arith, pushed p b)
held Bad [] b = omega arith
held Bad (a ∷ p) b = omega (arith, held_fresh (next_of [] b) b)

finish_one : (p : List ℕ) → length (finish_of p) ≤ 1
finish_one [] = omega arith
finish_one (a ∷ p) = omega arith

pub room : (p bs : List ℕ) → length (outs_of p bs) + length (finish_of (rest_of p bs)) ≤ length bs + length (finish_of p)
room p [] = omega arith
room p (b ∷ bs) =
    let t = step_of p b in
    omega (arith, length-append t.out (outs_of t.pending bs), held (next_of p b) p b, room t.pending bs)

pub room_one : (p bs : List ℕ) → length (outs_of p bs) ≤ length bs + 1
room_one p bs = omega (arith, room p bs, finish_one p)

-- ---- bytes that are replaced
taken_fresh : (k : Kind) (b : ℕ) → (fresh_of k b).replaced + length (fresh_of k b).pending ≤ 1
taken_fresh (Whole c) b = omega arith
taken_fresh More b = omega arith
taken_fresh Bad b = omega arith

taken : (k : Kind) (p : List ℕ) (b : ℕ) → (turn_of k p b).replaced + length (turn_of k p b).pending ≤ 1 + length p
taken (Whole c) p b = omega arith
taken More p b = omega (arith, length-append p (b ∷ []))
taken Bad [] b = omega arith
taken Bad (a ∷ p) b = omega (arith, taken_fresh (next_of [] b) b)

pub replaced_le : (p bs : List ℕ) → replaced_of p bs + length (rest_of p bs) ≤ length bs + length p
replaced_le p [] = omega arith
replaced_le p (b ∷ bs) = omega (arith, taken (next_of p b) p b, replaced_le (step_of p b).pending bs)

-- ---- only characters
-- what is right of a kind: a whole is a character
data Sound : Kind → Type 0 where
  whole : {c : ℕ} → is_char c ≡ true → Sound (Whole c)
  more : Sound More
  bad : Sound Bad

repl : is_char 0xFFFD ≡ true
repl = char_high 0xFFFD (omega arith) (omega arith)

whole_sound : (c : ℕ) → Sound (whole_of c)
whole_sound c = split Sound (is_char c) (λ h. whole h) (λ h. bad)

test_sound : (a n : ℕ) {k m : Kind} → Sound k → Sound m → Sound (cond (ltb a n) k m)
test_sound a n s t = split Sound (ltb a n) (λ h. s) (λ h. t)

tail_sound : (b : ℕ) {k : Kind} → Sound k → Sound (on_tail b k)
tail_sound b s = test_sound b _ bad (test_sound b _ s bad)

three_sound : (v : ℕ) → Sound (lead_three v)
three_sound v = test_sound v _ bad (test_sound v _ more (test_sound v _ bad more))

four_sound : (v : ℕ) → Sound (lead_four v)
four_sound v = test_sound v _ bad (test_sound v _ more bad)

next_sound : (p : List ℕ) (b : ℕ) → Sound (next_of p b)
next_sound [] b =
    split Sound (ltb b 0x80) (λ h. let z = ltb-true b 0x80 h in whole (char_low b (omega arith)))
    (λ h. test_sound b _ bad (test_sound b _ more bad))
next_sound (a ∷ []) b =
    tail_sound b (test_sound a _ (whole (char_low (a % 32 * 64 + b % 64) (omega arith)))
    (test_sound a _ (three_sound (a % 16 * 64 + b % 64)) (four_sound (a % 8 * 64 + b % 64))))
next_sound (a ∷ b ∷ []) c = tail_sound c (test_sound a _ (whole_sound (a % 16 * 4096 + b % 64 * 64 + c % 64)) more)
next_sound (a ∷ b ∷ c ∷ p) d = tail_sound d (whole_sound (a % 8 * 262144 + b % 64 * 4096 + c % 64 * 64 + d % 64))

fresh_chars : {k : Kind} (b : ℕ) → Sound k → are_chars (fresh_of k b).out ≡ true
fresh_chars b (whole s) = both s refl
fresh_chars b more = refl
fresh_chars b bad = both repl refl

turn_chars : {k : Kind} (p : List ℕ) (b : ℕ) → Sound k → are_chars (turn_of k p b).out ≡ true
turn_chars p b (whole s) = both s refl
turn_chars p b more = refl
turn_chars [] b bad = both repl refl
turn_chars (a ∷ p) b bad = both repl (fresh_chars b (next_sound [] b))

pub are_chars_lem : (p bs : List ℕ) → are_chars (outs_of p bs) ≡ true
are_chars_lem p [] = refl
are_chars_lem p (b ∷ bs) =
    chars_append (step_of p b).out _ (turn_chars p b (next_sound p b)) (are_chars_lem (step_of p b).pending bs)

pub finish_chars_lem : (p : List ℕ) → are_chars (finish_of p) ≡ true
finish_chars_lem [] = refl
finish_chars_lem (a ∷ p) = both repl refl

-- ---- the record
pub pending_short : (s : Pending) → length (pending_of s) ≤ 3
pending_short Nothing = omega arith
pending_short (One a) = omega arith
pending_short (Two a b) = omega arith
pending_short (Three a b c) = omega arith

-- the record that holds these bytes
abbrev pub record_of : List ℕ → Pending
record_of [] = Nothing
record_of (a ∷ []) = One a
record_of (a ∷ b ∷ []) = Two a b
record_of (a ∷ b ∷ c ∷ p) = Three a b c

pub pending_back : (s : Pending) → record_of (pending_of s) ≡ s
pending_back Nothing = refl
pending_back (One a) = refl
pending_back (Two a b) = refl
pending_back (Three a b c) = refl

-- what lists these characters, and these numbers
abbrev pub out_of : List ℕ → Out
out_of [] = NoChar
out_of (c ∷ []) = OneChar c
out_of (c ∷ d ∷ cs) = TwoChars c d

pub chars_back : (o : Out) → out_of (chars_out o) ≡ o
chars_back NoChar = refl
chars_back (OneChar c) = refl
chars_back (TwoChars c d) = refl

abbrev pub counted_of : List ℕ → Result Counted Refusal
counted_of [] = Err NoRoom
counted_of (n ∷ []) = Err (refusal_by n)
counted_of (n ∷ k ∷ []) = Err (refusal_by n)
counted_of (n ∷ k ∷ m ∷ ns) = Ok (record { written = k; replaced = m })

pub counted_back : (a : Result Counted Refusal) → counted_of (counted_numbers a) ≡ a
counted_back (Ok counted) = refl
counted_back (Err e) = rw (refusal_back e)
