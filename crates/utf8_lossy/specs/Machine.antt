-- The machine, over lists: its state is the pending bytes, those of a character that has begun. A state that no text leads to is taken
-- too: whatever is pending, only characters are put out. `decoded` (proofs/Reading.antt) says that what it puts out is `Lossy`.
use Rattle.std.specs.Prelude.{ℕ, ◌+◌, ◌*◌, ◌%◌, cond, List, [], ◌∷◌, ◌++◌, ltb, length}
use Rattle.scalars.specs.Chars.{is_char}
use Rattle.utf8_lossy.specs.declared.Kind.{Kind}
use Rattle.utf8_lossy.specs.declared.Kind.TheVariants.{Whole, More, Bad}

-- the value of all bits, if it is a character
abbrev pub whole_of : ℕ → Kind
whole_of c = cond (is_char c) (Whole c) Bad

-- a byte on the place of a continuation byte, 80..BF
abbrev pub on_tail : ℕ → Kind → Kind
on_tail b k = cond (ltb b 0x80) Bad (cond (ltb b 0xC0) k Bad)

-- E0..EF and a second byte, by the bits of both: none that is overlong, and no surrogate
abbrev pub lead_three : ℕ → Kind
lead_three v = cond (ltb v 0x20) Bad (cond (ltb v 0x360) More (cond (ltb v 0x380) Bad More))

-- F0..F4 and a second byte, by the bits of both: none that is overlong, and none above 10FFFF
abbrev pub lead_four : ℕ → Kind
lead_four v = cond (ltb v 0x10) Bad (cond (ltb v 0x110) More Bad)

-- what the pending bytes and one byte more are: a character, part of one, or no start of any
abbrev pub next_of : List ℕ → ℕ → Kind
next_of [] b = cond (ltb b 0x80) (Whole b) (cond (ltb b 0xC2) Bad (cond (ltb b 0xF5) More Bad))
next_of (a ∷ []) b =
    on_tail b (cond (ltb a 0xE0) (Whole (a % 32 * 64 + b % 64))
    (cond (ltb a 0xF0) (lead_three (a % 16 * 64 + b % 64)) (lead_four (a % 8 * 64 + b % 64))))
next_of (a ∷ b ∷ []) c = on_tail c (cond (ltb a 0xF0) (whole_of (a % 16 * 4096 + b % 64 * 64 + c % 64)) More)
next_of (a ∷ b ∷ c ∷ l) d = on_tail d (whole_of (a % 8 * 262144 + b % 64 * 4096 + c % 64 * 64 + d % 64))

-- the pending bytes after a byte, the characters put out, and how many bytes are replaced in them by U+FFFD
pub record Turn : Type 0 where
  pub pending : List ℕ
  pub out : List ℕ
  pub replaced : ℕ

-- a byte where nothing is pending
abbrev pub fresh_of : Kind → ℕ → Turn
fresh_of (Whole c) b = record { pending = []; out = c ∷ []; replaced = 0 }
fresh_of More b = record { pending = b ∷ []; out = []; replaced = 0 }
fresh_of Bad b = record { pending = []; out = 0xFFFD ∷ []; replaced = 1 }

-- a turn behind U+FFFD for n bytes
abbrev pub behind : ℕ → Turn → Turn
behind n t = record { pending = t.pending; out = 0xFFFD ∷ t.out; replaced = n + t.replaced }

-- a byte behind the pending bytes p: where it does not go on with them, U+FFFD for them, and the byte anew
abbrev pub turn_of : Kind → List ℕ → ℕ → Turn
turn_of (Whole c) p b = record { pending = []; out = c ∷ []; replaced = 0 }
turn_of More p b = record { pending = p ++ (b ∷ []); out = []; replaced = 0 }
turn_of Bad [] b = fresh_of Bad b
turn_of Bad (a ∷ p) b = behind (length (a ∷ p)) (fresh_of (next_of [] b) b)

abbrev pub step_of : List ℕ → ℕ → Turn
step_of p b = turn_of (next_of p b) p b

-- a chunk: what it puts out, what is pending behind it, and how many bytes are replaced in what it puts out
abbrev pub outs_of : List ℕ → List ℕ → List ℕ
outs_of p [] = []
outs_of p (b ∷ bs) = (step_of p b).out ++ outs_of (step_of p b).pending bs

abbrev pub rest_of : List ℕ → List ℕ → List ℕ
rest_of p [] = p
rest_of p (b ∷ bs) = rest_of (step_of p b).pending bs

abbrev pub replaced_of : List ℕ → List ℕ → ℕ
replaced_of p [] = 0
replaced_of p (b ∷ bs) = (step_of p b).replaced + replaced_of (step_of p b).pending bs

-- the end: U+FFFD for what is pending, which replaces as many bytes as are pending
abbrev pub finish_of : List ℕ → List ℕ
finish_of [] = []
finish_of (a ∷ p) = 0xFFFD ∷ []
