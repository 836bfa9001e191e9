-- What bytes of known kinds come to, for who goes on from here: a whole character, bytes below 80, and a line end.
--     char_decoded   the encoding of a character, where nothing is pending, is the character
--     step_bytes     where unicode's step finds a character, its encoding stands; `step_rest` with what is behind it, and `step_char`,
--                    `step_next`
--     step_low       a byte below 80, where nothing is pending, is itself
--     low_decoded    bytes below 80, where nothing is pending, are themselves; `ascii_decoded` by their places
--     step_ends, low_ends    a byte below 80 ends what is pending, whatever it is: U+FFFD for it, and then itself
--     newline_ends   so does 0A
--     line_outs, line_rest, line_replaced    so a line is read alike, alone and in a text
use Prim.Native.Nat.{ℕ, suc, ◌+◌, ◌-◌, ◌<◌}
use mathlib.Core.Bool.{Bool, true, ◌&&◌}
use mathlib.Core.List.{List, [], ◌∷◌, ◌++◌, append_assoc, append-nil}
use mathlib.Core.Path.{◌≡◌, refl, ap, ◌∙◌}
use native.Mathlib.Nat.{add-zero}
use native.Mathlib.Omega.{arith}
use borrow.Author.Tests.{lt-ltb, ltb-true, eqb-true}
use lib.Dec.{ltb, eqb}
use lib.ListN.{length, take, drop}
use lib.Seq.{drop-drop, take_at}
use Rattle.common.proofs.Kit.{both, both_true, never}
use Rattle.scalars.specs.Chars.{is_char}
use Rattle.scalars.specs.Utf8.{encode_of, begins, utf8_step_of}
use Rattle.scalars.specs.Inner.{Ascii}
use Rattle.scalars.proofs.Steps.{step_exactly}
use Rattle.utf8_lossy.specs.Machine.{Turn, step_of, outs_of, rest_of, replaced_of, finish_of}
use Rattle.utf8_lossy.proofs.Reading.{outs_append, rest_append, replaced_append, text}
use Rattle.std.specs.Prelude.{Some}

-- what the bytes bs come to where p is pending: these characters, these pending bytes, and so many bytes replaced
abbrev pub Comes : List ℕ → List ℕ → List ℕ → List ℕ → ℕ → Type 0
Comes p bs out rest n = (outs_of p bs ≡ out) × (rest_of p bs ≡ rest) × (replaced_of p bs ≡ n)

-- ---- a whole character
pub char_decoded : (c : ℕ) → is_char c ≡ true → Comes [] (encode_of c) (c ∷ []) [] 0
char_decoded c s = rw append-nil at (text (c ∷ []) (both s refl))

begins_rest : (ws bs : List ℕ) → begins ws bs ≡ true → bs ≡ ws ++ drop (length ws) bs
begins_rest [] bs h = refl
begins_rest (w ∷ ws) [] h = never h
begins_rest (w ∷ ws) (b ∷ bs) h =
    let p = both_true (eqb w b) (begins ws bs) h in
    let e = eqb-true w b p.0 in
    rw e (ap (λ (l : List ℕ). b ∷ l) (begins_rest ws bs p.1))

module _ (bs : List ℕ) (at c next : ℕ) (e : utf8_step_of bs at ≡ Some (c, next)) where
  pub step_char : is_char c ≡ true
  step_char = ((step_exactly bs at c next).0 e).0.char

  pub step_next : next ≡ at + length (encode_of c)
  step_next = ((step_exactly bs at c next).0 e).1

  pub step_rest : drop at bs ≡ encode_of c ++ drop next bs
  step_rest =
      begins_rest (encode_of c) (drop at bs) ((step_exactly bs at c next).0 e).0.bytes
      ∙ rw (step_next, drop-drop)

  pub step_bytes : take (next - at) (drop at bs) ≡ encode_of c
  step_bytes = rw step_rest (take_at (encode_of c) (drop next bs) (next - at) (omega (arith, step_next)))

-- ---- bytes below 80
pub step_low : (b : ℕ) → b < 0x80 → step_of [] b ≡ record { pending = []; out = b ∷ []; replaced = 0 }
step_low b h = rw (lt-ltb b 0x80 h)

-- all of them are below 80
abbrev pub all_low : List ℕ → Bool
all_low [] = true
all_low (b ∷ bs) = ltb b 0x80 && all_low bs

pub low_decoded : (bs : List ℕ) → all_low bs ≡ true → Comes [] bs bs [] 0
low_decoded [] h = (refl, refl, refl)
low_decoded (b ∷ bs) h =
    let p = both_true (ltb b 0x80) (all_low bs) h in
    let e = step_low b (ltb-true b 0x80 p.0) in
    let r = low_decoded bs p.1 in
    (rw (e, r.0), rw (e, r.1), rw (e, r.2))

low_of : (bs : List ℕ) → Ascii bs 0 (length bs) → all_low bs ≡ true
low_of [] h = refl
low_of (b ∷ bs) h =
    both (lt-ltb b 0x80 (h 0 (omega arith) (omega arith))) (low_of bs (λ x l g. h (suc x) (omega arith) (omega arith)))

pub ascii_decoded : (bs : List ℕ) → Ascii bs 0 (length bs) → Comes [] bs bs [] 0
ascii_decoded bs h = low_decoded bs (low_of bs h)

-- ---- what ends the pending bytes
pub step_ends : (p : List ℕ) (b : ℕ) → b < 0x80 → step_of p b ≡ record { pending = []; out = finish_of p ++ (b ∷ []); replaced = length p }
step_ends [] b h = step_low b h
step_ends (x ∷ []) b h = simp (lt-ltb b 0x80 h)
step_ends (x ∷ y ∷ []) b h = simp (lt-ltb b 0x80 h)
step_ends (x ∷ y ∷ z ∷ p) b h = simp (lt-ltb b 0x80 h, add-zero)

pub low_ends : (p : List ℕ) (b : ℕ) → b < 0x80 → Comes p (b ∷ []) (finish_of p ++ (b ∷ [])) [] (length p)
low_ends p b h = let e = step_ends p b h in (rw (e, append-nil), ap (λ (t : Turn). t.pending) e, rw (e, add-zero))

pub newline_ends : (p : List ℕ) → Comes p (0x0A ∷ []) (finish_of p ++ (0x0A ∷ [])) [] (length p)
newline_ends p = low_ends p 0x0A (omega arith)

-- a line xs, its end, and what follows
module _ (p xs ys : List ℕ) where
  pub line_outs : outs_of p (xs ++ (0x0A ∷ ys)) ≡ (outs_of p xs ++ finish_of (rest_of p xs)) ++ (0x0A ∷ outs_of [] ys)
  line_outs =
      let n = newline_ends (rest_of p xs) in
      outs_append p xs (0x0A ∷ ys)
      ∙ rw (outs_append (rest_of p xs) (0x0A ∷ []) ys, n.0, n.1)
      (simp append_assoc)

  pub line_rest : rest_of p (xs ++ (0x0A ∷ ys)) ≡ rest_of [] ys
  line_rest =
      let n = newline_ends (rest_of p xs) in
      rest_append p xs (0x0A ∷ ys) ∙ rest_append (rest_of p xs) (0x0A ∷ []) ys ∙ ap (λ (q : List ℕ). rest_of q ys) n.1

  pub line_replaced : replaced_of p (xs ++ (0x0A ∷ ys)) ≡ replaced_of p xs + length (rest_of p xs) + replaced_of [] ys
  line_replaced =
      let n = newline_ends (rest_of p xs) in
      let m = ap (λ (q : List ℕ). replaced_of q ys) n.1 in
      omega (arith, replaced_append p xs (0x0A ∷ ys), replaced_append (rest_of p xs) (0x0A ∷ []) ys, n.2, m)
