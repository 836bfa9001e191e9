-- The sequences of RFC 3629's grammar are the encodings of the characters.
-- Each rule of the grammar gives the value of its bits, which is a character of that row; each row of the table falls
-- into the rules by the value's bounds.
use Prim.Native.Nat.{ℕ, ◌+◌, ◌-◌, ◌*◌, ◌≤◌, ◌<◌}
use mathlib.Core.Path.{◌≡◌, sym, ◌∙◌}
use mathlib.Core.Bool.{true}
use mathlib.Core.Logic.{◌↔◌}
use mathlib.Core.List.{List, [], ◌∷◌}
use native.Mathlib.Omega.{arith}
use Rattle.scalars.specs.Chars.{is_char}
use Rattle.scalars.specs.Utf8.{encode_of, Encoding}
use Rattle.scalars.specs.Abnf.{Utf8Tail, Utf8Char, utf8_1, utf8_2, utf8_3_e0, utf8_3_e1, utf8_3_ed, utf8_3_ee, utf8_4_f0, utf8_4_f1, utf8_4_f4}
use Rattle.common.proofs.Kit.{by_lt}
use Rattle.scalars.proofs.Rows.{char_lt, char_gap, char_low, char_high, row1, row2, row3, row4, by_row}

same2 : {a b c d : ℕ} → a ≡ b → c ≡ d → a ∷ c ∷ [] ≡ b ∷ d ∷ []
same2 p q = cc

same3 : {a b c d e f : ℕ} → a ≡ b → c ≡ d → e ≡ f → a ∷ c ∷ e ∷ [] ≡ b ∷ d ∷ f ∷ []
same3 p q r = cc

same4 : {a b c d e f g h : ℕ} → a ≡ b → c ≡ d → e ≡ f → g ≡ h → a ∷ c ∷ e ∷ g ∷ [] ≡ b ∷ d ∷ f ∷ h ∷ []
same4 p q r s = cc

-- ---- from a sequence of the grammar to its character
two : (a b : ℕ) → 0xC2 ≤ a → a ≤ 0xDF → Utf8Tail b → Encoding (a ∷ b ∷ [])
two a b g h t =
    let v : ℕ = (a - 0xC0) * 64 + (b - 0x80) in
    (v, char_low v (omega arith), same2 (omega arith) (omega arith) ∙ sym (row2 v (omega arith) (omega arith)))

module _ (a b c : ℕ) (g : 0xE0 ≤ a) (h : a ≤ 0xEF) (t : Utf8Tail b) (u : Utf8Tail c) where
  abbrev v3 : ℕ
  v3 = (a - 0xE0) * 4096 + (b - 0x80) * 64 + (c - 0x80)

  three : 0x800 ≤ v3 → is_char v3 ≡ true → Encoding (a ∷ b ∷ c ∷ [])
  three k s = (v3, s, same3 (omega arith) (omega arith) (omega arith) ∙ sym (row3 v3 k (omega arith)))

module _ (a b c d : ℕ) (g : 0xF0 ≤ a) (h : a ≤ 0xF4) (t : Utf8Tail b) (u : Utf8Tail c) (w : Utf8Tail d) where
  abbrev v4 : ℕ
  v4 = (a - 0xF0) * 262144 + (b - 0x80) * 4096 + (c - 0x80) * 64 + (d - 0x80)

  four : 0x10000 ≤ v4 → v4 < 0x110000 → Encoding (a ∷ b ∷ c ∷ d ∷ [])
  four k s = (v4, char_high v4 (omega arith) s, same4 (omega arith) (omega arith) (omega arith) (omega arith) ∙ sym (row4 v4 k))

encoding : {l : List ℕ} → Utf8Char l → Encoding l
encoding (utf8_1 {a} h) = (a, char_low a (omega arith), sym (row1 a (omega arith)))
encoding (utf8_2 {a} {b} g h t) = two a b g h t
encoding (utf8_3_e0 {a} {b} {c} e g h u) =
    three a b c (omega arith) (omega arith) (omega arith) u (omega arith) (char_low _ (omega arith))
encoding (utf8_3_e1 {a} {b} {c} g h t u) = three a b c (omega arith) (omega arith) t u (omega arith) (char_low _ (omega arith))
encoding (utf8_3_ed {a} {b} {c} e g h u) =
    three a b c (omega arith) (omega arith) (omega arith) u (omega arith) (char_low _ (omega arith))
encoding (utf8_3_ee {a} {b} {c} g h t u) =
    three a b c (omega arith) (omega arith) t u (omega arith) (char_high _ (omega arith) (omega arith))
encoding (utf8_4_f0 {a} {b} {c} {d} e g h u w) =
    four a b c d (omega arith) (omega arith) (omega arith) u w (omega arith) (omega arith)
encoding (utf8_4_f1 {a} {b} {c} {d} g h t u w) = four a b c d (omega arith) (omega arith) t u w (omega arith) (omega arith)
encoding (utf8_4_f4 {a} {b} {c} {d} e g h u w) =
    four a b c d (omega arith) (omega arith) (omega arith) u w (omega arith) (omega arith)

-- ---- from a character to a sequence of the grammar
matches : (c : ℕ) → is_char c ≡ true → Utf8Char (encode_of c)
matches c s =
    let top : c < 0x110000 = char_lt c s in
    by_row Utf8Char c (λ h. utf8_1 (omega arith)) (λ g h. utf8_2 (omega arith) (omega arith) (omega arith))
    (λ g h.
    by_lt c 0x1000 (λ k. utf8_3_e0 (omega arith) (omega arith) (omega arith) (omega arith))
    (λ i. by_lt c 0xD000 (λ k. utf8_3_e1 (omega arith) (omega arith) (omega arith) (omega arith))
    (λ i. by_lt c 0xD800 (λ k. utf8_3_ed (omega arith) (omega arith) (omega arith) (omega arith))
    (λ i. let z = char_gap c s i in utf8_3_ee (omega arith) (omega arith) (omega arith) (omega arith)))))
    (λ g.
    by_lt c 0x40000 (λ k. utf8_4_f0 (omega arith) (omega arith) (omega arith) (omega arith) (omega arith))
    (λ i. by_lt c 0x100000 (λ k. utf8_4_f1 (omega arith) (omega arith) (omega arith) (omega arith) (omega arith))
    (λ i. utf8_4_f4 (omega arith) (omega arith) (omega arith) (omega arith) (omega arith))))

pub grammar : (l : List ℕ) → Utf8Char l ↔ Encoding l
grammar l = (λ u. encoding u, λ e. rw e.2 (matches e.0 e.1))
