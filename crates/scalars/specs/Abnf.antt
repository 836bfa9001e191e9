-- The grammar of RFC 3629, section 4, rule by rule: the byte sequences of one character.
-- `grammar` (proofs/Grammar.antt) says that they are the encodings of the characters and no others.
use Rattle.std.specs.Prelude.{ℕ, ◌≤◌, ◌≡◌, List, [], ◌∷◌}

-- UTF8-tail = %x80-BF
abbrev pub Utf8Tail : ℕ → Type 0
Utf8Tail b = (0x80 ≤ b) × (b ≤ 0xBF)

-- UTF8-char = UTF8-1 / UTF8-2 / UTF8-3 / UTF8-4
pub data Utf8Char : List ℕ → Type 0 where
  -- UTF8-1 = %x00-7F
  utf8_1 : {a : ℕ} → a ≤ 0x7F → Utf8Char (a ∷ [])
  -- UTF8-2 = %xC2-DF UTF8-tail
  utf8_2 : {a b : ℕ} → 0xC2 ≤ a → a ≤ 0xDF → Utf8Tail b → Utf8Char (a ∷ b ∷ [])
  -- UTF8-3 = %xE0 %xA0-BF UTF8-tail / %xE1-EC 2( UTF8-tail ) / %xED %x80-9F UTF8-tail / %xEE-EF 2( UTF8-tail )
  utf8_3_e0 : {a b c : ℕ} → a ≡ 0xE0 → 0xA0 ≤ b → b ≤ 0xBF → Utf8Tail c → Utf8Char (a ∷ b ∷ c ∷ [])
  utf8_3_e1 : {a b c : ℕ} → 0xE1 ≤ a → a ≤ 0xEC → Utf8Tail b → Utf8Tail c → Utf8Char (a ∷ b ∷ c ∷ [])
  utf8_3_ed : {a b c : ℕ} → a ≡ 0xED → 0x80 ≤ b → b ≤ 0x9F → Utf8Tail c → Utf8Char (a ∷ b ∷ c ∷ [])
  utf8_3_ee : {a b c : ℕ} → 0xEE ≤ a → a ≤ 0xEF → Utf8Tail b → Utf8Tail c → Utf8Char (a ∷ b ∷ c ∷ [])
  -- UTF8-4 = %xF0 %x90-BF 2( UTF8-tail ) / %xF1-F3 3( UTF8-tail ) / %xF4 %x80-8F 2( UTF8-tail )
  utf8_4_f0 : {a b c d : ℕ} → a ≡ 0xF0 → 0x90 ≤ b → b ≤ 0xBF → Utf8Tail c → Utf8Tail d → Utf8Char (a ∷ b ∷ c ∷ d ∷ [])
  utf8_4_f1 : {a b c d : ℕ} → 0xF1 ≤ a → a ≤ 0xF3 → Utf8Tail b → Utf8Tail c → Utf8Tail d → Utf8Char (a ∷ b ∷ c ∷ d ∷ [])
  utf8_4_f4 : {a b c d : ℕ} → a ≡ 0xF4 → 0x80 ≤ b → b ≤ 0x8F → Utf8Tail c → Utf8Tail d → Utf8Char (a ∷ b ∷ c ∷ d ∷ [])
