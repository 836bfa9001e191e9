-- RFC 3629's own examples, both ways (section 7), and the invalid sequences that it names (sections 3, 4 and 10).
use Prim.Native.Nat.{ℕ}
use mathlib.Core.Path.{◌≡◌, refl, sym}
use mathlib.Core.Bool.{true}
use mathlib.Core.List.{List, [], ◌∷◌}
use native.Mathlib.Omega.{arith}
use Rattle.scalars.specs.Chars.{is_char, are_chars}
use Rattle.scalars.specs.Utf8.{encode_of, encode_all, continuation, utf8_step_of, chars_of}
use Rattle.scalars.specs.Inner.{more_of, kept_of}
use Rattle.scalars.proofs.Steps.{lead_step}
use Rattle.scalars.proofs.Texts.{decode_encode}
use Rattle.std.specs.Prelude.{None}

-- the characters encode to the bytes, and the bytes decode to the characters
abbrev Example : List ℕ → List ℕ → Type 0
Example cs bs = (encode_all cs ≡ bs) × (chars_of bs ≡ cs)

example : (cs bs : List ℕ) → are_chars cs ≡ true → encode_all cs ≡ bs → Example cs bs
example cs bs s e = (e, rw (← e) (decode_encode cs s))

-- RFC 3629, section 7: "A<NOT IDENTICAL TO><ALPHA>."
not_identical : Example (0x41 ∷ 0x2262 ∷ 0x391 ∷ 0x2E ∷ []) (0x41 ∷ 0xE2 ∷ 0x89 ∷ 0xA2 ∷ 0xCE ∷ 0x91 ∷ 0x2E ∷ [])
unfolding encode_of is_char
not_identical = example _ _ refl refl

-- RFC 3629, section 7: "hangugeo", the Korean language
hangugeo : Example (0xD55C ∷ 0xAD6D ∷ 0xC5B4 ∷ []) (0xED ∷ 0x95 ∷ 0x9C ∷ 0xEA ∷ 0xB5 ∷ 0xAD ∷ 0xEC ∷ 0x96 ∷ 0xB4 ∷ [])
unfolding encode_of is_char
hangugeo = example _ _ refl refl

-- RFC 3629, section 7: "nihongo", the Japanese language
nihongo : Example (0x65E5 ∷ 0x672C ∷ 0x8A9E ∷ []) (0xE6 ∷ 0x97 ∷ 0xA5 ∷ 0xE6 ∷ 0x9C ∷ 0xAC ∷ 0xE8 ∷ 0xAA ∷ 0x9E ∷ [])
unfolding encode_of is_char
nihongo = example _ _ refl refl

-- U+233B4 behind a byte-order mark
stump : Example (0xFEFF ∷ 0x233B4 ∷ []) (0xEF ∷ 0xBB ∷ 0xBF ∷ 0xF0 ∷ 0xA3 ∷ 0x8E ∷ 0xB4 ∷ [])
unfolding encode_of is_char
stump = example _ _ refl refl

-- C0 80, an overlong form of U+0000
overlong_nul : utf8_step_of (0xC0 ∷ 0x80 ∷ []) 0 ≡ None
unfolding more_of continuation kept_of is_char
overlong_nul = sym (lead_step (0xC0 ∷ 0x80 ∷ []) 0 0xC0 (omega arith) refl)

-- ED A1 8C, a surrogate
surrogate : utf8_step_of (0xED ∷ 0xA1 ∷ 0x8C ∷ []) 0 ≡ None
unfolding more_of continuation kept_of is_char
surrogate = sym (lead_step (0xED ∷ 0xA1 ∷ 0x8C ∷ []) 0 0xED (omega arith) refl)

-- F4 90 80 80, one past U+10FFFF
past_the_last : utf8_step_of (0xF4 ∷ 0x90 ∷ 0x80 ∷ 0x80 ∷ []) 0 ≡ None
unfolding more_of continuation kept_of is_char
past_the_last = sym (lead_step (0xF4 ∷ 0x90 ∷ 0x80 ∷ 0x80 ∷ []) 0 0xF4 (omega arith) refl)
