-- What the private functions of src/utf8.rt answer: the step, by the rows of RFC 3629, section 3, read byte by byte (document 01, "The
-- UTF-8 step answers an enum"), and runs of ASCII. No entry's contract cites this file.
use Rattle.std.specs.Prelude.{ℕ, ◌+◌, ◌-◌, ◌*◌, ◌≤◌, ◌<◌, ◌≡◌, cond, ◌&&◌, List, length, get_or, take, drop, leb, Option, Some, None}
use Rattle.std.proofs.lemmas.List.Edits.{sets}
use Rattle.scalars.specs.Chars.{is_char}
use Rattle.scalars.specs.Utf8.{continuation}

-- the bits with the six of the byte at i behind them, if it is a continuation byte
unfoldable pub more_of : List ℕ → ℕ → ℕ → Option ℕ
more_of bs i bits = cond (continuation (get_or bs i 0)) (Some (bits * 64 + (get_or bs i 0 - 0x80))) None

-- goes on with the bits, and stops where a byte is missing
abbrev pub on_bits : Option ℕ → (ℕ → Option (ℕ × ℕ)) → Option (ℕ × ℕ)
on_bits (Some v) go = go v
on_bits None go = None

-- a value is kept if it is a character that needs so many bytes
unfoldable pub kept_of : ℕ → ℕ → ℕ → Option (ℕ × ℕ)
kept_of least c next = cond (leb least c && is_char c) (Some (c, next)) None

-- the rows of the table, from the bits of the lead byte at `at`
abbrev pub two_of : List ℕ → ℕ → ℕ → Option (ℕ × ℕ)
two_of bs at lead = on_bits (more_of bs (at + 1) lead) (λ v. kept_of 0x80 v (at + 2))

abbrev pub three_of : List ℕ → ℕ → ℕ → Option (ℕ × ℕ)
three_of bs at lead = on_bits (more_of bs (at + 1) lead) (λ v. on_bits (more_of bs (at + 2) v) (λ w. kept_of 0x800 w (at + 3)))

abbrev pub four_of : List ℕ → ℕ → ℕ → Option (ℕ × ℕ)
four_of bs at lead =
    on_bits (more_of bs (at + 1) lead)
    (λ v. on_bits (more_of bs (at + 2) v) (λ w. on_bits (more_of bs (at + 3) w) (λ x. kept_of 0x10000 x (at + 4))))

-- ---- ASCII
-- all bytes from place f up to place t are below 80
abbrev pub Ascii : List ℕ → ℕ → ℕ → Type 0
Ascii bs f t = (x : ℕ) → f ≤ x → x < t → get_or bs x 0 < 0x80

-- the same, where t is not past stop
pub record AsciiTo (bs : List ℕ) (f stop t : ℕ) : Type 0 where
  pub begun : f ≤ t
  pub low : t ≤ stop
  pub each : Ascii bs f t

-- the same, where out has room for them from place k on, and is `after` with them stored there
pub record AsciiIn (bs : List ℕ) (f : ℕ) (out : List ℕ) (k t : ℕ) (after : List ℕ) : Type 0 where
  pub to : AsciiTo bs f (length bs) t
  pub room : k + (t - f) ≤ length out
  pub places : after ≡ sets out k (take (t - f) (drop f bs))
