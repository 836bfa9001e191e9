-- Counts over bytes. Assumes nothing.
use Rattle.std.specs.Prelude.{ℕ, ◌+◌, Bool, cond, ◌||◌, List, [], ◌∷◌, eqb, ltb}

-- of how many bytes a test says yes
unfoldable pub tally : (ℕ → Bool) → List ℕ → ℕ
tally is [] = 0
tally is (b ∷ bs) = cond (is b) 1 0 + tally is bs

-- 0A, with which a line ends
abbrev pub is_newline : ℕ → Bool
is_newline b = eqb b 0x0a

-- RFC 3629: every byte of a character but its first is 80 to BF
abbrev pub is_start : ℕ → Bool
is_start b = ltb b 0x80 || ltb 0xbf b

abbrev pub newlines : List ℕ → ℕ
newlines = tally is_newline

abbrev pub starts : List ℕ → ℕ
starts = tally is_start

-- how many bytes of a line stand before the end of the bytes, where n of the line that they begin in stand before them
unfoldable pub since_newline : ℕ → List ℕ → ℕ
since_newline n [] = n
since_newline n (b ∷ bs) = since_newline (cond (is_newline b) 0 (n + 1)) bs
