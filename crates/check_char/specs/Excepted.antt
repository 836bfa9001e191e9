-- The characters that a cleaned text may hold though the check refuses them, by Unicode's data: a second source beside the lists of the
-- check (`excepted`, specs/Check.antt), which proofs/Sources.antt proves equal. Assumes nothing.
use Rattle.std.specs.Prelude.{ℕ, Bool, true, false, ◌&&◌, List, ◌∷◌}
use Rattle.replace.specs.Table.{Span, one, in_spans}
use Rattle.check_char.specs.Unicode.{compatibility_ideographs, singleton_decomposition}

-- the blocks of the CJK compatibility ideographs and, with the option for units off, the three signs
abbrev pub excepted_among : Bool → List Span
excepted_among true = compatibility_ideographs
excepted_among false = one 0x2126 ∷ one 0x212a ∷ one 0x212b ∷ compatibility_ideographs

-- those of them whose canonical decomposition is one character
-- "With it on, a cleaned text's only remaining exceptions are the CJK compatibility ideographs."
abbrev pub excepted_by_unicode : Bool → ℕ → Bool
excepted_by_unicode units c = in_spans singleton_decomposition c && in_spans (excepted_among units) c
