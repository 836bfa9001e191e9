-- The property page of Unicode 15.0.0: the ranges of Unicode's data files, laid out as document 01 has it in "A chunk comes in", second
-- paragraph.
use Rattle.std.specs.Prelude.{List, ◌∷◌, ◌++◌, ℕ, length}
use Rattle.ranges.specs.Ranges.{firsts_of, lasts_of}
use Rattle.page_15.specs.Unicode.{nonstarter_ranges, assigned_ranges}

-- "Then two parallel arrays of N + A numbers: firsts, then lasts, nonstarters before assigned."
abbrev firsts : List ℕ
firsts = firsts_of nonstarter_ranges ++ firsts_of assigned_ranges

abbrev lasts : List ℕ
lasts = lasts_of nonstarter_ranges ++ lasts_of assigned_ranges

-- "Sizes first: N nonstarter ranges, A assigned ranges"
unfoldable pub numbers : List ℕ
numbers = length nonstarter_ranges ∷ length assigned_ranges ∷ (firsts ++ lasts)
