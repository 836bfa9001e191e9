-- Which pages are accepted, clause by clause: document 01, "A chunk comes in", second paragraph, over the places of the page itself.
-- Nothing here is taken from Page.antt: `clauses_of_accepted` and `accepted_of_clauses` (proofs/Clauses.antt) say that its test and
-- these clauses are the same.
use Rattle.std.specs.Prelude.{◌≡◌, List, ℕ, suc, ◌+◌, ◌*◌, ◌≤◌, ◌<◌, length, get_or}

-- "Sizes first: N nonstarter ranges, A assigned ranges"
abbrev pub count_n : List ℕ → ℕ
count_n p = get_or p 0 0

abbrev pub count_a : List ℕ → ℕ
count_a p = get_or p 1 0

-- "Then two parallel arrays of N + A numbers: firsts, then lasts, nonstarters before assigned.": the i'th range of each group
abbrev pub nonstarter_first : List ℕ → ℕ → ℕ
nonstarter_first p i = get_or p (2 + i) 0

abbrev pub nonstarter_last : List ℕ → ℕ → ℕ
nonstarter_last p i = get_or p (2 + (count_n p + count_a p + i)) 0

abbrev pub assigned_first : List ℕ → ℕ → ℕ
assigned_first p i = get_or p (2 + (count_n p + i)) 0

abbrev pub assigned_last : List ℕ → ℕ → ℕ
assigned_last p i = get_or p (2 + (count_n p + count_a p + (count_n p + i))) 0

-- a group of n ranges
pub record Group (n : ℕ) (first last : ℕ → ℕ) : Type 0 where
  -- "every first is at most its last"
  pub ordered : (i : ℕ) → i < n → first i ≤ last i
  -- "every first exceeds the last before it"
  pub exceeds : (i : ℕ) → suc i < n → last i < first (suc i)
  -- "no last exceeds 10FFFF"
  pub top : (i : ℕ) → i < n → last i ≤ 0x10FFFF

-- a number lies in one of a group's ranges
pub record InGroup (n : ℕ) (first last : ℕ → ℕ) (c : ℕ) : Type 0 where
  pub at : ℕ
  pub there : at < n
  pub from : first at ≤ c
  pub to : c ≤ last at

abbrev pub IsNonstarter : List ℕ → ℕ → Type 0
IsNonstarter p c = InGroup (count_n p) (nonstarter_first p) (nonstarter_last p) c

abbrev pub IsAssigned : List ℕ → ℕ → Type 0
IsAssigned p c = InGroup (count_a p) (assigned_first p) (assigned_last p) c

pub record Clauses (p : List ℕ) : Type 0 where
  -- "Sizes first"
  pub sizes : 2 ≤ length p
  -- "(0 to 2,048 each)"
  pub nonstarter_ranges : count_n p ≤ 2048
  pub assigned_ranges : count_a p ≤ 2048
  -- "The length is exactly 2 + 2 × (N + A)."
  pub exactly : length p ≡ 2 + 2 * (count_n p + count_a p)
  -- "In each group every first is at most its last, every first exceeds the last before it, and no last exceeds 10FFFF."
  pub nonstarters : Group (count_n p) (nonstarter_first p) (nonstarter_last p)
  pub assigneds : Group (count_a p) (assigned_first p) (assigned_last p)
  -- "000A and 034F are assigned"
  pub assigned_000a : IsAssigned p 0x000A
  pub assigned_034f : IsAssigned p 0x034F
  -- "000A, 0020 and 034F are no nonstarters"
  pub starter_000a : IsNonstarter p 0x000A → ⊥
  pub starter_0020 : IsNonstarter p 0x0020 → ⊥
  pub starter_034f : IsNonstarter p 0x034F → ⊥
