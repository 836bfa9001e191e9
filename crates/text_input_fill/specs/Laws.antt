-- What a fill that is not refused has done, in document 01's words and without the definition's own. `filled` (proofs/Laws.antt)
-- says it of every queue and buffer.
use Rattle.std.specs.Prelude.{ℕ, ◌+◌, ◌≤◌, ◌<◌, List, ◌⊎◌, ◌≡◌, length, get_or, take, drop}
use Rattle.scalars.specs.Utf8.{encode_all}

-- "queue characters are encoded while at least 4 bytes are free": t of them, with so many bytes lent. As many bytes are free before
-- a character as those before it leave.
pub record WhileFour (queue : List ℕ) (room t : ℕ) : Type 0 where
  pub first : t ≤ length queue
  -- before each that is taken, at least 4
  pub each : (i : ℕ) → i < t → length (encode_all (take i queue)) + 4 ≤ room
  -- where one is left, fewer
  pub left : t < length queue → room < length (encode_all (take t queue)) + 4

-- "then continuation bytes (80..BF) from there on are zeroed up to the first other byte": from place n on, up to place m
pub record ZeroedFrom (n m : ℕ) (before after : List ℕ) : Type 0 where
  pub begins : n ≤ m
  pub ends : m ≤ length before
  -- each byte before place m is a continuation byte, and is zeroed
  pub zeroes : (i : ℕ) → n ≤ i → i < m → (0x80 ≤ get_or before i 0) × ((get_or before i 0 ≤ 0xBF) × (get_or after i 0 ≡ 0))
  -- at place m is another byte, or the end
  pub other : m < length before → (get_or before m 0 < 0x80) ⊎ (0xBF < get_or before m 0)
  -- from there on nothing is changed
  pub rest : drop m after ≡ drop m before

-- both, one behind the other: t characters taken, n bytes filled, and the bytes after
-- "The characters taken and the bytes filled are both returned."
pub record FilledBy (queue before after : List ℕ) (t n : ℕ) : Type 0 where
  pub taken : WhileFour queue (length before) t
  pub count : n ≡ length (encode_all (take t queue))
  pub bytes : take n after ≡ encode_all (take t queue)
  pub same : length after ≡ length before
  -- the first place from n on that is not zeroed
  pub stop : ℕ
  pub zeroed : ZeroedFrom n stop before after
