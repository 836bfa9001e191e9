-- Any bytes as characters, and how many of the bytes are replaced: after the Unicode Standard, section 3.9, D93b and 'U+FFFD
-- Substitution of Maximal Subparts', over the whole list of bytes. The definitions are in our words, and not the Standard's.
-- It is a relation: `decoded` (proofs/Reading.antt) says that every list of bytes has a reading, `only` that it has no other.
use Rattle.std.specs.Prelude.{ℕ, ◌+◌, ◌≤◌, ◌≡◌, true, ◌⊎◌, List, [], ◌∷◌, ◌++◌, length}
use Rattle.scalars.specs.Chars.{is_char}
use Rattle.scalars.specs.Utf8.{encode_of, Encoding}

-- the offset at which the bytes l begin is unconvertible: from there on no character is encoded, however many bytes are taken
abbrev pub Unconvertible : List ℕ → Type 0
Unconvertible l = (e r : List ℕ) → Encoding e → l ≡ e ++ r → ⊥

-- the bytes p begin the encoding of a character, and are not all of it
abbrev pub Initial : List ℕ → Type 0
Initial p = (1 ≤ length p) × ((w : ℕ) × (ws : List ℕ) × Encoding (p ++ (w ∷ ws)))

-- D93b has two kinds of subpart: bytes that begin an encoding, and a single byte
abbrev pub Piece : List ℕ → Type 0
Piece p = Initial p ⊎ (length p ≡ 1)

-- the maximal subpart of the bytes l: at an unconvertible offset, the longest piece with which l begins
pub record MaximalSubpart (l p : List ℕ) : Type 0 where
  pub nothing : Unconvertible l
  pub piece : Piece p
  pub longest : (q r : List ℕ) → Piece q → l ≡ q ++ r → length q ≤ length p

-- the bytes l are read as these characters, and so many of the bytes are replaced: one U+FFFD for each maximal subpart. A U+FFFD whose
-- encoding stands in l is a character, and replaces nothing
pub data Lossy : List ℕ → List ℕ → ℕ → Type 0 where
  done : Lossy [] [] 0
  -- a character, where its encoding stands
  char : {l bs cs : List ℕ} {c n : ℕ} → is_char c ≡ true → l ≡ encode_of c ++ bs → Lossy bs cs n → Lossy l (c ∷ cs) n
  -- where none stands, U+FFFD for the maximal subpart
  bad : {l p bs cs : List ℕ} {n : ℕ} → MaximalSubpart l p → l ≡ p ++ bs → Lossy bs cs n → Lossy l (0xFFFD ∷ cs) (length p + n)
