-- The proofs of this crate: laws that the loops cite (`Tallies`, `Words`), and what counts, digits and numbers are in other words
-- (`Laws`).
pub mod Tallies
pub mod Words
pub mod Laws
