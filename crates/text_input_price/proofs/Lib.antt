-- The proofs of this crate: what the entries' contracts rest on (`Calls`), asking and committing against the plain scan (`Laws`), lists of
-- calls with the oracle's answers (`Examples`), and that an answer can be read back from its numbers (`Answers`).
pub mod Calls
pub mod Laws
pub mod Examples
