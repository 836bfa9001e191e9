-- The proofs of this crate: what its functions' contracts rest on (`Filling`), what filled bytes decode to (`Decoded`), what a fill does
-- in document 01's words (`Laws`), the Rust's answers (`Examples`), and that an answer can be read back from its numbers (`Answers`).
pub mod Filling
pub mod Decoded
pub mod Laws
pub mod Examples
pub mod Answers
