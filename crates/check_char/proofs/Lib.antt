-- The proofs of this crate: from the check's answer to those of the entries (`Answers`), and what replacement and check do to every
-- character (`Clean`); the check's lists held to Unicode's (`Sources`), the Rust's answers (`Examples`), the
-- order of refusals (`Order`), what one carries (`Carried`), and that no two answers list alike (`Back`); the step of `Categorize`
-- (`Categories`).
pub mod Answers
pub mod Clean
pub mod Sources
pub mod Examples
pub mod Order
pub mod Carried
pub mod Back
pub mod Categories
