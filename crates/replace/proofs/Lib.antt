-- The proofs of this crate: a rule of a table at every number (`Rows`), two tables that say the same (`Spans`), the test of equality on
-- replacements (`Same`), that no two answers list alike (`Answers`), the noncharacters by rule (`Nonchars`), the order of refusals
-- (`Order`), and the Rust's answers (`Examples`).
pub mod Rows
pub mod Spans
pub mod Same
pub mod Answers
pub mod Nonchars
pub mod Order
pub mod Examples
