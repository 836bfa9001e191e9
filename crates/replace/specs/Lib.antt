-- What a reader must believe of this crate: how a table of rows decides, and the rows of `replace`; beside them, as second sources, the
-- noncharacters by rule, the runs of the Rust's answers, and Unicode's decompositions.
pub mod Table
pub mod Replace
pub mod Nonchars
pub mod Runs
pub mod Decompositions
