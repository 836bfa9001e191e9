-- What a reader must believe of this crate: the rows of the check, what each answer says, and a reason as plain numbers; beside the
-- rows, as second sources, Unicode's own lists and the runs of the Rust's answers.
pub mod Check
pub mod Numbers
pub mod Unicode
pub mod Excepted
pub mod Runs
