-- What a reader must believe of this crate: sets of characters, of the steps and of the pieces, what is appended, and the refusals of
-- a scan.
pub mod Sets
pub mod PieceSets
pub mod Appended
pub mod Refusals
