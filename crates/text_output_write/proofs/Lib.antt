-- The laws of this crate, in the order in which they lean on each other.
pub mod Asked
pub mod Stores
pub mod Rest
pub mod Stays
pub mod Progress
pub mod Turns
pub mod Runs
pub mod Ends
pub mod Entries
