-- The laws of this crate, in the order in which they lean on each other.
pub mod Room
pub mod Sizes
pub mod Calls
pub mod Leaves
pub mod Table
pub mod Reading
pub mod Texts
pub mod Examples
