-- The laws of this crate, in the order in which they lean on each other.
pub mod Rows
pub mod Steps
pub mod Grammar
pub mod Texts
pub mod Ascii
pub mod Examples
