-- The laws of this crate, in the order in which they lean on each other.
pub mod Laws
pub mod Means
pub mod Stretch
pub mod Run
pub mod Order
pub mod Examples
