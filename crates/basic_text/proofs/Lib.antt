-- The laws that the exports' proofs share.
pub mod Laws
pub mod Crossing
pub mod Stores
pub mod Loop
pub mod Calls
pub mod Pages
pub mod Moved
