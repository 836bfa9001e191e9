-- The proofs of this crate: the page is accepted (`Accepted`), and what it says of characters (`Characters`).
pub mod Accepted
pub mod Characters
