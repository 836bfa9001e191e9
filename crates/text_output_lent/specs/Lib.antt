-- What a reader must believe of this crate: what a call over a lent record returns and leaves.
pub mod Lent
