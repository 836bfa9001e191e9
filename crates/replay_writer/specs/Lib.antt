-- What a reader must believe of this crate: when the comparison calls places unchanged.
pub mod Places
