-- What a reader must believe of this crate: when the comparison calls places blank.
pub mod Blank
