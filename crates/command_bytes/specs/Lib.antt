-- What a reader must believe of this crate: counts over bytes, and a page's text as numbers (`Digits`, `Words`).
pub mod Counts
pub mod Digits
pub mod Words
