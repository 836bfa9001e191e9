-- What a reader must believe of this crate: which numbers the page of Unicode 15.0.0 is (`Numbers`), and the ranges of Unicode's data
-- files from which it is laid out (`Unicode`).
pub mod Unicode
pub mod Numbers
