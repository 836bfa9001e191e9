-- What a reader must believe of this crate: what a run isolates to, in document 01's words; and the entry.
-- `Inner` has the Rust's step by its two flags, and serves inner functions alone: no entry's contract cites it.
pub mod Meaning
pub mod Isolate
pub mod Inner
