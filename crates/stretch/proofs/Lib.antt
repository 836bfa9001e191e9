-- The proofs of this crate: what is sought, which gaps are plain, parts of a list, and loops that go by parts.
pub mod Seeking
pub mod Clear
pub mod Parts
pub mod Way
