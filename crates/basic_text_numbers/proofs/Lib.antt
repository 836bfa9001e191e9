-- The laws that the proofs of other crates cite.
pub mod Back
