-- What a reader must believe of this crate: `Lossy`, any bytes as characters, after the Unicode Standard; and `Decode`, what the entries
-- answer and leave. Their contracts cite the machine, `Machine`, which proofs/Reading.antt holds to `Lossy`.
pub mod Lossy
pub mod Machine
pub mod Decode
