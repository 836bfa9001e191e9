-- The laws of this crate, in the order in which they lean on each other: tables that are computed; bytes as units, the rows of Table 3-5,
-- surrogates, characters as units; stretches, by which the code goes; the places of unpaired units; what the entries come to, and the
-- order of their refusals.
pub mod Examples
pub mod Units
pub mod Runs
pub mod Rows
pub mod Pairs
pub mod Texts
pub mod Stretches
pub mod Stored
pub mod Putting
pub mod Places
pub mod Laws
pub mod Answers
