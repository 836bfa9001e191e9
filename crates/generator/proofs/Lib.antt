-- The laws of this crate, in the order in which they lean on each other: a table that is computed; steps modulo
-- any number; what the generator comes to; the loop that fills.
pub mod Examples
pub mod Modulo
pub mod Laws
pub mod Filling
