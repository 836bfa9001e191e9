-- What a reader must believe of this crate: Unicode's lists, and the classes as the Rust takes them together; and the same classes by
-- UAX #29, from a file of its own.
pub mod Tables
pub mod Classes
pub mod Breaks
pub mod Uax29
