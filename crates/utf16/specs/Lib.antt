-- What a reader must believe of this crate, in order: UTF-16 as the Unicode Standard has it; units read back; the two entries; what they
-- come to. `Inner` serves the private functions alone: no entry's contract cites it.
pub mod Utf16
pub mod Reading
pub mod Entries
pub mod Promises
pub mod Inner
