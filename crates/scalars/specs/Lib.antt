-- What a reader must believe of this crate, in order: a character; UTF-8 as RFC 3629 has it; its grammar of section 4.
-- `Inner` serves the private functions alone: no public contract cites it.
pub mod Chars
pub mod Utf8
pub mod Abnf
pub mod Inner
