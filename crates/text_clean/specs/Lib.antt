-- What a reader must believe of this crate: one character of a text and what is counted of it; a call on bytes, with its refusals and
-- what it leaves; a list of calls, the promise on it, and what it comes to with pushes among them (`Streams`).
-- `Inner` serves inner functions and proofs alone: no entry's contract cites it.
pub mod Text
pub mod Clean
pub mod Refusals
pub mod Calls
pub mod Promise
pub mod Streams
pub mod Inner
