-- What a reader must believe of this crate. First the program's calls: one character and a chunk as text_input.rs has them, a scan
-- and a finish with their refusals, and what each leaves. Then the pieces of a text, its reading and its image, and streams of chunks
-- and finishes.
-- Document 01 has the finish behind the pieces. What needs no record, sets, what is appended and refusals, is of `text_input_parts`.
-- `Inner` serves inner functions and proofs alone: no entry's contract cites it.
pub mod Sets
pub mod Step
pub mod Scan
pub mod Refusals
pub mod Pieces
pub mod Streams
pub mod Inner
