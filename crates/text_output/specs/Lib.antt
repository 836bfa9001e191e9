-- What a reader must believe of the writer, its writes among it, whose code is the crate `text_output_write`: the record and what its calls
-- answer; what stays kept; one character in one state; the two writes; flush, close and abandon; what it is for a queue to pass; what
-- each refusal leaves; the words of the laws on these, and what else each call leaves.
pub mod Writer
pub mod Kept
pub mod Step
pub mod Write
pub mod Close
pub mod Passing
pub mod Refusals
pub mod Orders
pub mod Corners
