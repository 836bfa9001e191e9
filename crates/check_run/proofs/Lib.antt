-- What the answer says, in document 02's words, and rows with the oracle's answers; the order of refusals, and answers read back; what
-- the code goes by.
pub mod Examples
pub mod Laws
pub mod Answers
pub mod Faults
pub mod Allowed
