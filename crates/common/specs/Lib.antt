-- What a reader must believe of this crate: an answer by document 01's numbers, and the refusal by the places lent; the order of an
-- entry's refusals; what exactly one is. Lent places as a call leaves them are `sets` of the library wherever they are written: `sets places i xs` has xs
-- from place i on, and the others as they were.
pub mod Answers
pub mod Order
pub mod Only
