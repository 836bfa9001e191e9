-- Laws that every crate leans on: going by cases on a test, stores one after the other and the loop that makes them, properties of a
-- row of places and the loop that tests them; a fold that tests every number of a run, and the loop over the blocks of a part; that no two
-- answers list alike; and what the order of refusals says.
pub mod Kit
pub mod Lists
pub mod Storing
pub mod Places
pub mod Tested
pub mod Flags
pub mod Chunks
pub mod Answers
pub mod Order
