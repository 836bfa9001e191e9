-- The laws of this crate: the last character appended and where 34F goes, refusals that are none and the order of refusals, stores
-- that are made or counted alone, and the sets of the steps, which are those of the pieces.
pub mod Last
pub mod Marks
pub mod Passed
pub mod Order
pub mod PieceSets
pub mod Stored
