-- The proofs of this crate: that every table rises (`Rising`), and every packed list (`Stored`); the classes with their quick ways
-- (`Classes`), and by UAX #29 (`Uax29`); what the entries answer (`Answers`).
pub mod Rising
pub mod Stored
pub mod Classes
pub mod Uax29
pub mod Answers
