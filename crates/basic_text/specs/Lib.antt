-- What a reader must believe of this crate: bytes as numbers, and a call's arguments and its answer as numbers. `Inner` has what only
-- the contracts of private functions cite.
pub mod Exports
pub mod Inner
