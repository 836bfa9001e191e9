-- What a reader must believe of this crate: the rules of a run and its faults, and the entry. `Inner` serves an inner function alone.
pub mod Rules
pub mod Check
pub mod Inner
