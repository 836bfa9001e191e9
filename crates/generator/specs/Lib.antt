-- What a reader must believe of this crate: the state, the list and filling; then what they come to.
pub mod Generator
pub mod Promises
