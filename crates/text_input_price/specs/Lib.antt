-- What a reader must believe of this crate: what asking and committing answer and leave; the same once more as laws, against the plain
-- scan.
pub mod Price
pub mod Laws
