-- What a reader must believe of this crate: what a fill answers, and the bytes that it leaves; the same once more as laws, in document
-- 01's words.
pub mod Fill
pub mod Laws
