-- The laws of one character of a text, which `take` and `close` cite.
pub mod Taking
