-- The proofs of this crate. First the readings and what the scanner makes of them: every text has one reading (`Unique`), the scanner
-- over one piece (`Run`), over a text (`Meaning`), over chunks (`Chunks`) and over streams (`Streams`); the room a call needs (`Room`),
-- what the queue holds (`Clean`), the order of refusals and what each leaves (`Refusals`), what each option does (`Sets`); lists of calls with
-- the answers of the Rust (`Examples`). Then what the functions' contracts rest on.
pub mod Sets
pub mod Recognise
pub mod Cut
pub mod Unique
pub mod Run
pub mod Meaning
pub mod Chunks
pub mod Streams
pub mod Room
pub mod Clean
pub mod Refusals
pub mod Examples
pub mod Stretch
pub mod Loop
pub mod Calls
