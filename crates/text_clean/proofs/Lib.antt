-- The proofs of this crate, in the order in which they lean on each other: a run of bytes in two parts, which loops go by (`Append`); how
-- many places it needs, and that its counts fit (`Room`). Then what the functions' contracts rest on: stores (`Stored`); plain characters
-- and line ends (`Ready`); one turn over bytes (`Turns`); the loop and the calls (`Calls`). Then the theorems: refusals, and what calls
-- leave (`Refusals`), one text (`Reading`), a text for each line (`Lines`), a list of calls (`Listed`), what is counted by pieces (`Marks`,
-- `Counting`), calls with pushes among them (`Streams`), that the output is UTF-8 (`Valid`), and the promise (`Promise`). Last, lists of
-- calls worked out by hand (`Examples`).
pub mod Append
pub mod Room
pub mod Stored
pub mod Ready
pub mod Turns
pub mod Calls
pub mod Refusals
pub mod Reading
pub mod Lines
pub mod Listed
pub mod Marks
pub mod Counting
pub mod Streams
pub mod Valid
pub mod Promise
pub mod Examples
