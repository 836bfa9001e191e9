-- Demand 3 with what leads to it; the check of a run beside it; the cases checked by hand, and the worked list of calls.
pub mod Holds
pub mod Accepts
pub mod Listed
pub mod Demand
pub mod Checked
pub mod Cases
pub mod Worked
