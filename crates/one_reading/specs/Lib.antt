-- What a reader must believe of this crate: a list of calls, and demand 3 on it; the check of a run beside it; the cases
-- checked by hand, and a list of calls worked out.
pub mod Calls
pub mod Demand
pub mod Checked
pub mod Cases
pub mod Worked
