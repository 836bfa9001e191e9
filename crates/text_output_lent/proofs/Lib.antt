-- What the functions over a lent record, and those that lend their record, have in common.
pub mod Lent
pub mod Loan
