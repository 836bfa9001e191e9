-- The laws of runs of plain characters, which the functions of plain.rt share.
pub mod Runs
