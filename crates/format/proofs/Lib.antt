pub mod Fields
pub mod Lawful
pub mod Writes
pub mod Joins
pub mod Runs
