pub mod Sources
pub mod Promises
