pub mod DestRows
pub mod Promises
