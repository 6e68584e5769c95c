pub mod Rows
pub mod Flags
pub mod Maps
pub mod Examples
pub mod Cover
