pub mod Choices
pub mod Ranges
pub mod Bytes
pub mod Overwrite
pub mod Copies
pub mod Values
