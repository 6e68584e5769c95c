pub mod Field
pub mod Bytes
pub mod Overwrite
pub mod Ranges
pub mod Copies
pub mod Values
