pub mod Told
pub mod Resume
