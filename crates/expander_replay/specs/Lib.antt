pub mod Surveyed
pub mod Passing
