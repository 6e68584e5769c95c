pub mod Head
pub mod Counts
pub mod Fixed
pub mod Script
pub mod ResumeScript
