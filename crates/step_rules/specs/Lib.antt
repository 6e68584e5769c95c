pub mod Step
pub mod Alike
pub mod Kept
pub mod Unchanged
pub mod Causes
