pub mod Ways
pub mod Alike
pub mod Kept
pub mod Unchanged
pub mod Offering
pub mod Refusing
pub mod Causes
