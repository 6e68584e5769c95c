pub mod Bounds
pub mod Limits
pub mod Examples
pub mod Views
pub mod Tests
pub mod Covering
pub mod Apart
pub mod Halves
