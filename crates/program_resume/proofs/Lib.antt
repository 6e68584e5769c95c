pub mod Telling
pub mod Keeping
pub mod Loading
pub mod Splitting
pub mod Longer
