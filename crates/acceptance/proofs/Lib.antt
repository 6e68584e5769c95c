pub mod Passing
pub mod Worked
