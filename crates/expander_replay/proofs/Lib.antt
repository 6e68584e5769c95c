pub mod Surveys
pub mod Passing
