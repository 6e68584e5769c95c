pub mod Facts
pub mod GprBack
