pub mod Answers
pub mod Lent
pub mod Scanned
pub mod Trips
