pub mod Marks
pub mod Control
pub mod Image
pub mod Places
pub mod Sound
