pub mod Format
pub mod Places
