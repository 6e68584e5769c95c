pub mod Heads
pub mod Fits
pub mod OneSize
pub mod Sound
pub mod Streams
pub mod Longer
