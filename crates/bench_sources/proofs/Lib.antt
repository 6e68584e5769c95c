pub mod Facts
pub mod SourceBack
