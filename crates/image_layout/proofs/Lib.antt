pub mod MarkLaws
pub mod ControlLaws
pub mod ImageLaws
pub mod SoundLaws
