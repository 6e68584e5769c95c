pub mod Facts
pub mod Views
pub mod StoredRows
pub mod ViewBack
pub mod DestBack
