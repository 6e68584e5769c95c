pub mod CarriedFormat
