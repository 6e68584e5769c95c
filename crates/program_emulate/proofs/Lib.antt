pub mod Printed
pub mod Longer
