pub mod Gprs
pub mod Promises
