pub mod Device
pub mod Outcomes
pub mod Promises
pub mod Readers
pub mod Working
pub mod Writers
