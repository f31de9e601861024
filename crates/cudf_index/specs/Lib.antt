pub mod Satisfaction
pub mod Promises
pub mod Working
