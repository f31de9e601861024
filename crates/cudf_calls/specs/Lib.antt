pub mod Calls
pub mod Working
