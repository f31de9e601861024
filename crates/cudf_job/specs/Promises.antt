pub mod Aims
pub mod Keys
