pub mod Parts
pub mod Collecting
