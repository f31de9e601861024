pub mod Failure
pub mod Inputs
pub mod Program
