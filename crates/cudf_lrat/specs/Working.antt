pub mod Numbers
pub mod Assignments
pub mod Views
pub mod Indices
pub mod Needed
pub mod Ready
