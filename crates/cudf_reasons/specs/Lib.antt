pub mod Reasons
pub mod Laws
pub mod Views
pub mod Working
