pub mod Names
pub mod Packages
pub mod Statuses
pub mod Views
