pub mod Gathered
pub mod Runs
pub mod Tables
pub mod Walks
