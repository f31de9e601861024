pub mod Aims
pub mod Comparing
pub mod Keys
pub mod KeyViews
pub mod Promises
pub mod Ranking
pub mod Vectors
pub mod Working
