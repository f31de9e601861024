pub mod Keys
pub mod KeyTexts
