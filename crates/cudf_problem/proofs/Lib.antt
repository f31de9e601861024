pub mod ListLemmas
pub mod FlagLemmas
pub mod IdLemmas
pub mod NumberLemmas
pub mod StatusLemmas
