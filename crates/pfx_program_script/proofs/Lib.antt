pub mod Texts
pub mod WeightLemmas
pub mod Passing
pub mod Quotes
pub mod NextRecords
pub mod Taking
pub mod Examples
