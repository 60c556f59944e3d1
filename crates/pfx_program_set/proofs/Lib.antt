pub mod SetLemmas
pub mod Examples
