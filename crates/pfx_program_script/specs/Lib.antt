pub mod Weights
pub mod Verbs
pub mod Records
pub mod Whole
pub mod Heard
pub mod Quoting
pub mod Ends
