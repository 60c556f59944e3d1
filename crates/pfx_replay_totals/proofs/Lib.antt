pub mod Closing
pub mod Examples
pub mod Gathering
pub mod Growing
pub mod Parts
pub mod Taking
pub mod Weights
pub mod Whole
