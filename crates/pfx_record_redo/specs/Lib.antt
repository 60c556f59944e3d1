pub mod Applying
pub mod Recording
