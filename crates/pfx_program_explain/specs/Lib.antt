pub mod Notes
pub mod Explaining
