pub mod Bounded
pub mod Acting
pub mod Keeping
mod Examples
