pub mod Merging
pub mod Batching
pub mod Notes
pub mod Lines
pub mod Register
pub mod Kept
pub mod Calls
pub mod Trying
