pub mod Calling
pub mod Keeping
pub mod Ends
mod Rooms
pub mod Joins
pub mod Checkpoints
