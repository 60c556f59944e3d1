pub mod Areas
pub mod Batches
pub mod Format
pub mod Frames
pub mod Idle
pub mod Taking
