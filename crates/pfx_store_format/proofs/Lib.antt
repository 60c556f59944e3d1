pub mod Batches
pub mod Keeping
pub mod Leading
pub mod Nexts
pub mod Resting
pub mod Taking
