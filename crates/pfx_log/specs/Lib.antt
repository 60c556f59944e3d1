pub mod Acts
pub mod Faults
pub mod Files
pub mod Holding
pub mod Logs
pub mod Reading
