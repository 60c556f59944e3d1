pub mod Machine
pub mod Paths
pub mod Holding
pub mod Keeping
pub mod Claiming
pub mod Worked
mod Examples
mod Refuted
