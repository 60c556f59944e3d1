pub mod Checks
pub mod Faults
pub mod Nexts
pub mod Plans
pub mod Sets
pub mod Weights
