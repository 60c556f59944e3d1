pub mod Chains
pub mod Partly
pub mod Gating
pub mod Filing
pub mod Stepping
mod Examples
