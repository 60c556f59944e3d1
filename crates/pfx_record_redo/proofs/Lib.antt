pub mod Rows
pub mod Effects
pub mod Commons
pub mod Rightness
pub mod Renewing
pub mod Outcomes
pub mod Merging
pub mod States
