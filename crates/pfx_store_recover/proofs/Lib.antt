pub mod Looking
pub mod Numbers
pub mod Giving
pub mod Walking
pub mod Replaying
pub mod Stages
