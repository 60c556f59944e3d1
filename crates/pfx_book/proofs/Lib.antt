mod Merges
pub mod Notes
pub mod Sharing
pub mod Batches
mod Keeping
mod Taking
mod Asking
mod Showing
mod Marking
mod Dealing
mod Gathering
