pub mod Promising
pub mod Sharing
pub mod Slots
mod Commands
pub mod Keeps
mod Serving
mod RefutedFailing
mod RefutedSessions
mod SessionLemmas
mod Stepping
mod WindowLemmas
