mod Steps
mod Appends
mod Groups
mod Ends
mod Looking
mod Losses
mod Lasting
pub mod Telling
mod Refuted
mod RefutedEnds
