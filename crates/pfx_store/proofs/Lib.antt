mod Appends
pub mod Behinds
mod Counts
mod Made
mod Marking
pub mod Areas
mod Standings
pub mod Filing
mod Replies
pub mod Grouping
mod Heading
pub mod Keeping
