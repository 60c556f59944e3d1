pub mod Appendings
pub mod Chains
pub mod Creations
mod Examples
pub mod Fronts
pub mod Handed
pub mod Hashes
pub mod Headers
pub mod Joined
pub mod Looks
pub mod More
pub mod Next
pub mod Openings
pub mod Puts
pub mod Refusals
pub mod Spelled
pub mod Strings
