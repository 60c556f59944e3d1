pub mod Growing
pub mod Seats
