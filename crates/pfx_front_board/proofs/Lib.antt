pub mod Words
mod Boards
pub mod Refuted
