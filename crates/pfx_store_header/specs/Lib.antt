pub mod Answers
pub mod Headers
