pub mod Answers
pub mod Choosing
pub mod Finding
pub mod Formats
pub mod Looking
pub mod Walking
