pub mod Notes
pub mod Answering
pub mod Promising
