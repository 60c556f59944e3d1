pub mod Alone
pub mod Meanings
pub mod Stages
pub mod Written
