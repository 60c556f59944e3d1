pub mod Leading
pub mod Keeping
