pub mod Found
pub mod Spelling
pub mod Whole
