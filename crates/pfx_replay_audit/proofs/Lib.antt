mod Found
pub mod Chaining
pub mod Disks
pub mod Ending
pub mod Examples
pub mod Excluding
pub mod Folding
pub mod Logging
pub mod Marking
pub mod Reading
pub mod Splits
pub mod Telling
pub mod Whole
