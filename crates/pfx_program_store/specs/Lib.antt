pub mod Ending
pub mod Running
pub mod Noting
pub mod Serving
pub mod Causes
