pub mod Bounds
pub mod Courses
pub mod Drawn
pub mod Failures
pub mod Pieces
