pub mod Balance
pub mod Closed
pub mod Columns
pub mod Decide
pub mod Endless
mod Examples
pub mod First
pub mod Levels
pub mod Living
pub mod Matrices
pub mod Moves
pub mod Plans
pub mod Runs
pub mod Rows
pub mod Serving
pub mod Sums
