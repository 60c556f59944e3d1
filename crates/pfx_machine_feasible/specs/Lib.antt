pub mod Commands
pub mod Endless
pub mod Lives
pub mod Moves
