pub mod Walks
pub mod WalkBytes
pub mod WalkKind
pub mod Laws
