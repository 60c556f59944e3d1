pub mod Going
pub mod Ones
