pub mod Checks
pub mod Faults
pub mod Going
pub mod Laws
pub mod Text
