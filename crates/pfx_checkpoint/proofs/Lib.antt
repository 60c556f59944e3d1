pub mod Accepted
pub mod Fronts
pub mod Readings
pub mod WholeBytes
pub mod Wholes
