pub mod Behind
pub mod Covering
pub mod Fitting
pub mod Joining
pub mod Opening
pub mod Working
