pub mod Balance
pub mod Gathering
pub mod Lane
pub mod Laws
pub mod Work
