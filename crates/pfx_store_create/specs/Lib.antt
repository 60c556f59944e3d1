pub mod Attempts
pub mod Creating
pub mod GatedToy
pub mod NewPlaces
