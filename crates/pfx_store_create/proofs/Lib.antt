pub mod Creations
pub mod NewBytes
pub mod NewStores
mod GatedToys
