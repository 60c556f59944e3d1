pub mod Answering
pub mod Compose
pub mod Dealt
pub mod Fits
pub mod Keeping
pub mod Places
pub mod PlainLemmas
pub mod Reweighs
pub mod Rising
pub mod Rowing
pub mod RowsLemmas
pub mod RunLemmas
pub mod Serving
pub mod SessionLemmas
pub mod Snoc
mod Examples
