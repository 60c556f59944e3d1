pub mod Batches
pub mod Begins
pub mod Effect
pub mod Numbers
pub mod Reading
pub mod Records
