pub mod Name
pub mod Word
pub mod Shown
pub mod Publisher
pub mod Lasting
