pub mod Lines
pub mod Migrating
