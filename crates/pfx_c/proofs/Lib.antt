pub mod Answering
mod Examples
pub mod Laying
