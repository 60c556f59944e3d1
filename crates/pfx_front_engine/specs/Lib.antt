pub mod Keeping
pub mod KeepingLaws
pub mod Asking
