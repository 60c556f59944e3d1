pub mod Sums
pub mod SumKind
