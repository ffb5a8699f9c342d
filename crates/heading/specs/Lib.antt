pub mod Writing
pub mod Decimal
